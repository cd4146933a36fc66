-- Landings in first-come order, 180 seconds apart or more, each within its one window, keep the rules.
use Rattle.std.proofs.Common.{◌≡◌, ℕ, ◌+◌, ◌<◌, ◌≤◌, ◌⊎◌, inl, inr, List, [], ◌∷◌, map, filter, true, false}
use Rattle.std.proofs.Common.{Bool, None, refl, sym, ap, subst, ◌∙◌, arith}
use Rattle.std.specs.Prelude.{All, IsTrue, count_by, is_none, nat_lt}
use Rattle.std.specs.Ordering.{is_lt}
use Rattle.std.proofs.lemmas.Bool.{lt-ltb, le-ltb}
use Rattle.std.proofs.lemmas.Cmp.{tied_itself}
use Rattle.std.proofs.lemmas.Grind.{common_steps}
use Rattle.std.proofs.lemmas.List.Sums.{sum_by-cons}
use Rattle.wake_table.specs.declared.category.Category.{Category}
use Rattle.wake_table.specs.Table.{separation, sample_table}
use Rattle.landing_rules.specs.Flights.{Flight, Landing, Situation, horizon}
use Rattle.landing_rules.specs.Rules.{ArePairSeparated, IsFrozenKept, IsPairInPrecedence, IsShiftKept, KeepsRules}
use Rattle.landing_rules.specs.Rules.{arrival_cmp, is_open, last_second, place, rank_among, waits}
use Rattle.landing_rules.specs.shared.Ranks.{arrival_total}
use Rattle.landing_rules.specs.shared.Counting.{Member}
use Rattle.landing_rules.specs.shared.Members.{all_from}
use Rattle.landing_rules.specs.shared.OneList.{AscendBy}
use Rattle.traffic_gen.specs.Flights.{window_from}

-- no separation of the sample table is greater
pub few_apart : (a b : Category) → separation sample_table a b ≤ 180
unfolding separation
few_apart a b = grind (arith, common_steps)

-- a flight that waits, was passed by none and lists none, within its one window
pub record IsEasy (f : Landing) : Type 0 where
  pub waits : f.frozen ≡ None
  pub unpassed : f.passed ≡ 0
  pub alone : f.flight.after ≡ []
  pub window : f.flight.windows ≡ window_from f.flight.eta
  pub begun : f.flight.eta ≤ f.second
  pub ended : f.second ≤ f.flight.eta + 7199
  pub days : f.second ≤ last_second

-- it comes and lands later, and lands 180 seconds later or more
abbrev pub IsBehind : Landing → Landing → Type 0
IsBehind f g = (f.flight.eta < g.flight.eta) × (f.second + 180 ≤ g.second)

count_agree : {X : Type 0} (p q : X → Bool) (xs : List X) → ((x : X) → Member x xs → p x ≡ q x)
    → count_by p xs ≡ count_by q xs
count_agree p q [] h = refl
count_agree {X} p q (x ∷ xs) h = grind (arith, common_steps, sum_by-cons, count_agree p q xs (λ y i. h y (inr i)))

count_map : {X Y : Type 0} (p : Y → Bool) (f : X → Y) (xs : List X) → count_by p (map f xs) ≡ count_by (λ x. p (f x)) xs
count_map p f xs = grind (arith, common_steps)

-- by estimates alone, where these differ
earlier_is : (f g : Flight) → f.eta < g.eta → is_lt (arrival_cmp f g) ≡ true
earlier_is f g lt = rw (lt-ltb f.eta g.eta lt) refl

later_is : (f g : Flight) → g.eta < f.eta → is_lt (arrival_cmp f g) ≡ false
later_is f g lt = grind arith

module _ (fs : List Landing) (easy : (f : Landing) → Member f fs → IsEasy f) (behind : AscendBy IsBehind fs) where
  all_wait : (gs : List Landing) → ((f : Landing) → Member f gs → IsEasy f) → filter waits gs ≡ gs
  all_wait [] h = refl
  all_wait (g ∷ gs) h =
      let here : waits g ≡ true = ap is_none (h g (inl refl)).waits in
      let rest = all_wait gs (λ f i. h f (inr i)) in
      rw (here, rest) refl

  -- of two of them one is behind the other
  apart : (gs : List Landing) → AscendBy IsBehind gs → (f g : Landing) → Member f gs → Member g gs
      → (f ≡ g) ⊎ (IsBehind f g ⊎ IsBehind g f)
  apart [] up f g i j = absurd i
  apart (x ∷ gs) up f g (inl a) (inl b) = inl (a ∙ sym b)
  apart (x ∷ gs) up f g (inl a) (inr j) = inr (inl (subst (λ (y : Landing). IsBehind y g) (sym a) (up.0 g j)))
  apart (x ∷ gs) up f g (inr i) (inl b) = inr (inr (subst (λ (y : Landing). IsBehind y f) (sym b) (up.0 f i)))
  apart (x ∷ gs) up f g (inr i) (inr j) = apart gs up.1 f g i j

  far : (f g : Landing) → Member f fs → Member g fs → ArePairSeparated sample_table f g
  far f g i j other le = grind (arith, apart, few_apart)

  -- who comes before lands before
  same_test : (f g : Landing) → Member f fs → Member g fs
      → is_lt (arrival_cmp g.flight f.flight) ≡ nat_lt g.second f.second
  same_test f g i j = grind (arith, apart, later_is, le-ltb, earlier_is, lt-ltb, tied_itself, arrival_total)

  same_place : (f : Landing) → Member f fs → rank_among fs f ≡ place fs f
  same_place f i = grind (arith, count_map, count_agree, same_test)

  is_opened : (f : Landing) → IsEasy f → is_open f.flight.windows [] f.second ≡ true
  is_opened f e = grind arith

  pub keeps : (k : ℕ) (s : Situation) → s.closures ≡ [] → s.clock ≡ None → s.aerodrome.table ≡ sample_table
      → s.aerodrome.k ≡ k → KeepsRules s fs
  keeps k s open_all no_clock table k_is = record {
    in_days = all_from (λ f. f.second ≤ last_second) fs (λ f i. (easy f i).days);
    open_seconds = all_from (λ f. IsTrue (is_open f.flight.windows s.closures f.second)) fs
        (λ f i. rw open_all (is_opened f (easy f i)));
    separated = all_from (λ f. All (ArePairSeparated s.aerodrome.table f) fs) fs
        (λ f i. all_from (ArePairSeparated s.aerodrome.table f) fs (λ g j. rw table (far f g i j)));
    in_precedence = all_from (λ f. All (IsPairInPrecedence f) fs) fs
        (λ f i. all_from (IsPairInPrecedence f) fs (λ g j. none_first f g (easy g j).alone));
    shift = rw (all_wait fs easy) (all_from (IsShiftKept s.aerodrome.k fs) fs (λ f i. kept s.aerodrome.k f i));
    frozen_kept = all_from (IsFrozenKept (horizon s)) fs (λ f i. free f (easy f i).waits);
  }
    where
      none_first : (f g : Landing) → g.flight.after ≡ [] → IsPairInPrecedence f g
      none_first f g none listed = grind arith

      kept : (m : ℕ) (f : Landing) → Member f fs → IsShiftKept m fs f
      kept m f i = let same = same_place f i in let none =
          (easy f i).unpassed in (omega (arith, same), omega (arith, same, none))

      free : (f : Landing) → f.frozen ≡ None → IsFrozenKept (horizon s) f
      free f none = rw (none, no_clock) (omega arith)
