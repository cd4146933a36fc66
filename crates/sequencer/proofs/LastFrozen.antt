-- The frozen landing that is last, found by its second.
use Rattle.std.proofs.Common.{◌≡◌, ℕ, zero, suc, ◌<◌, List, [], ◌∷◌, length, get_or, map, take, reverse, Option, Some}
use Rattle.std.proofs.Common.{None, inl, inr, refl, sym, ap, ap₂, ◌∙◌, arith}
use Rattle.std.specs.Prelude.{option_map, slice_get}
use Rattle.std.specs.List.{AllWithin, HoldsAt}
use Rattle.std.proofs.lemmas.Bool.{cases_order}
use Rattle.std.proofs.lemmas.List.{get_or_default, length-map}
use Rattle.std.proofs.lemmas.List.Elements.{Contains-from_at}
use Rattle.std.proofs.lemmas.List.Sorted.{IsPermutation-reverse, IsPermutation-sym}
use Rattle.std.proofs.lemmas.Option.{same_Some}
use Rattle.wake_table.specs.declared.category.Category.{Category}
use Rattle.landing_rules.specs.Flights.{Active, Landing, Situation, landing}
use Rattle.landing_rules.specs.Events.{frozen_landings, in_landing_order}
use Rattle.landing_rules.specs.Problem.{last_of}
use Rattle.landing_rules.specs.Sound.{IsSound}
use Rattle.landing_rules.specs.Text.{ShownLanding, ShownPlan, shown_landing}
use Rattle.landing_rules.specs.shared.Counting.{Member}
use Rattle.landing_rules.specs.shared.Members.{cases_option, contains_member, frozen_in, in_frozen, member_contains}
use Rattle.landing_rules.specs.shared.Members.{member_permutation}
use Rattle.landing_joint.specs.shared.LandingsInOrder.{order_member}
use Rattle.sequencer.specs.Frozen.{frozen_shown, frozen_there, BeginsWithFrozen}
use Rattle.sequencer.proofs.Fronts.{seconds_apart, there_at}

abbrev second_of : Option (ℕ × Category) → Option ℕ
second_of o = option_map (λ l. l.0) o

-- ---- its second is that of the last one shown

last_at : (all : List Landing) (n : ℕ) (l : ShownLanding) → slice_get (map shown_landing all) n ≡ Some l
    → suc n ≡ length all → second_of (last_of all) ≡ Some l.second
last_at [] n l e long = absurd (omega arith)
last_at (f ∷ []) zero l e long = ap (λ k. Some k.second) (same_Some _ l e)
last_at (f ∷ []) (suc n) l e long = absurd (omega arith)
last_at (f ∷ g ∷ rest) zero l e long = absurd (omega arith)
last_at (f ∷ g ∷ rest) (suc n) l e long = last_at (g ∷ rest) n l e (omega arith)

in_first : (k n : ℕ) (ls : List ShownLanding) → n < k → slice_get (take k ls) n ≡ slice_get ls n
in_first zero n ls lt = absurd (omega arith)
in_first (suc k) n [] lt = refl
in_first (suc k) zero (x ∷ xs) lt = refl
in_first (suc k) (suc n) (x ∷ xs) lt = in_first k n xs (omega arith)

pub front_last : (s : Situation) (plan : ShownPlan) (n : ℕ) (l : ShownLanding) → BeginsWithFrozen s plan
    → suc n ≡ length (frozen_shown s) → slice_get plan.landings n ≡ Some l →
    second_of (last_of (in_landing_order (frozen_landings s))) ≡ Some l.second
front_last s plan n l begins long e =
    let all = in_landing_order (frozen_landings s) in
    let k = length (frozen_shown s) in
    let m = length-map all shown_landing in
    last_at all n (frozen_there l) (rw begins at (there_at _ n l (in_first k n plan.landings (omega arith) ∙ e)))
    (omega arith)

-- ---- the flight of that second

last_member : (all : List Landing) (l : ℕ × Category) → last_of all ≡ Some l → (f : Landing)
    × Member f all × ((f.second, f.flight.category) ≡ l)
last_member [] l e = let w : None ≡ Some l = e in absurd (cc)
last_member (f ∷ []) l e = (f, inl refl, same_Some (f.second, f.flight.category) l e)
last_member (f ∷ g ∷ rest) l e = let r = last_member (g ∷ rest) l e in (r.0, inr r.1, r.2)

-- it is frozen there
pub last_frozen_at : (s : Situation) (l : ℕ × Category) → last_of (in_landing_order (frozen_landings s)) ≡ Some l →
    (a : Active) × Member a s.active × (a.frozen ≡ Some l.0) × (a.flight.category ≡ l.1)
last_frozen_at s l e =
    let r = last_member _ l e in
    let b = in_frozen s.active r.0 (order_member r.0 _ r.1) in
    let at : b.1 ≡ l.0 = ap (λ f. f.second) (sym b.4) ∙ ap (λ p. p.0) r.2 in
    (b.0, b.2, b.3 ∙ ap (λ t. Some t) at, ap (λ f. f.flight.category) (sym b.4) ∙ ap (λ p. p.1) r.2)

-- and no other is
one_at : (s : Situation) → IsSound s → (a b : Active) (m : ℕ) → Member a s.active → Member b s.active
    → a.frozen ≡ Some m → b.frozen ≡ Some m → a.flight.category ≡ b.flight.category
one_at s sound a b m ma mb fa fb =
    let fs = frozen_landings s in
    let f = landing a m in
    let g = landing b m in
    let i = member_contains fs f (frozen_in s.active a m ma fa) in
    let j = member_contains fs g (frozen_in s.active b m mb fb) in
    let li = i.1 in
    let lj = j.1 in
    let at : get_or fs j.0 f ≡ g = get_or_default fs j.0 f g lj ∙ j.2 in
    let same : (get_or fs i.0 f).second ≡ (get_or fs j.0 f).second =
    ap (λ x. x.second) i.2 ∙ ap (λ x. x.second) (sym at) in
    elim (cases_order i.0 j.0) [
      | inl q ↦ ap (λ x. x.flight.category) (sym i.2 ∙ ap (λ k. get_or fs k f) q ∙ at)
      | inr (inl lt) ↦ absurd (seconds_apart s sound i.0 j.0 f lt lj same)
      | inr (inr gt) ↦ absurd (seconds_apart s sound j.0 i.0 f gt li (sym same))
    ]

last_found : (s : Situation) (m : ℕ) → second_of (last_of (in_landing_order (frozen_landings s))) ≡ Some m
    → (l : ℕ × Category) × (last_of (in_landing_order (frozen_landings s)) ≡ Some l) × (l.0 ≡ m)
last_found s m e = elim (cases_option (last_of (in_landing_order (frozen_landings s)))) [
  | inl none ↦ (let w : None ≡ Some m = sym (ap second_of none) ∙ e in absurd (cc))
  | inr l ↦ (l.0, l.1, same_Some l.0.0 m (sym (ap second_of l.1) ∙ e))
]

pub found_last : (s : Situation) → IsSound s → (m : ℕ) (a : Active)
    → second_of (last_of (in_landing_order (frozen_landings s))) ≡ Some m → Member a s.active → a.frozen ≡ Some m →
    Some (m, a.flight.category) ≡ last_of (in_landing_order (frozen_landings s))
found_last s sound m a e ma fa =
    let l = last_found s m e in
    let b = last_frozen_at s l.0 l.1 in
    let same = one_at s sound a b.0 m ma b.1 fa (rw l.2 at b.2) ∙ b.3 in
    ap₂ (λ t c. Some (t, c)) (sym l.2) same ∙ sym l.1

-- some flight is frozen there
pub some_last : (s : Situation) (m : ℕ) → second_of (last_of (in_landing_order (frozen_landings s))) ≡ Some m
    → (a : Active) × Member a s.active × (a.frozen ≡ Some m)
some_last s m e = let l = last_found s m e in let b = last_frozen_at s l.0 l.1 in (b.0, b.1, rw l.2 at b.2)

-- ---- what is looked for from the back

module _ (fs : List Active) (m : ℕ) where
  abbrev pub IsElsewhere : Active → Type 0
  IsElsewhere a = a.frozen ≡ Some m → ⊥

  pub back_found : (a : Active) (i : ℕ) → i < length (reverse fs) → HoldsAt (λ b. b ≡ a) (reverse fs) i → Member a fs
  back_found a i lt is = member_permutation _ fs a (IsPermutation-sym fs (reverse fs) (IsPermutation-reverse fs))
      (contains_member _ a (Contains-from_at (reverse fs) a (i, lt, is)))

  pub back_none : AllWithin IsElsewhere (reverse fs) 0 (length (reverse fs)) → (a : Active) → Member a fs
      → IsElsewhere a
  back_none none a i at =
      let c = member_contains _ a (member_permutation fs _ a (IsPermutation-reverse fs) i) in
      none c.0 a (omega arith) c.1 (ap (λ b. b.frozen) c.2 ∙ at)
