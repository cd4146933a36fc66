-- No finding by the rules exactly where the landings keep them.
use Rattle.std.proofs.Common.{arith}
use Rattle.std.proofs.Common.{◌≡◌, ℕ, ◌≤◌, ◌⊎◌, inl, inr, List, [], ◌∷◌, filter, Bool, true, false, not, ◌||◌, nat_le}
use Rattle.std.proofs.Common.{nat_lt, nat_eq, refl, sym, subst}
use Rattle.std.specs.Prelude.{unwrap_or, is_none, flat_map, All, IsTrue, MatchOption, Option}
use Rattle.std.specs.Str.{bytes_eq}
use Rattle.std.proofs.lemmas.Slice.Eq.{bytes_eq-Decides}
use Rattle.std.proofs.lemmas.Bool.{and_parts, and_from, eqb-true, eq-eqb, leb-true, le-leb, ltb-true, lt-ltb}
use Rattle.std.proofs.lemmas.Bool.{false≢true}
use Rattle.landing_rules.specs.Flights.{Callsign, Situation, Landing, horizon}
use Rattle.landing_rules.specs.Rules.{last_second, is_open, waits, rank_among, place, ArePairSeparated}
use Rattle.landing_rules.specs.Rules.{IsPairInPrecedence, IsShiftKept, IsFrozenKept, KeepsRules}
use Rattle.landing_rules.specs.Testing.{is_shift_kept}
use Rattle.landing_rules.specs.shared.Counting.{Member}
use Rattle.landing_rules.specs.shared.Tests.{is_pair_separated-Decides, is_shift_kept-Decides}
use Rattle.landing_rules.specs.Audit.{Precedence, Moved, Early, Shift, for_failing, are_apart, listed_late, by_rules}
use Rattle.landing_joint.specs.shared.OpenDays.{open_in_days}
use Rattle.landing_joint.proofs.AuditLists.{append_nil, nil_append, broken_none, none_broken, Each, pairs_none}
use Rattle.landing_joint.proofs.AuditLists.{none_pairs, each_pair, flat_nil, nil_flat, any_member, member_any}
use Rattle.landing_rules.specs.shared.Members.{all_at, all_from}

pub frozen_test : (o : Option ℕ) (h x : ℕ) → (is_none o || nat_eq x (unwrap_or o 0)) ≡ true
    → (not (is_none o) || nat_le h x) ≡ true → MatchOption o (h ≤ x) (λ t. x ≡ t)
frozen_test o h x a b = grind (arith, leb-true, eqb-true)

pub test_frozen : (o : Option ℕ) (h x : ℕ) → MatchOption o (h ≤ x) (λ t. x ≡ t)
    → ((is_none o || nat_eq x (unwrap_or o 0)) ≡ true) × ((not (is_none o) || nat_le h x) ≡ true)
test_frozen o h x m = grind (arith, le-leb, eq-eqb)

pub rules_kept : (s : Situation) (all : List Landing)
    → ((f : Landing) → Member f all → All (λ w. (w.0 ≤ w.1) × (w.1 ≤ last_second)) f.flight.windows)
    → by_rules s all ≡ [] → KeepsRules s all
rules_kept s all good e =
    let a = append_nil _ _ e in
    let b = append_nil _ _ a.1 in
    let c = append_nil _ _ b.1 in
    let d = append_nil _ _ c.1 in
    let g = append_nil _ _ d.1 in
    let opened = broken_none _ _ all a.0 in
    let sep : (f h : Landing) → Member f all → Member h all → ArePairSeparated s.aerodrome.table f h =
    λ f h i j. separated f h (each_pair _ all (pairs_none _ _ all b.0) f h i j) in
    record {
      in_days = all_from (λ f. f.second ≤ last_second) all
          (λ f m. open_in_days f.flight.windows s.closures f.second (good f m) (opened f m));
      open_seconds = all_from (λ f. IsTrue (is_open f.flight.windows s.closures f.second)) all opened;
      separated = all_from (λ f. All (ArePairSeparated s.aerodrome.table f) all) all
          (λ f i. all_from (ArePairSeparated s.aerodrome.table f) all (λ h j. sep f h i j));
      in_precedence = all_from (λ f. All (IsPairInPrecedence f) all) all
          (λ f i. all_from (IsPairInPrecedence f) all (λ h j l.
          let x = flat_nil (λ (d : Landing). flat_map (listed_late all d) d.flight.after) all c.0 h j in
          let y = flat_nil (listed_late all h) h.flight.after x f.flight.callsign
          (any_member f.flight.callsign h.flight.after l) in
          let z = broken_none (λ (k : Landing). not (bytes_eq k.flight.callsign f.flight.callsign)
          || nat_lt k.second h.second) (λ (k : Landing). Precedence k.flight.callsign h.flight.callsign) all
          (late_named f.flight.callsign h y) f i in
          ltb-true f.second h.second (second_part (bytes_eq f.flight.callsign f.flight.callsign)
          (nat_lt f.second h.second) ((bytes_eq-Decides f.flight.callsign f.flight.callsign).1 refl) z)));
      shift = all_from (IsShiftKept s.aerodrome.k (filter waits all)) (filter waits all)
          (λ f m. (is_shift_kept-Decides s.aerodrome.k (filter waits all) f).0
          (broken_none (is_shift_kept s.aerodrome.k (filter waits all))
          (λ (f : Landing). Shift f.flight.callsign (place (filter waits all) f) (rank_among (filter waits all) f))
          (filter waits all) g.1 f m));
      frozen_kept = all_from (IsFrozenKept (horizon s)) all (λ f m. frozen_test f.frozen (horizon s) f.second
          (broken_none (λ (f : Landing). waits f || nat_eq f.second (unwrap_or f.frozen 0))
          (λ (f : Landing). Moved f.flight.callsign (unwrap_or f.frozen 0)) all d.0 f m)
          (broken_none (λ (f : Landing). not (waits f) || nat_le (horizon s) f.second)
          (λ (f : Landing). Early f.flight.callsign) all g.0 f m));
    }
  where
    separated : (f h : Landing) → (f ≡ h) ⊎ ((are_apart s.aerodrome.table f h ≡ true)
        ⊎ (are_apart s.aerodrome.table h f ≡ true)) → ArePairSeparated s.aerodrome.table f h
    separated f h x = grind (arith, is_pair_separated-Decides, and_parts)

    late_named : (c : Callsign) (d : Landing) → listed_late all d c ≡ []
        → for_failing (λ (k : Landing). not (bytes_eq k.flight.callsign c) || nat_lt k.second d.second)
        (λ (k : Landing). Precedence k.flight.callsign d.flight.callsign) all ≡ []
    late_named c d q = none_broken _ _ all (broken_none _ _ all q)

    second_part : (a b : Bool) → a ≡ true → (not a || b) ≡ true → b ≡ true
    second_part true b p q = q
    second_part false b p q = absurd (false≢true p)

pub kept_rules : (s : Situation) (all : List Landing) → KeepsRules s all → by_rules s all ≡ []
kept_rules s all r =
    nil_append _ _ (none_broken _ _ all (all_at _ all r.open_seconds)) (nil_append _ _ (none_pairs _ _ all
    (every all (λ f m. m))) (nil_append _ _ (nil_flat _ all (λ d j. nil_flat _ _ (λ c k. none_broken _ _ all (λ f i.
    either _ _ (λ q. lt-ltb _ _
    (all_at (IsPairInPrecedence f) all (all_at (λ g. All (IsPairInPrecedence g) all) all r.in_precedence f i) d j
    (member_any _ _ (subst (λ x. Member x d.flight.after) (sym ((bytes_eq-Decides _ c).0 q)) k)))))))) (nil_append _ _
    (none_broken _ _ all (λ f m. (test_frozen _ _ _ (all_at (IsFrozenKept (horizon s)) all r.frozen_kept f m)).0))
    (nil_append _ _ (none_broken _ _ all (λ f m. (test_frozen _ _ _
    (all_at (IsFrozenKept (horizon s)) all r.frozen_kept f m)).1)) (none_broken _ _
    _ (λ f m. (is_shift_kept-Decides _ (filter _ all) f).1
    (all_at (IsShiftKept s.aerodrome.k (filter _ all)) _ r.shift f m)))))))
  where
    both : (f g : Landing) → Member f all → Member g all → are_apart s.aerodrome.table f g ≡ true
    both f g i j = and_from _ _ ((is_pair_separated-Decides _ f g).1 (all_at (ArePairSeparated s.aerodrome.table f) all
        (all_at (λ x. All (ArePairSeparated s.aerodrome.table x) all) all r.separated f i) g j))
        ((is_pair_separated-Decides _ g f).1 (all_at (ArePairSeparated s.aerodrome.table g) all
        (all_at (λ x. All (ArePairSeparated s.aerodrome.table x) all) all r.separated g j) f i))

    every : (fs : List Landing) → ((f : Landing) → Member f fs → Member f all)
        → Each (λ x y. are_apart s.aerodrome.table x y ≡ true) fs
    every [] h = tt
    every (f ∷ fs) h = (λ g m. both f g (h f (inl refl)) (h g (inr m)), every fs (λ g m. h g (inr m)))

    either : (a b : Bool) → (a ≡ true → b ≡ true) → (not a || b) ≡ true
    either a b h = grind arith
