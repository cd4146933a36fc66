-- Flights by number, and where callsigns differ.
use Rattle.std.proofs.Common.{◌≡◌, ℕ, suc, inl, inr, List, [], ◌∷◌, length, map, Some, sym, ◌∙◌, arith}
use Rattle.std.proofs.Common.{◌<◌}
use Rattle.std.specs.Prelude.{AllPairs, ◌≢◌, option_map, filter_map}
use Rattle.std.proofs.lemmas.List.Kept.{AllPairs-cons}
use Rattle.landing_rules.specs.Flights.{Active, Landing, Callsign, landing}
use Rattle.landing_rules.specs.shared.Counting.{Member}
use Rattle.landing_joint.specs.Numbered.{numbered}
use Rattle.landing_joint.specs.shared.Pairs.{pairs_head, pairs_tail}
use Rattle.landing_rules.specs.shared.Members.{all_at, all_from, in_map, map_in, in_frozen}

pub member_number : (a : Active) (all : List Active) → Member a all → (i : ℕ) × (i < length all) × (a ≡ numbered all i)
member_number a [] m = absurd m
member_number a (x ∷ all) (inl e) = (0, omega arith, e)
member_number a (x ∷ all) (inr m) = let w = member_number a all m in (suc w.0, (omega (arith, w.1)), w.2)

pub number_member : (all : List Active) (i : ℕ) → i < length all → Member (numbered all i) all
number_member [] i lt = grind arith
number_member (a ∷ all) i lt = grind (arith, number_member all)

pub frozen_member : (f : Landing) (all : List Active) → Member f (filter_map (λ a. option_map (landing a) a.frozen) all)
    → (i : ℕ) × (i < length all) × (u : ℕ) × ((numbered all i).frozen ≡ Some u) × (f ≡ landing (numbered all i) u)
frozen_member f all m = grind (arith, in_frozen, member_number)

-- ---- callsigns differ

abbrev pub Differ : List Callsign → Type 0
Differ [] = Unit {0}
Differ (c ∷ cs) = ((d : Callsign) → Member d cs → c ≢ d) × Differ cs

abbrev pub callsigns : List Active → List Callsign
callsigns xs = map (λ a. a.flight.callsign) xs

pub differ_of : (xs : List Active) → AllPairs (λ a b. a.flight.callsign ≢ b.flight.callsign) xs → Differ (callsigns xs)
differ_of [] h = tt
differ_of (x ∷ xs) h =
    let R : Active → Active → Type 0 = λ a b. a.flight.callsign ≢ b.flight.callsign in (
      λ d m. let r = in_map _ xs d m in
          λ e. all_at (R x) xs (pairs_head R x xs h) r.0 r.1 (e ∙ r.2),
      differ_of xs (pairs_tail R x xs h),
    )

pub differ_pairs : (xs : List Active) → Differ (callsigns xs)
    → AllPairs (λ a b. a.flight.callsign ≢ b.flight.callsign) xs
differ_pairs [] h = omega arith
differ_pairs (x ∷ xs) h =
    let R : Active → Active → Type 0 = λ a b. a.flight.callsign ≢ b.flight.callsign in
    AllPairs-cons R x xs (all_from _ xs (λ y m. h.0 y.flight.callsign (map_in _ xs y m))) (differ_pairs xs h.1)

-- of one name there is one flight
pub one_of_name : (xs : List Active) (a b : Active) → Differ (callsigns xs) → Member a xs → Member b xs
    → a.flight.callsign ≡ b.flight.callsign → a ≡ b
one_of_name [] a b d m n e = absurd m
one_of_name (x ∷ xs) a b d (inl p) (inl q) e = p ∙ sym q
one_of_name (x ∷ xs) a b d (inl p) (inr n) e = absurd (d.0 b.flight.callsign (map_in _ xs b n) (cc))
one_of_name (x ∷ xs) a b d (inr m) (inl q) e = absurd (d.0 a.flight.callsign (map_in _ xs a m) (cc))
one_of_name (x ∷ xs) a b d (inr m) (inr n) e = one_of_name xs a b d.1 m n e
