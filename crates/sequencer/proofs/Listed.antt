-- The pairs of ranks, one added after the other.
use Rattle.std.proofs.Common.{◌≡◌, ℕ, ◌+◌, ◌-◌, ◌<◌, ◌≤◌, ◌⊎◌, inl, inr, List, Some, length, map, get_or, sym, ap, ap₂}
use Rattle.std.proofs.Common.{subst, ◌∙◌, arith}
use Rattle.std.specs.Prelude.{◌↔◌, IsTrue, slice_get, Decides}
use Rattle.std.proofs.lemmas.List.{length-map, get_or-map}
use Rattle.std.proofs.lemmas.Bool.{cases_lt}
use Rattle.std.proofs.lemmas.Bool.Decides.{same_from_decides}
use Rattle.std.proofs.lemmas.Option.{slice_get_within, get_or_from_slice_get}
use Rattle.precedence.specs.Pairs.{MustPrecede, must_precede, must_precede_decides}
use Rattle.landing_rules.specs.Flights.{Active}
use Rattle.landing_rules.specs.Rules.{lists}
use Rattle.landing_rules.specs.Problem.{ArePredecessorsOf, AreBetweenRanks}
use Rattle.landing_joint.specs.Numbered.{nobody, numbered}
use Rattle.sequencer.specs.Predecessors.{IsListed}

module _ (all : List Active) where
  -- before rank next so far those below first
  abbrev Added : List ℕ → List ℕ → ℕ → ℕ → Type 0
  Added start pairs next first =
      (i j : ℕ) → MustPrecede pairs i j ↔ (MustPrecede start i j ⊎ ((j ≡ next) × (i < first) × IsListed all i j))

  pub none_added : (pairs : List ℕ) (next : ℕ) → Added pairs pairs next 1
  none_added pairs next i j = (inl, omega arith)

  pub one_added : (start old new : List ℕ) (next first : ℕ) → Added start old next first → IsListed all first next
      → ((i j : ℕ) → MustPrecede new i j ↔ (MustPrecede old i j ⊎ ((i ≡ first) × (j ≡ next))))
      → Added start new next (first + 1)
  one_added start old new next first was listed step i j = (there, back)
    where
      there : MustPrecede new i j → MustPrecede start i j ⊎ ((j ≡ next) × (i < first + 1) × IsListed all i j)
      there m = elim ((step i j).0 m) [
        | inl o ↦ elim ((was i j).0 o) [ inl s ↦ inl s | inr l ↦ inr (l.0, (let a = l.1 in omega arith), l.2) ]
        | inr e ↦ inr (
          e.1,
          (let a = e.0 in omega arith),
          subst (λ x. IsListed all x j) (sym e.0) (subst (λ y. IsListed all first y) (sym e.1) listed),
        )
      ]

      back : MustPrecede start i j ⊎ ((j ≡ next) × (i < first + 1) × IsListed all i j) → MustPrecede new i j
      back (inl s) = (step i j).1 (inl ((was i j).1 (inl s)))
      back (inr l) = elim (cases_lt i first) [
        | inl lt ↦ (step i j).1 (inl ((was i j).1 (inr (l.0, lt, l.2))))
        | inr ge ↦ (step i j).1 (inr ((let a = l.1 in omega arith), l.0))
      ]

  pub none_more : (start old : List ℕ) (next first : ℕ) → Added start old next first → (IsListed all first next → ⊥)
      → Added start old next (first + 1)
  none_more start old next first was none i j = (there, back)
    where
      there : MustPrecede old i j → MustPrecede start i j ⊎ ((j ≡ next) × (i < first + 1) × IsListed all i j)
      there m = elim ((was i j).0 m) [
        | inl s ↦ inl s
        | inr l ↦ inr (l.0, (let a = l.1 in omega arith), l.2)
      ]

      back : MustPrecede start i j ⊎ ((j ≡ next) × (i < first + 1) × IsListed all i j) → MustPrecede old i j
      back (inl s) = (was i j).1 (inl s)
      back (inr l) = elim (cases_lt i first) [
        | inl lt ↦ (was i j).1 (inr (l.0, lt, l.2))
        | inr ge ↦ (let e : i ≡ first = (let a = l.1 in omega arith) in absurd
            (none (subst (λ x. IsListed all x next) e (subst (λ y. IsListed all i y) l.0 l.2))))
      ]

  pub all_added : (start new : List ℕ) (next first : ℕ) → length all < first → Added start new next first
      → (i j : ℕ) → MustPrecede new i j ↔ (MustPrecede start i j ⊎ ((j ≡ next) × IsListed all i j))
  all_added start new next first past was i j = (
    λ m. elim ((was i j).0 m) [ inl s ↦ inl s | inr l ↦ inr (l.0, l.2) ],
    λ s. elim s [
      | inl m ↦ (was i j).1 (inl m)
      | inr l ↦ (was i j).1 (inr (l.0, (let a = l.1.first in omega arith), l.1))
    ],
  )

  -- the predecessors of the ranks below next
  abbrev Below : List ℕ → ℕ → Type 0
  Below pairs next = (i j : ℕ) → MustPrecede pairs i j ↔ ((j < next) × IsListed all i j)

  pub none_below : (pairs : List ℕ) → ((i j : ℕ) → MustPrecede pairs i j → ⊥) → Below pairs 1
  none_below pairs none i j = (λ m. absurd (none i j m), omega arith)

  pub one_below : (old new : List ℕ) (next : ℕ) → Below old next →
      ((i j : ℕ) → MustPrecede new i j ↔ (MustPrecede old i j ⊎ ((j ≡ next) × IsListed all i j))) → Below new (next + 1)
  one_below old new next was step i j = (
    λ m. elim ((step i j).0 m) [
      | inl o ↦ (let l = (was i j).0 o in ((let a = l.0 in omega arith), l.1))
      | inr l ↦ ((let a = l.0 in omega arith), l.1)
    ],
    λ l. elim (cases_lt j next) [
      | inl lt ↦ (step i j).1 (inl ((was i j).1 (lt, l.1)))
      | inr ge ↦ (step i j).1 (inr ((let a = l.0 in omega arith), l.1))
    ],
  )

  pub all_below : (pairs : List ℕ) (next : ℕ) → length all < next → Below pairs next → (i j : ℕ)
      → MustPrecede pairs i j ↔ IsListed all i j
  all_below pairs next past was i j = (λ m. ((was i j).0 m).1, grind arith)

  -- so they are those of the rules
  pub between : (pairs : List ℕ) (n : ℕ) → n ≡ length all → ((i j : ℕ) → MustPrecede pairs i j ↔ IsListed all i j)
      → AreBetweenRanks n pairs
  between pairs n e is i j m = grind arith

  listed_is : (i j : ℕ) (a b : Active) → slice_get all i ≡ Some a → slice_get all j ≡ Some b
      → IsListed all (i + 1) (j + 1) ↔ IsTrue (lists b.flight a.flight.callsign)
  listed_is i j a b x y =
      let p : i + 1 - 1 ≡ i = omega arith in
      let q : j + 1 - 1 ≡ j = omega arith in
      let f : numbered all (i + 1 - 1) ≡ a = ap (numbered all) p ∙ get_or_from_slice_get all i a nobody x in
      let g : numbered all (j + 1 - 1) ≡ b = ap (numbered all) q ∙ get_or_from_slice_get all j b nobody y in
      let same = ap₂ (λ u v. lists u.flight v.flight.callsign) g f in
      let li = slice_get_within all i a x in
      let lj = slice_get_within all j b y in (
        λ l. rw same at l.lists,
        λ t. record { first = (omega arith, omega arith); next = (omega arith, omega arith); lists = rw same t },
      )

  pub predecessors : (pairs : List ℕ) → ((i j : ℕ) → MustPrecede pairs i j ↔ IsListed all i j)
      → ArePredecessorsOf all pairs
  predecessors pairs is i j a b x y =
      let d = must_precede_decides pairs (i + 1) (j + 1) in
      let l = listed_is i j a b x y in
      let m = is (i + 1) (j + 1) in
      let x : Decides (must_precede pairs (i + 1) (j + 1)) (IsTrue (lists b.flight a.flight.callsign)) =
      (λ t. l.0 (m.0 (d.0 t)), λ t. d.1 (m.1 (l.1 t))) in
      let y : Decides (lists b.flight a.flight.callsign) (IsTrue (lists b.flight a.flight.callsign)) =
      (λ t. t, λ t. t) in
      same_from_decides (must_precede pairs (i + 1) (j + 1)) (lists b.flight _) x y

-- what a rank lists is what its flight lists
pub listed_by : {X : Type 0} (g : X → Active) (items : List X) (first next : ℕ) (x y : X) → (1 ≤ first)
    × (first ≤ length items) → (1 ≤ next) × (next ≤ length items) → x ≡ get_or items (first - 1) x → y
    ≡ get_or items (next - 1) y → IsListed (map g items) first next ↔ IsTrue (lists (g y).flight (g x).flight.callsign)
listed_by g items first next x y f n ex ey =
    let lf : first - 1 < length items = let a = f.0 in omega (arith, f.1) in
    let ln : next - 1 < length items = let a = n.0 in omega (arith, n.1) in
    let at_first : numbered (map g items) (first - 1) ≡ g x = get_or-map g items (first - 1) x nobody lf
    ∙ ap g (sym ex) in
    let at_next : numbered (map g items) (next - 1) ≡ g y = get_or-map g items (next - 1) y nobody ln ∙ ap g (sym ey) in
    let same = ap₂ (λ u v. lists u.flight v.flight.callsign) at_next at_first in
    let long = length-map items g in (
      λ l. rw same at l.lists,
      λ t. record { first = (f.0, (omega (arith, f.1))); next = (n.0, (omega (arith, n.1))); lists = rw same t },
    )
