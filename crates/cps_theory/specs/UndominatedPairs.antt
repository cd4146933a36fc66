-- Lists of pairs without those that another is no worse than: kept by insertion, or swept from a sorted list into a
-- staircase.
use Rattle.std.specs.Prelude.{◌≡◌, ℕ, ◌<◌, ◌≤◌, ◌⊎◌, List, [], ◌∷◌, Bool, true, false}
use Rattle.std.proofs.Common.{cond, ltb}
use Rattle.cps_theory.specs.Labels.{InPairs, NoWorse, Pair, no_worse}

-- each pair of the first list has one of the second no later and no dearer
abbrev pub Covers : List Pair → List Pair → Type 0
Covers qs ps = (q : Pair) → InPairs q qs → (p : Pair) × InPairs p ps × NoWorse p q

-- the list without what `p` is no worse than
abbrev pub without : Pair → List Pair → List Pair
without p [] = []
without p (q ∷ qs) = cond (no_worse p q) (without p qs) (q ∷ without p qs)

-- some pair of the list is no worse than p
abbrev pub some_no_worse : Pair → List Pair → Bool
some_no_worse p [] = false
some_no_worse p (q ∷ qs) = cond (no_worse q p) true (some_no_worse p qs)

-- one more pair, if none is no worse, in place of those that it is no worse than
abbrev pub add_pair : Pair → List Pair → List Pair
add_pair p qs = cond (some_no_worse p qs) qs (p ∷ without p qs)

-- each later pair is later and cheaper
abbrev pub Staircase : List Pair → Type 0
Staircase [] = Unit {0}
Staircase (p ∷ ps) = ((q : Pair) → InPairs q ps → (p.0 < q.0) × (q.1 < p.1)) × Staircase ps

-- in order: by second, and by cost where these are equal
abbrev pub InPairOrder : List Pair → Type 0
InPairOrder [] = Unit {0}
InPairOrder (p ∷ ps) = ((q : Pair) → InPairs q ps → (p.0 < q.0) ⊎ ((p.0 ≡ q.0) × (p.1 ≤ q.1))) × InPairOrder ps

-- of pairs in order, those that are cheaper than all before them and than c
abbrev pub sweep : ℕ → List Pair → List Pair
sweep c [] = []
sweep c (p ∷ ps) = cond (ltb p.1 c) (p ∷ sweep p.1 ps) (sweep c ps)
