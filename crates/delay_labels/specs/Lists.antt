-- The successors of listed pairs, and what is left of a stage where the empty lists are left out.
use Rattle.std.specs.Prelude.{◌≡◌, ℕ, ◌<◌, ◌≤◌, List, [], ◌∷◌, Bool, true, false, map, slice_range, Option, Some, None}
use Rattle.std.specs.List.{flat_map}
use Rattle.cps_theory.specs.Labels.{InPairs, Pair}
use Rattle.landing_rules.specs.Problem.{Problem}
use Rattle.cps_network.specs.Compacted.{kept_where}
use Rattle.cps_network.specs.Pairs.{list_at, successor}

-- whether a list has a pair
abbrev pub has_some : List Pair → Bool
has_some [] = false
has_some (q ∷ qs) = true

-- the entries at the places whose list is not empty, in order
abbrev pub known_of : {A : Type 0} → List (List Pair) → List A → List A
known_of lists xs = kept_where (map has_some lists) xs

abbrev pub some_before : Option Pair → List Pair → List Pair
some_before None qs = qs
some_before (Some q) qs = q ∷ qs

-- the successors of these pairs, by a rank behind another
abbrev pub successors : Problem → ℕ → ℕ → List Pair → List Pair
successors p last rank [] = []
successors p last rank (q ∷ qs) = some_before (successor p last q rank) (successors p last rank qs)

-- the successors of the pairs of a range of lists
abbrev pub successors_in : Problem → ℕ → ℕ → List (List Pair) → ℕ → ℕ → List Pair
successors_in p last rank lists from to = flat_map (successors p last rank) (slice_range lists from to)

-- the pair is the successor, by a rank behind another, of a pair of one of the lists of a range
abbrev pub IsGivenIn : Problem → ℕ → ℕ → List (List Pair) → ℕ → ℕ → Pair → Type 0
IsGivenIn p last rank lists from to q = (place : ℕ) × (from ≤ place) × (place < to) × (o : Pair)
    × InPairs o (list_at lists place) × (successor p last o rank ≡ Some q)
