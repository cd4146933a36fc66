-- Where a pair of the next stage comes from: the first place of a range of lists, and the first index of the list
-- there.
use Rattle.std.specs.Prelude.{◌≡◌, ℕ, ◌<◌, ◌≤◌, List, length, Some}
use Rattle.cps_theory.specs.Labels.{Pair}
use Rattle.landing_rules.specs.Problem.{Problem}
use Rattle.cps_network.specs.Pairs.{list_at, pair_at, successor}

-- no pair of a list has this successor, by a rank behind another
abbrev pub GivesNone : Problem → ℕ → ℕ → List Pair → Pair → Type 0
GivesNone p last rank pairs q = (i : ℕ) → i < length pairs → successor p last (pair_at pairs i) rank ≡ Some q → ⊥

-- the first pair of a list that has this successor stands at this index
abbrev pub GivesFirst : Problem → ℕ → ℕ → List Pair → Pair → ℕ → Type 0
GivesFirst p last rank pairs q index = (index < length pairs) × (successor p last (pair_at pairs index) rank ≡ Some q)
    × ((i : ℕ) → i < index → successor p last (pair_at pairs i) rank ≡ Some q → ⊥)

-- of the lists of a range this is the first place whose list has such a pair, and the first index of one there
abbrev pub IsFirstSource : Problem → ℕ → ℕ → List (List Pair) → ℕ → ℕ → Pair → ℕ × ℕ → Type 0
IsFirstSource p last rank lists from to q at =
    (from ≤ at.0) × (at.0 < to) × GivesFirst p last rank (list_at lists at.0) q at.1
    × ((i : ℕ) → from ≤ i → i < at.0 → GivesNone p last rank (list_at lists i) q)
