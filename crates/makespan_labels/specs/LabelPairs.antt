-- Labels as lists of pairs: for the makespan no landing costs anything, so a window has one pair, its label and the
-- cost 0.
use Rattle.std.specs.Prelude.{ℕ, List, [], ◌∷◌, Bool, true, false, nat_lt, map}
use Rattle.cps_theory.specs.Labels.{Pair}
use Rattle.makespan_labels.specs.Labels.{no_label}

abbrev pub pair_if : Bool → ℕ → List Pair
pair_if true label = (label, 0) ∷ []
pair_if false label = []

-- the pairs of a label: one of it and the cost 0, and none where there is no label
abbrev pub label_pairs : ℕ → List Pair
label_pairs label = pair_if (nat_lt label no_label) label

-- the pairs of each label of a column
abbrev pub column_pairs : List ℕ → List (List Pair)
column_pairs labels = map label_pairs labels
