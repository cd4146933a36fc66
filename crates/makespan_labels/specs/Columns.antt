-- Columns of labels: their entries, the least of a range, and what is left where the places without a label are left
-- out.
use Rattle.std.specs.Prelude.{◌≡◌, ℕ, ◌<◌, ◌≤◌, ◌⊎◌, List, Bool, Option, IfSome, not, nat_eq, map, slice_index}
use Rattle.std.specs.Prelude.{unwrap_or}
use Rattle.landing_rules.specs.Rules.{last_second}
use Rattle.cps_network.specs.Compacted.{kept_where}
use Rattle.makespan_labels.specs.Labels.{no_label}

-- an entry is a second of the two days, or no label
abbrev pub IsEntry : ℕ → Type 0
IsEntry label = (label ≤ last_second) ⊎ (label ≡ no_label)

-- the label that a landing gives: its second, which is in the two days, or no label where there is no landing
pub record IsLabelOf (landing : Option ℕ) (label : ℕ) : Type 0 where
  pub is : label ≡ unwrap_or landing no_label
  pub in_days : IfSome landing (λ t. t ≤ last_second)

-- the least number at the places of a range
pub record IsLeastOf (labels : List ℕ) (from to least : ℕ) : Type 0 where
  pub place : ℕ
  pub from_here : from ≤ place
  pub to_there : place < to
  pub is : slice_index labels place ≡ least
  pub low : (i : ℕ) → from ≤ i → i < to → least ≤ slice_index labels i

-- whether this is a label
abbrev pub is_known : ℕ → Bool
is_known label = not (nat_eq label no_label)

-- the entries at the places whose label is known, in order
abbrev pub known_of : {A : Type 0} → List ℕ → List A → List A
known_of labels xs = kept_where (map is_known labels) xs
