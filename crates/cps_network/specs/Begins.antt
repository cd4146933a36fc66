-- Where the windows that lead to a window begin.
use Rattle.std.specs.Prelude.{ℕ, ℤ, ◌-◌, ◌<◌, List, length}
use Rattle.cps_network.specs.Lists.{node_at}
use Rattle.cps_nodes.specs.Leads.{TailMeetsHead}

-- the windows that lead to a node begin at a place
pub record BeginAt (before : List (List ℤ)) (node : List ℤ) (place : ℕ) : Type 0 where
  pub within : place < length before
  pub leads : TailMeetsHead (node_at before place) node
  pub first : 0 < place → TailMeetsHead (node_at before (place - 1)) node → ⊥
