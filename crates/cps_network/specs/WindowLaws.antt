-- The laws of windows that the labels of a stage rest on.
use Rattle.std.specs.Prelude.{ℕ}
use Rattle.cps_nodes.specs.Laws.{FollowRanks, LeadOn}
use Rattle.landing_rules.specs.Problem.{Problem}
use Rattle.cps_network.specs.Nodes.{IsWindowNetwork}
use Rattle.cps_network.specs.Permits.{LeadAlike}

-- windows of this width are the nodes of the network of a problem, and lead to one another alike
pub record WindowLaws (p : Problem) (width : ℕ) : Type 0 where
  pub network : IsWindowNetwork p
  pub alike : LeadAlike p width
  pub ranks : FollowRanks width
  pub leads : LeadOn width
