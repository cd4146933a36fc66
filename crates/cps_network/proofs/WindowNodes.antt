-- Legal prefixes of one stage and window place the same ranks.
use Rattle.std.proofs.Common.{arith, ℕ, List, subst}
use Rattle.std.specs.Prelude.{◌≡◌, pos}
use Rattle.cps_nodes.specs.Windows.{IsPlaced}
use Rattle.cps_theory.specs.RankLists.{In}
use Rattle.cps_theory.specs.LegalPrefix.{Legal}
use Rattle.cps_theory.specs.laws.LegalPrefix.{in_from_one, legal_each_fits}
use Rattle.landing_joint.specs.RankedProblem.{ranked}
use Rattle.landing_rules.specs.Problem.{Problem}
use Rattle.cps_network.specs.Nodes.{WindowNode, node_of, IsWindowNetwork, WindowsTellNodes}
use Rattle.cps_network.specs.WindowRanks.{TellTheirRanks}

module _ (p : Problem) (net : IsWindowNetwork p) (tells : TellTheirRanks p) where
  placed_alike : (rs os : List ℕ) → Legal (ranked p).rules rs → Legal (ranked p).rules os
      → node_of p.k rs ≡ node_of p.k os → (x : ℕ) → In x rs → In x os
  placed_alike rs os l m e x i =
      let one = (in_from_one (ranked p).rules x rs (legal_each_fits (ranked p).rules rs l) i).0 in
      (tells os x m one).0 (subst (λ (n : WindowNode). IsPlaced n.1 (pos n.0) (pos x)) e ((tells rs x l one).1 i))

  pub windows_tell_nodes : WindowsTellNodes p
  windows_tell_nodes rs os l m e = grind (arith, placed_alike)
