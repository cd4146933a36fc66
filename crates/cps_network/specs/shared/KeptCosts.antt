-- A stage that two problems have in common has the same pairs of second and cost in both.
use Rattle.std.proofs.Common.{rules, ℕ, List}
use Rattle.std.specs.Prelude.{ℤ}
use Rattle.cps_theory.specs.Labels.{Pair}
use Rattle.cps_theory.specs.Network.{Undominated}
use Rattle.landing_rules.specs.Problem.{Problem}
use Rattle.cps_network.specs.KeptStages.{LandAlike, HaveStageInCommon}
use Rattle.cps_network.specs.Landable.{Attains}
use Rattle.cps_network.specs.Pairs.{ArePairsOf, HoldsCosts}
use Rattle.cps_network.specs.shared.KeptStages.{attains_there}

undominated_there : (p q : Problem) (stage : ℕ) → LandAlike p q stage → LandAlike q p stage
    → (xs : List ℤ) (pair : Pair) → Undominated (Attains p stage xs) pair → Undominated (Attains q stage xs) pair
undominated_there p q stage there back xs pair u = search (rules, attains_there, u.best)

same_pairs : (p q : Problem) (stage : ℕ) → HaveStageInCommon p q stage → (xs : List ℤ) (pairs : List Pair)
    → ArePairsOf p stage xs pairs → ArePairsOf q stage xs pairs
same_pairs p q stage common xs pairs are = record {
  undominated = λ pair.
      let a = are.undominated pair in search (rules, undominated_there, common.back, a.0, a.1);
  covers = λ pair a. are.covers pair (attains_there q p stage common.back xs pair a);
  falling = are.falling;
}

pub kept_costs : (p q : Problem) (stage : ℕ × List (List ℤ)) (lists : List (List Pair)) → HaveStageInCommon p q stage.0
    → HoldsCosts p stage lists → HoldsCosts q stage lists
kept_costs p q stage lists common held = record {
  landable = λ xs.
      let a = held.landable xs in
      let b = common.landable xs in
      (λ has. b.0 (a.0 has), λ can. a.1 (b.1 can));
  costs = search (rules, same_pairs, stage.1, held.costs.pairs);
}
