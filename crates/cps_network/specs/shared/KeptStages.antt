-- The stages below the first difference of two problems, less the greatest shift, are the same in both.
use Rattle.std.proofs.Common.{rules, ◌≡◌, ℕ, ◌+◌, ◌<◌, List, length, ap, arith}
use Rattle.std.specs.Prelude.{ℤ, true}
use Rattle.cps_theory.specs.Labels.{Pair}
use Rattle.cps_theory.specs.LandingTrail.{ranks}
use Rattle.cps_theory.specs.Feasible.{next_from}
use Rattle.cps_theory.specs.laws.KeptStages.{agree_landed, agree_legal, low_ranks, uncounted}
use Rattle.cps_theory.specs.laws.LegalPrefix.{legal_each_fits}
use Rattle.landing_joint.specs.RankedProblem.{ranked, cost_at}
use Rattle.landing_rules.specs.Problem.{Problem, AreBetweenRanks}
use Rattle.cps_problem.specs.FirstDifference.{AgreeUpTo, IsWithinBoth}
use Rattle.cps_problem.specs.shared.OneDifference.{agree_back}
use Rattle.cps_problem.specs.shared.EarlyLandings.{agree_below, same_landings}
use Rattle.cps_network.specs.KeptStages.{LandAlike, EarlyStagesAreKept, UncountedStagesAreKept}
use Rattle.cps_network.specs.Landable.{Attains, IsLandable}
use Rattle.cps_network.specs.Nodes.{WindowNode}

land_alike : (p q : Problem) (d : ℕ) → IsWithinBoth p q d → AgreeUpTo p q d → AreBetweenRanks (length q.flights) q.pairs
    → (stage : ℕ) → stage + p.k < d → LandAlike p q stage
land_alike p q d within agree between stage early xs landings (legal, landed, at) =
    let long : length (ranks landings) ≡ stage = ap (λ (n : WindowNode). n.0) at in
    let short : length (ranks landings) + p.k < d = omega (arith, early, long) in
    let low = low_ranks (ranked p).rules d (ranks landings)
    (legal_each_fits (ranked p).rules (ranks landings) legal) short in
    let lands = agree_landed d (λ r t. (ranked p).is_open r t ≡ true) (λ r t. (ranked q).is_open r t ≡ true)
    (next_from (ranked p)) (next_from (ranked q)) (cost_at p) (cost_at q) (same_landings p q d within agree)
    (omega (arith, early)) landings low landed in search (rules, agree_legal, agree_below)

pub attains_there : (p q : Problem) (stage : ℕ) → LandAlike p q stage → (xs : List ℤ) (pair : Pair)
    → Attains p stage xs pair → Attains q stage xs pair
attains_there p q stage alike xs pair a =
    let b = alike xs a.landings (a.legal, a.landed, a.at) in grind arith

landable_alike : (p q : Problem) (stage : ℕ) → LandAlike p q stage → (xs : List ℤ) → IsLandable p stage xs
    → IsLandable q stage xs
landable_alike p q stage alike xs (pair, a) = (pair, attains_there p q stage alike xs pair a)

pub early_stages_are_kept : (p q : Problem) → AreBetweenRanks (length p.flights) p.pairs
    → AreBetweenRanks (length q.flights) q.pairs → EarlyStagesAreKept p q
early_stages_are_kept p q bp bq d within agree stage early =
    let there = land_alike p q d within agree bq stage early in
    let same = agree.head.k in
    let back = land_alike q p d (within.1, within.0) (agree_back p q d agree) bp stage (omega (arith, early, same)) in
    search (rules, landable_alike)

pub uncounted_stages_are_kept : (p q : Problem) → AreBetweenRanks (length p.flights) p.pairs
    → AreBetweenRanks (length q.flights) q.pairs → UncountedStagesAreKept p q
uncounted_stages_are_kept p q bp bq d is last stage one out =
    let far = (uncounted d q.k last stage out).0 in
    let agree = is.agree (omega (arith, far, one)) in
    let same = agree.head.k in
    early_stages_are_kept p q bp bq d is.within agree stage (omega (arith, far, same))
