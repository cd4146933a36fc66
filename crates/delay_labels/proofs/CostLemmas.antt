-- How much attained pairs cost at most, and what is known of the second of one.
use Rattle.std.proofs.Common.{◌≡◌, ℕ, ◌*◌, ◌≤◌, List, [], ◌∷◌, length, arith, le_trans, refl, sym, ap, subst, ◌∙◌}
use Rattle.std.proofs.lemmas.Grind.{common_steps}
use Rattle.std.specs.Prelude.{ℤ}
use Rattle.cps_base.specs.Limits.{dearest_landing}
use Rattle.cps_theory.specs.Separation.{Landing}
use Rattle.cps_theory.specs.LandingTrail.{cost_of, last_rank, latest_landing, ranks}
use Rattle.cps_theory.specs.Labels.{Pair}
use Rattle.cps_theory.specs.LegalPrefix.{Legal}
use Rattle.cps_theory.specs.Feasible.{next_from}
use Rattle.cps_theory.specs.ProblemNetwork.{LandedIn}
use Rattle.cps_theory.specs.RankLists.{of_rank}
use Rattle.landing_joint.specs.RankedProblem.{no_waiting, ranked, cost_at, cost_by}
use Rattle.landing_rules.specs.declared.objective.Objective.{Objective}
use Rattle.landing_rules.specs.Problem.{Problem, Waiting}
use Rattle.landing_rules.specs.Rules.{last_second}
use Rattle.cps_problem.specs.WellFormed.{IsWellFormed}
use Rattle.cps_network.specs.Landable.{Attains}
use Rattle.cps_network.specs.Nodes.{IsWindowNetwork, latest}
use Rattle.stage_landings.specs.Reach.{IsLatest}
use Rattle.stage_landings.specs.shared.LatestLandings.{is_latest}

cost_small_by : (o : Objective) (f : Waiting) (t : ℕ) → f.weight ≤ 100 → t ≤ last_second
    → cost_by o f t ≤ dearest_landing
cost_small_by o f t light low = grind (arith, common_steps)

light_at : (p : Problem) → IsWellFormed p → (r : ℕ) → (of_rank no_waiting p.flights r).weight ≤ 100
light_at p wf given = grind (arith, common_steps)

module _ (p : Problem) (wf : IsWellFormed p) where
  cost_small : (r t : ℕ) → t ≤ last_second → cost_at p r t ≤ dearest_landing
  cost_small r t low = grind (arith, cost_small_by, light_at)

  -- the landing before is earlier
  before_low : (xs : List Landing) (r t : ℕ) → Legal (ranked p).rules (ranks xs)
      → next_from (ranked p) (latest_landing xs).0 (latest_landing xs).1 r ≤ t → (latest_landing xs).1 ≤ t
  before_low xs r t legal le = grind (arith, common_steps)

  trail_small : (xs : List Landing) → Legal (ranked p).rules (ranks xs) → LandedIn (ranked p) xs
      → (latest_landing xs).1 ≤ last_second → cost_of (cost_at p) xs ≤ dearest_landing * length (ranks xs)
  trail_small [] legal landed low = omega arith
  trail_small (x ∷ xs) legal landed low =
      let a = before_low xs x.0 x.1 legal.1 landed.1 in
      grind (arith, le_trans, cost_small, trail_small xs legal.1 landed.2 (le_trans a low))

  -- an attained pair costs at most so much a flight
  pub attained_small : (stage : ℕ) (xs : List ℤ) (q : Pair) → Attains p stage xs q → q.0 ≤ last_second
      → q.1 ≤ dearest_landing * stage
  attained_small stage xs q a low = grind (arith, trail_small)

-- ---- the second of an attained pair

latest_rank : (xs : List Landing) → last_rank (ranks xs) ≡ (latest_landing xs).0
latest_rank [] = refl
latest_rank (x ∷ xs) = refl

-- it is that of the latest landing of a prefix
pub attained_latest : (p : Problem) → IsWindowNetwork p → (stage : ℕ) (xs : List ℤ) (q : Pair) → Attains p stage xs q
    → q.0 ≤ last_second → IsLatest p (latest (stage, xs)) q.0
attained_latest p network stage xs q a low =
    let trail = a.landings in
    let rank : (latest_landing trail).0 ≡ latest (stage, xs) =
    sym (latest_rank trail) ∙ sym (network.newest_is (ranks trail) a.legal) ∙ ap latest a.at in
    let second : (latest_landing trail).1 ≡ q.0 = ap (λ (z : Pair). z.0) a.is in
    subst (λ (r : ℕ). IsLatest p r q.0) rank (subst (IsLatest p (latest_landing trail).0) second
    (is_latest p trail a.landed (omega (arith, second, low))))
