use Rattle.std.proofs.Common.{◌≡◌, ◌≤◌, ◌-◌, length, get_or, reverse, take, Some}
use Rattle.landing_rules.specs.Rules.{last_second}
use Rattle.cps_theory.specs.LandingTrail.{latest_landing}
use Rattle.cps_theory.specs.Feasible.{earliest, next_from, at_seconds}
use Rattle.landing_joint.specs.RankedProblem.{ranked, first_at}
use Rattle.extract_plan.proofs.retiming.retime.Given as goal

-- the flights so far have landed as early as they can
abbrev pub invariant-loop-rank : goal.invariant-loop-rank
invariant-loop-rank l = record {
  landed : earliest (first_at l.problem) (next_from (ranked l.problem)) (reverse (take l.rank-index l.order)) ≡ Some
      (at_seconds (λ r. get_or l.into (r - 1) 0) (reverse (take l.rank-index l.order)));
  latest : latest_landing (at_seconds (λ r. get_or l.into (r - 1) 0) (reverse (take l.rank-index l.order))) ≡ (
    l.last,
    l.second,
  );
  early : l.second ≤ last_second;
  rank : l.last ≤ length l.problem.flights;
  room : length l.into ≡ length l.problem.flights;
}
