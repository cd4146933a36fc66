use Rattle.std.proofs.Common.{◌-◌, ◌≤◌, arith, ap, ◌∙◌}
use Rattle.landing_joint.specs.RankedProblem.{cost_at}
use Rattle.landing_joint.specs.shared.FirstBestLists.{second_is}
use Rattle.extract_plan.proofs.objective.cost_of.Goals as goal
use Rattle.landing_rules.specs.Rules.{last_second}

pub returns : goal.returns
returns c =
    let s = c.args.schedule.now in
    let r = c.args.rank in
    let t : c.second.result ≤ last_second = rw c.second.ensures (c.requires.seconds (r - 1) 0 (omega arith)) in
    record {
      value = c.from.ensures ∙ c.cost.ensures.value ∙ ap (cost_at c.args.problem.now r)
          (c.second.ensures ∙ second_is s r c.requires.rank.0);
      small = omega arith;
    }
