use Rattle.std.proofs.Common.{◌+◌, ◌-◌, rules, arith, subst}
use Rattle.std.specs.Prelude.{vec_len}
use Rattle.cps_network.specs.Due.{HasCandidatesFrom}
use Rattle.replan.proofs.StageLemmas.{due_joined, due_none}
use Rattle.replan.proofs.filling.fill_upto.Goals as goal

pub loop-stage-init : goal.loop-stage-init
loop-stage-init g c = search (rules, due_none)

pub add_stage-requires : goal.add_stage-requires
add_stage-requires g c = search (rules, vec_len)

pub loop-stage-preserved : goal.loop-stage-preserved
loop-stage-preserved g c =
    let s = c.in_ok-add_stage.ensures.steps in
    let p = c.args.planning.now.problem.now in
    let first = vec_len c.args.begun.now.stages in
    let i = c.loop-stage._stage in
    let all = due_joined first i p (omega arith) (omega arith) i _ _ _ (omega arith) c.loop-stage.invariant.0
    (s.0, rw c.loop-stage.invariant.2 at s.1, s.2) in (
      (all.0, subst (λ n. HasCandidatesFrom first p n all.0) {x = i} {y = i + 1 - 1} (omega arith) all.1, all.2),
      c.in_ok-add_stage.ensures.held,
      omega (arith, c.in_ok-add_stage.ensures.one, c.loop-stage.invariant.2),
      omega arith,
    )

pub returns-clause-held : goal.returns-clause-held
returns-clause-held g c = c.loop-stage.invariant.1

pub returns-clause-many : goal.returns-clause-many
returns-clause-many g c = omega arith

pub returns-clause-steps : goal.returns-clause-steps
returns-clause-steps g c = rw c.loop-stage.invariant.2 c.loop-stage.invariant.0
