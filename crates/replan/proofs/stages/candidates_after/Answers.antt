use Rattle.std.proofs.Common.{◌-◌, ◌<◌, length, rules, arith}
use Rattle.replan.proofs.StageLemmas.{held_at, read_stage, whole_at}
use Rattle.replan.proofs.stages.candidates_after.Goals as goal

pub stage_again-requires : goal.stage_again-requires
stage_again-requires g c =
    let lt : length c.args.kept.now - 1 < length c.args.kept.now = omega arith in
    let e = read_stage _ _ _ _ c.last.view_is c.index-kept-number.is lt in
    let f = read_stage _ c.saturating_sub.result _ _ c.earlier.view_is c.index-kept-saturating_sub.is (omega arith) in
    let number = (held_at _ _ c.requires.held _ _ e lt).1 in (
      search rules,
      (
        search rules,
        (c.requires.width, (omega arith, whole_at _ _ c.requires.held _ _ _ _ lt c.saturating_sub.ensures f e)),
      ),
    )

pub returns-clause-number : goal.returns-clause-number
returns-clause-number g c =
    let lt : length c.args.kept.now - 1 < length c.args.kept.now = omega arith in
    let number = (held_at _ _ c.requires.held _ _ (read_stage _ _ _ _ c.last.view_is c.index-kept-number.is lt) lt).1 in
    omega (arith, number, c.in_ok-stage.ensures.number, c.requires.some)

pub returns-clause-exact : goal.returns-clause-exact
returns-clause-exact g c =
    let lt : length c.args.kept.now - 1 < length c.args.kept.now = omega arith in
    let e = read_stage _ _ _ _ c.last.view_is c.index-kept-number.is lt in
    let number = (held_at _ _ c.requires.held _ _ e lt).1 in
    rw (← e) (rw number at c.in_ok-stage.ensures.exact)

pub returns-clause-candidates : goal.returns-clause-candidates
returns-clause-candidates g c =
    let lt : length c.args.kept.now - 1 < length c.args.kept.now = omega arith in
    let e = read_stage _ _ _ _ c.last.view_is c.index-kept-number.is lt in
    rw (← e) c.in_ok-stage.ensures.candidates
