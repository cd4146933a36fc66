use Rattle.std.proofs.Common.{◌≡◌, ◌-◌, ap, sym, subst, ◌∙◌, arith}
use Rattle.std.proofs.lemmas.List.{get_or_default}
use Rattle.replan.specs.Kept.{held_of}
use Rattle.replan.specs.Readers.{IsReadable}
use Rattle.replan.specs.WindowNodes.{AreNodesOf}
use Rattle.first_best.specs.Completing.{no_stage}
use Rattle.first_best.proofs.AheadLemmas.{all_stages, at, last_behind, one_stage}
use Rattle.first_best.proofs.ahead.stages_ahead.Goals as goal

pub stage_before-requires-clause-next : goal.stage_before-requires-clause-next
stage_before-requires-clause-next c =
    let stages = c.loop-done.stages.items in
    let done = c.loop-done.done in
    let long = c.loop-done.invariant.0.long in
    let same : c.from-in-loop-done.result ≡ done = omega arith in
    let next : c.index-next.result.now ≡ at stages done = c.index-next.ensures
    ∙ get_or_default stages _ _ no_stage (omega arith) ∙ ap (at stages) same in
    last_behind _ _ _ _ done stages c.loop-done.invariant.0 (c.len-last.result - done) (omega arith) (omega arith) _
    next

pub loop-done-preserved : goal.loop-done-preserved
loop-done-preserved c =
    let p = c.args.problem.now in
    let held = held_of c.args.kept.now in
    let stages = c.loop-done.stages.items in
    let done = c.loop-done.done in
    let stage = c.len-last.result - done in
    let are = c.stages-held.ensures.held p c.requires in
    let whole = are.whole in
    let made = one_stage p _ _ held done stages c.loop-done.invariant.0 stage (omega arith) (omega arith) _
    c.in_ok-stage.ensures.completed c.in_ok-stage.ensures.gathered in
    let nodes = c.in_ok-put.ensures in
    let at = nodes.stage_is in (
      rw c.in_ok-push-2.ensures.items made,
      λ some. subst (λ m. IsReadable held m × AreNodesOf held m c.in_ok-put.put) (sym at)
          ((omega arith, omega arith), nodes),
    )

pub returns : goal.returns
returns c = all_stages _ _ _ _ _ _ c.loop-done.invariant.0 (omega arith)
