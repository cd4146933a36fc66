use Rattle.std.proofs.Common.{ℕ, length, arith, subst, sym}
use Rattle.cert_writer.specs.StageEntries.{IsEntryOf}
use Rattle.replan.specs.Kept.{held_of}
use Rattle.replan.specs.Readers.{stage_in, lists_in, IsReadable}
use Rattle.replan.specs.WindowNodes.{AreNodesOf}
use Rattle.cert_writer.specs.Written.{AreWrittenBelow}
use Rattle.cert_writer.proofs.StateLemmas.{all_written}
use Rattle.cert_writer.proofs.states.states_of.Goals as goal

pub loop-stage-preserved : goal.loop-stage-preserved
loop-stage-preserved c =
    let held = held_of c.args.kept.now in
    let nodes = c.in_ok-put.ensures in (
      c.in_ok-add_states.ensures,
      λ some. subst (λ (m : ℕ). IsReadable held m × AreNodesOf held m c.in_ok-put.put) (sym nodes.stage_is) (
        (
          omega (arith, c.loop-stage.auto.stage),
          omega (arith, c.loop-stage-test.true, c.stages-stage-end.ensures.value),
        ),
        nodes,
      ),
    )

pub returns-clause-whole : goal.returns-clause-whole
returns-clause-whole c =
    let p = c.args.problem.now in
    let held = held_of c.args.kept.now in
    let are = c.stages-stage-end.ensures.held p c.requires in
    c.stage_laws.ensures.whole (stage_in held) (lists_in held) c.loop-stage.states.items
    (λ i one most. (are.number i most, are.pairs i most))
    (all_written p.k (IsEntryOf p (stage_in held) (lists_in held)) (length p.flights) c.loop-stage.states.items
    (subst (λ (m : ℕ). AreWrittenBelow p.k (IsEntryOf p (stage_in held) (lists_in held)) m 0 c.loop-stage.states.items)
    (let past = c.loop-stage.auto.stage-end (omega arith) in
    let whole = are.whole in omega (arith, past, c.loop-stage-test.false, c.stages-stage-end.ensures.value, whole))
    c.loop-stage.invariant.0) (λ d q e. e.0))
