use Rattle.std.proofs.Common.{ℕ, ◌*◌, ◌^◌, arith, subst, ap}
use Rattle.std.proofs.lemmas.Nat.{shl_whole}
use Rattle.cert_writer.specs.StageEntries.{IsEntryOf}
use Rattle.replan.specs.Kept.{held_of}
use Rattle.replan.specs.Readers.{stage_in, lists_in}
use Rattle.cert_writer.specs.Written.{AreWrittenBelow}
use Rattle.cert_writer.proofs.WriteLemmas.{stage_held, stage_written}
use Rattle.cert_writer.proofs.states.add_states.Goals as goal

pub returns : goal.returns
returns c =
    let p = c.args.problem.now in
    let held = held_of c.args.kept.now in
    stage_written p (stage_in held) (lists_in held) c.args.stage
    (stage_held p held c.args.stage c.most_shift-k.ensures.well_formed
    (c.stages-held.ensures.held p c.requires.held) c.requires.stage) c.loop-number.states.items
    (subst (λ (n : ℕ). AreWrittenBelow p.k (IsEntryOf p (stage_in held) (lists_in held)) c.args.stage
    n c.loop-number.states.items)
    (omega (
      arith,
      c.loop-number-test.false,
      c.loop-number.auto.number-end,
      (shl_whole 8 4 (2 * c.most_shift-k.result) 64 (omega arith) (omega (arith, c.most_shift-k.ensures.near))),
      (ap (λ (m : ℕ). 8 * 2 ^ (2 * m)) c.most_shift-k.ensures.k),
    )) c.loop-number.invariant)
