use Rattle.std.proofs.Common.{◌+◌, ◌<◌, length, rules, arith}
use Rattle.replan.proofs.HintLemmas.{read_hinted, next_hinted}
use Rattle.replan.proofs.hints.Hints.next_at.Goals as goal

pub next_stage_again-requires : goal.next_stage_again-requires
next_stage_again-requires g c =
    let stages = c.self.inside.stages.items in
    let place = c.args.number in
    let next : place + 1 < length stages = omega arith in
    let here : place < length stages = omega arith in
    let e = read_hinted stages place _ _ c.earlier.view_is c.index-earlier.ensures here in
    let f = read_hinted stages (place + 1) _ _ c.after.view_is c.index-after.ensures next in (
      search rules,
      (
        c.requires.width,
        (c.requires.stage, next_hinted _ stages c.self.invariant place _ _ next e f c.if-not-after.false),
      ),
    )
