use Rattle.std.proofs.Common.{length, subst, sym, ap, arith}
use Rattle.std.specs.Prelude.{All}
use Rattle.audit.specs.Findings.{HasSmallWeight}
use Rattle.audit.proofs.FoundLines.{few_found, small_found}
use Rattle.audit.proofs.auditing.by_line.Goals as goal

pub by_head-requires-clause-few : goal.by_head-requires-clause-few
by_head-requires-clause-few c =
    let e = ap length c.requires.found in
    let f = few_found c.args.situation.now.active c.args.block.now.lines in
    let r = c.requires.few in
    omega (arith, e, f, r)

pub by_head-requires-clause-small : goal.by_head-requires-clause-small
by_head-requires-clause-small c = subst (All HasSmallWeight) (sym c.requires.found)
    (small_found c.args.situation.now.active c.args.block.now.lines c.requires.sound.flights)

pub by_rules-requires : goal.by_rules-requires
by_rules-requires c =
    let e = ap length c.requires.found in
    let f = few_found c.args.situation.now.active c.args.block.now.lines in
    let r = c.requires.few in
    omega (arith, e, f, r)
