use Rattle.std.proofs.Common.{ℕ, subst}
use Rattle.std.specs.Prelude.{Option, IfSome}
use Rattle.precedence.specs.Pairs.{HasBit}
use Rattle.cps_network.proofs.GroupLemmas.{free_permitted}
use Rattle.cps_network.proofs.groups.permitted_offsets.Goals as goal

pub returns-in-Some : goal.returns-in-Some
returns-in-Some g c =
    let some = subst (λ (r : Option ℕ). IfSome r (λ offsets. (j : ℕ) → HasBit offsets j
    → HasBit c.accepted.result j × HasBit c.args.ahead.free j)) c.in-Some.is c.free_of.ensures.some in
    let all = subst (λ (r : Option ℕ). IfSome r (λ offsets. (j : ℕ) → HasBit c.accepted.result j
    → HasBit c.args.ahead.open j → HasBit offsets j)) c.in-Some.is c.free_of.ensures.all in
    free_permitted c.args.problem.now c.args.stage g.row.W c.args.window.now c.accepted.result c.args.ahead.open c.args.ahead.free c.in-Some.offsets
    c.requires.width c.accepted.ensures.valid.len c.accepted.ensures.accepted c.requires.open c.requires.free
    some all
