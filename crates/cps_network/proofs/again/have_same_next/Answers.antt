use Rattle.std.proofs.Common.{◌+◌, ◌-◌, ℕ, arith, rules, tests, subst}
use Rattle.cps_network.specs.Again.{AreAsFar, WaitAlike}
use Rattle.cps_network.proofs.RangeTests.{each_in_range}
use Rattle.cps_network.proofs.AgainLemmas.{same_next}
use Rattle.cps_network.proofs.again.have_same_next.Goals as goal

pub returns : goal.returns
returns c = λ yes.
    let far : AreAsFar c.args.held.now c.args.a c.args.problem.now c.args.b =
    c.are_as_far.ensures c.if-not-are_as_far.false in
    same_next c.args.held.now c.args.problem.now c.args.a c.args.b far (λ rank other is.
    subst (λ (o : ℕ). WaitAlike c.args.held.now c.args.a rank c.args.problem.now c.args.b o) (omega (arith, is.as_far))
    (each_in_range (λ r. WaitAlike c.args.held.now c.args.a r c.args.problem.now c.args.b (r + c.args.b - c.args.a))
    _ _ _ c.all.result (λ x b q h. search (rules, tests)) c.all.ensures.ran yes rank
    (omega (arith, c.reach-first.ensures.first, is.late, is.from_one))
    (omega (arith, c.reach-first.ensures.end, is.early, is.to_count))))
