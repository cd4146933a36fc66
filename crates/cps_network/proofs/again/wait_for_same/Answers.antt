use Rattle.std.proofs.Common.{◌+◌, ◌-◌, ℕ, arith, rules, tests, subst}
use Rattle.cps_network.specs.Again.{WaitAlikeFor, WaitsNear}
use Rattle.cps_network.proofs.RangeTests.{each_in_range}
use Rattle.cps_network.proofs.AgainLemmas.{waits_by_places, reach_back, far_back}
use Rattle.cps_network.proofs.again.wait_for_same.Goals as goal

pub returns-clause-no_more : goal.returns-clause-no_more
returns-clause-no_more c = λ yes.
    waits_by_places c.args.held.now c.args.problem.now c.args.a c.args.rank c.args.b
    (c.args.rank + c.args.b - c.args.a) c.requires.far c.requires.rank
    (c.waits_near.ensures.0 c.if-not-waits_near.false)
    (λ place lt. (each_in_range (λ i. WaitAlikeFor c.args.held.now c.args.a c.args.rank c.args.problem.now c.args.b
    (c.args.rank + c.args.b - c.args.a) i) _ _ _ c.all.result
    (λ x b q h. search (rules, tests)) c.all.ensures.ran yes place (omega arith)
    (omega (arith, c.most_shift-k.ensures.k, lt))).on)

pub returns-clause-no_less : goal.returns-clause-no_less
returns-clause-no_less c = λ yes.
    waits_by_places c.args.problem.now c.args.held.now c.args.b (c.args.rank + c.args.b - c.args.a) c.args.a c.args.rank
    (far_back _ _ _ _ c.requires.far)
    (reach_back _ _ _ _ _ _ c.requires.far c.requires.rank)
    (subst (λ (o : ℕ). WaitsNear c.args.problem.now c.args.b o) c.rank_as_far-other.ensures.rank
    (c.waits_near-else-not-waits_near.ensures.0 c.if-not-waits_near-2.false))
    (λ place lt. (each_in_range (λ i. WaitAlikeFor c.args.held.now c.args.a c.args.rank c.args.problem.now c.args.b
    (c.args.rank + c.args.b - c.args.a) i) _ _ _ c.all.result
    (λ x b q h. search (rules, tests)) c.all.ensures.ran yes place (omega arith)
    (omega (arith, c.most_shift-k.ensures.k, lt, c.requires.far.k))).back)
