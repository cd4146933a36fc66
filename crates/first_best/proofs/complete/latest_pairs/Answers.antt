use Rattle.std.proofs.Common.{◌≡◌, ℕ, ◌+◌, ◌-◌, ◌*◌, ◌<◌, ◌≤◌, length, Option, Some, arith}
use Rattle.std.specs.Prelude.{IfSome}
use Rattle.cps_base.specs.Limits.{dearest_landing}
use Rattle.landing_rules.specs.Problem.{Problem}
use Rattle.landing_rules.specs.Rules.{last_second}
use Rattle.first_best.proofs.ScanLemmas.{cheaper, no_cheaper, nothing_here, scanned_all, scanned_free}
use Rattle.first_best.proofs.complete.latest_pairs.Goals as goal

is_small : (p : Problem) (stage : ℕ) (o : Option ℕ) (cost : ℕ)
    → IfSome o (λ d. d ≤ dearest_landing * (length p.flights - stage)) → o ≡ Some cost
    → cost ≤ dearest_landing * (length p.flights - stage)
is_small p stage o cost small e = rw e at small

pub returns-then-least-eq0 : goal.returns-then-least-eq0
returns-then-least-eq0 c =
    let i = c.loop-second.invariant in scanned_free _ _ _ _ _ _ i.0 i.1 _ _ _ c.if-least-eq0.true i.2

pub loop-second-preserved : goal.loop-second-preserved
loop-second-preserved c =
    let i = c.loop-second.invariant in
    let from = c.loop-second.second in
    let before : from ≡ from - 1 + 1 = omega arith in (
      i.0,
      i.1,
      nothing_here _ _ _ _ _ _ i.0 i.1 from (from - 1) _ _ before i.2 _ c.cost_of.ensures.least c.in_default.is,
    )

pub loop-second-preserved-then-from-least : goal.loop-second-preserved-then-from-least
loop-second-preserved-then-from-least c =
    let i = c.loop-second.invariant in
    let from = c.loop-second.second in
    let cost = c.in-Some.cost in
    let before : from ≡ from - 1 + 1 = omega arith in
    let less : cost < c.loop-second.least = omega arith in
    let in_days : from - 1 ≤ last_second = omega arith in
    let made = cheaper c.args.wanted.now.problem.now c.args.wanted.now.value c.args.wanted.now.budget
    c.args.wanted.now.stage c.args.node c.args.next.now i.0 i.1 from (from - 1) c.loop-second.least
    c.loop-second.pairs.items before i.2 c.cost_of.result c.cost_of.ensures.least cost c.in-Some.is less in_days
    (is_small c.args.wanted.now.problem.now c.args.wanted.now.stage c.cost_of.result cost
    c.cost_of.ensures.small c.in-Some.is) in
    (i.0, i.1, rw (c.from-least.ensures, c.in_ok-push.ensures.items) made)

pub loop-second-preserved-else-from-least : goal.loop-second-preserved-else-from-least
loop-second-preserved-else-from-least c =
    let i = c.loop-second.invariant in
    let from = c.loop-second.second in
    let cost = c.in-Some.cost in
    let before : from ≡ from - 1 + 1 = omega arith in
    let dear : c.loop-second.least ≤ cost = omega arith in
    let small = is_small c.args.wanted.now.problem.now _ _ cost c.cost_of.ensures.small c.in-Some.is in (
      i.0,
      i.1,
      no_cheaper _ _ _ _ _ _ i.0 i.1 from (from - 1) _ _ before i.2 _ c.cost_of.ensures.least cost c.in-Some.is dear
          (omega arith),
    )

pub returns : goal.returns
returns c =
    let i = c.loop-second.invariant in scanned_all _ _ _ _ _ _ i.0 i.1 _ _ _ c.loop-second-test.false i.2
