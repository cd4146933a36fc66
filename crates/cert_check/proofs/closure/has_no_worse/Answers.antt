-- Those that are no later stand before the others, and the last of them decides.
use Rattle.std.proofs.Common.{rules, of_calls, sym, ◌∙◌, leb, get_or, arith}
use Rattle.std.proofs.lemmas.Bool.{le-leb, leb-true, le-ltb}
use Rattle.std.proofs.lemmas.Fn.{always_returns_same}
use Rattle.cert_check.proofs.Pairs.{seconds_rise, last_decides, all_later}
use Rattle.cert_check.proofs.closure.has_no_worse.Goals as goal

pub returns-then-later-gt0 : goal.returns-then-later-gt0
returns-then-later-gt0 c =
    let ps = c.args.pairs.now in
    let q = c.args.pair in
    let point = c.partition_point-later.ensures.partitioned (λ o. leb o.0 q.0)
    (always_returns_same _ _ _ (λ a r f k. search (rules, of_calls)))
    (λ i j d le lt up. let rise = seconds_rise ps c.requires i j d le lt in let t =
    leb-true (get_or ps j d).0 q.0 up in le-leb (get_or ps i d).0 q.0 (omega arith)) in search (rules, last_decides)

pub returns-else-later-gt0 : goal.returns-else-later-gt0
returns-else-later-gt0 c =
    let ps = c.args.pairs.now in
    let q = c.args.pair in
    le-ltb 0 c.partition_point-later.result c.if-later-gt0.false ∙ sym
    (all_later ps q (λ k d lt. (c.partition_point-later.ensures.partitioned (λ o. leb o.0 q.0)
    (always_returns_same _ _ _ (λ a r f k. search (rules, of_calls)))
    (λ i j d le lt up. let rise = seconds_rise ps c.requires i j d le lt in let t =
    leb-true (get_or ps j d).0 q.0 up in le-leb (get_or ps i d).0 q.0 (omega arith))).1 k d (omega arith) lt))
