use Rattle.std.proofs.Common.{◌-◌, ◌<◌, length, rules, arith, ap, subst, ◌∙◌}
use Rattle.std.proofs.lemmas.Int.{ints}
use Rattle.std.proofs.lemmas.List.{length-set}
use Rattle.cps_network.specs.Pairs.{list_at}
use Rattle.cps_network.specs.WindowLaws.{WindowLaws}
use Rattle.replan.proofs.StageLemmas.{last_read}
use Rattle.replan.proofs.TraceLemmas.{step_reads, trace_begins, back_pair, listed_undominated, last_given, trace_end}
use Rattle.replan.proofs.trace.trace.Goals as goal

pub source-requires : goal.source-requires
source-requires g c =
    let inv = c.loop-i.invariant in
    let r = step_reads _ _ c.requires.held (omega arith) _ _ _ _ _ _ _ _ (omega arith) inv.0 (omega arith)
    c.earlier.view_is c.index-kept-i.is c.later.view_is c.index-kept-i-in-loop-i.is inv.2 inv.3 in
    let undominated = listed_undominated _ c.earlier.inside.stage _ _ _ _ _ _ r.above.held r.next r.within
    c.node-node.ensures.value r.listed c.pair-pair.ensures.value in (
      search rules,
      (search rules, (c.requires.width, (r.held, (omega arith, (undominated, c.pair-pair.ensures.known))))),
    )

pub last_rank-requires : goal.last_rank-requires
last_rank-requires g c =
    let inv = c.loop-i.invariant in
    let r = step_reads _ _ c.requires.held (omega arith) _ _ _ _ _ _ _ _ (omega arith) inv.0 (omega arith)
    c.earlier.view_is c.index-kept-i.is c.later.view_is c.index-kept-i-in-loop-i.is inv.2 inv.3 in
    let laws : WindowLaws c.args.problem.now g.row.W = search rules in
    let last = last_given _ g.row.W c.requires.width laws _ _ _ _ _ _ r.held.held c.source.ensures in
    let e = last.0 in
    let few = last.1 in
    let most = c.len-n.ensures.well_formed.few_flights in (
      search rules,
      (omega (arith, ints, e, r.number, r.one_back), omega (arith, ints, e, r.number, r.one_back, few, most)),
    )

pub loop-i-preserved : goal.loop-i-preserved
loop-i-preserved g c =
    let inv = c.loop-i.invariant in
    let r = step_reads _ _ c.requires.held (omega arith) _ _ _ _ _ _ _ _ (omega arith) inv.0 (omega arith)
    c.earlier.view_is c.index-kept-i.is c.later.view_is c.index-kept-i-in-loop-i.is inv.2 inv.3 in
    let laws : WindowLaws c.args.problem.now g.row.W = search rules in
    let last = last_given _ g.row.W c.requires.width laws _ _ _ _ _ _ r.held.held c.source.ensures in
    let e = last.0 in
    let gives = c.source.ensures in
    let room = inv.1 in (
      omega arith,
      length-set _ (c.loop-i.i - 1) _ ∙ room,
      subst (λ s. c.source.result.0 < length s.stage.1) r.before_is gives.within,
      subst (λ s. c.source.result.1 < length (list_at s.labels.lists c.source.result.0)) r.before_is gives.listed,
      back_pair _ c.prefix_laws.ensures.network _ _ _ _ c.source.result.0 c.source.result.1 _ _ _ _ _ _ _ r
          c.node-node.ensures.value c.pair-pair.ensures.value gives
          (omega (arith, ints, e, r.number, r.one_back, c.last_rank.ensures)) (omega arith) inv.4,
    )

pub returns-clause-lands : goal.returns-clause-lands
returns-clause-lands g c =
    let inv = c.loop-i.invariant in
    trace_end _ _ c.requires.held _ _ _ _ _ (omega arith) (omega arith) inv.2 inv.3 inv.4

pub overflow_sub-index : goal.overflow_sub-index
overflow_sub-index g c =
    let l = last_read _ _ c.requires.held (omega arith) _ _ _ c.len-n.ensures.value c.last.view_is c.index-kept-n.is in
    let some = l.some c.args.place (omega arith) in
    omega arith

pub loop-i-init : goal.loop-i-init
loop-i-init g c =
    let l = last_read _ _ c.requires.held (omega arith) _ _ _ c.len-n.ensures.value c.last.view_is c.index-kept-n.is in
    let some = l.some c.args.place (omega arith) in
    let long = rw l.is at c.count-index.ensures in
    trace_begins _ _ _ _ _ (c.count-index.result - 1) _ c.len-n.ensures.value (omega arith) c.requires.room
    c.requires.within (omega arith) (ap (λ n. n - 1) long)
