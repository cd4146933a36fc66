use Rattle.std.proofs.Common.{◌≡◌, suc, ◌-◌, ◌<◌, ◌≤◌, List, length, arith, rules, sym, ap, subst, ◌∙◌}
use Rattle.std.specs.Prelude.{All, ℤ, pos, ◌+ℤ◌, ◌↔◌}
use Rattle.std.proofs.lemmas.Int.{ints}
use Rattle.std.proofs.lemmas.List.Sorted.{All-permutation}
use Rattle.cps_base.specs.Limits.{most_waiting}
use Rattle.cps_nodes.specs.Leads.{Extends}
use Rattle.cps_nodes.specs.Windows.{offset_at}
use Rattle.cps_theory.specs.UndominatedPairs.{sweep}
use Rattle.cps_network.specs.Lists.{node_at}
use Rattle.cps_network.specs.shared.LeadingWindows.{Sources, sources_from, same_rank, in_bytes, some_range}
use Rattle.cps_network.specs.shared.LeadingWindows.{leader_range, rank_range}
use Rattle.delay_labels.specs.Bounds.{IsInDays, beyond_costs}
use Rattle.delay_labels.specs.Lists.{successors_in}
use Rattle.delay_labels.specs.StageLists.{IsListOf}
use Rattle.delay_labels.proofs.PairLemmas.{listed_leading, pairs_here, may_lead, in_reach}
use Rattle.delay_labels.proofs.fill.pairs_of.Goals as goal
use Rattle.delay_labels.proofs.fill.pairs_of.Goals.{After-sources-range, After-last_rank-last, After-last_rank-rank}

-- the windows that lead to it
led_from : (g : _) (c : After-sources-range g) → Sources c.args.landings.now.problem g.row.W
    c.args.before.now.0 c.args.before.now.1
    (node_at c.args.stage.now.1 c.args.i) c.sources-range.result.0 c.sources-range.result.1
led_from g c =
    sources_from _ _ c.args.before.now c.args.stage.now c.args.i c.sources-range.result.0 c.sources-range.result.1
    c.requires.behind.width c.requires.behind.laws
    c.requires.behind.held.landable c.requires.behind.next c.requires.within c.sources-range.ensures.range.1
    (λ j lt. subst (λ (v : List ℤ). Extends (node_at c.args.before.now.1 j) v
    ↔ ((c.sources-range.result.0 ≤ j) × (j < c.sources-range.result.1))) c.node-node.ensures.value
    (c.sources-range.ensures.exact j lt))

leader_is : (g : _) (c : After-last_rank-last g) → pos c.last_rank-last.result ≡ pos c.args.before.now.0
    +ℤ offset_at (node_at c.args.before.now.1 c.sources-range.result.0) (g.row.W - 1)
leader_is g c = same_rank _ _ _ _ _ _ c.node.ensures.value c.number.ensures c.last_rank-last.ensures

rank_is : (g : _) (c : After-last_rank-rank g) → pos c.last_rank-rank.result ≡ pos (suc c.args.before.now.0)
    +ℤ offset_at (node_at c.args.stage.now.1 c.args.i) (g.row.W - 1)
rank_is g c =
    same_rank _ _ c.number-2.result (suc c.args.before.now.0) _ _ c.node-node.ensures.value
    (omega (arith, c.number-2.ensures, c.requires.behind.number)) c.last_rank-rank.ensures

pub node-requires : goal.node-requires
node-requires g c =
    let some = some_range _ _ _ _ _ _ _ (led_from g c) in
    (search rules, (search rules, omega (arith, some, c.sources-range.ensures.range)))

pub last_rank-last-requires : goal.last_rank-last-requires
last_rank-last-requires g c =
    let d = goal.at.last_rank-last-requires g c in
    let l = leader_range _ _ _ _ _ _ _ (led_from g d.After-sources-range) in
    let few : length c.args.landings.now.problem.flights ≤ most_waiting =
    c.requires.behind.formed.few_flights in
    let e = l.0 in
    let h = l.1 in (
      search rules,
      in_bytes _ _ _ _ _ _ c.node.ensures.value c.number.ensures few (omega (arith, ints, e))
          (omega (arith, ints, e, h)),
    )

pub last_rank-rank-requires : goal.last_rank-rank-requires
last_rank-rank-requires g c =
    let d = goal.at.last_rank-rank-requires g c in
    let k = rank_range _ _ _ _ _ _ _ (led_from g d.After-sources-range) in
    let few : length c.args.landings.now.problem.flights ≤ most_waiting =
    c.requires.behind.formed.few_flights in
    let stage_is : c.number-2.result ≡ suc c.args.before.now.0 =
    omega (arith, c.number-2.ensures, c.requires.behind.number) in
    let lo = k.0 in
    let hi = k.1 in
    (search rules, in_bytes _ _ _ _ _ _ c.node-node.ensures.value stage_is few (omega (arith, ints, lo)) hi)

pub successors_of-requires-clause-last : goal.successors_of-requires-clause-last
successors_of-requires-clause-last g c =
    let d = goal.at.successors_of-requires-clause-last g c in
    may_lead (led_from g d.After-sources-range) c.args.landings.now.number (omega (arith, c.requires.behind.at, c.requires.behind.number)) _
    (leader_is g d.After-last_rank-last)

pub successors_of-requires-clause-rank : goal.successors_of-requires-clause-rank
successors_of-requires-clause-rank g c =
    let d = goal.at.successors_of-requires-clause-rank g c in
    in_reach (led_from g d.After-sources-range) c.args.landings.now.number (omega (arith, c.requires.behind.at, c.requires.behind.number)) _
    (rank_is g d.After-last_rank-rank)

pub successors_of-requires-clause-range : goal.successors_of-requires-clause-range
successors_of-requires-clause-range g c =
    (c.sources-range.ensures.range.0, omega (arith, c.sources-range.ensures.range, c.requires.behind.held.costs.one_each))

pub successors_of-requires-clause-pairs : goal.successors_of-requires-clause-pairs
successors_of-requires-clause-pairs g c =
    let d = goal.at.successors_of-requires-clause-pairs g c in
    λ x lo hi.
    listed_leading _ c.requires.behind.formed _ _ _ _ _ _ (led_from g d.After-sources-range) _
    c.requires.behind.held.costs c.len-in_days.ensures.in_days _ _ (leader_is g d.After-last_rank-last)
    (rank_is g d.After-last_rank-rank) x lo hi

pub returns-clause-in_days : goal.returns-clause-in_days
returns-clause-in_days g c = c.in_ok-pairs.ensures.in_days (subst (All IsInDays)
    (sym c.as_slice.ensures.value) (All-permutation IsInDays c.in_ok-found.found.items
    c.put_in_order.new.pairs.items c.put_in_order.ensures.same c.in_ok-found.ensures.in_days))

pub returns-clause-list : goal.returns-clause-list
returns-clause-list g c =
    let d = goal.at.returns-clause-list g c in
    let made : c.in_ok-found.found.items ≡ successors_in c.args.landings.now.problem c.last_rank-last.result
    c.last_rank-rank.result c.args.labels.now c.sources-range.result.0 c.sources-range.result.1 =
    c.in_ok-found.ensures.successors in
    let kept : c.in_ok-pairs.pairs.items ≡ sweep beyond_costs c.put_in_order.new.pairs.items =
    c.in_ok-pairs.ensures.kept ∙ ap (sweep beyond_costs) c.as_slice.ensures.value in
    subst (IsListOf c.args.landings.now.problem c.args.before.now c.args.labels.now
    c.args.stage.now c.args.i) (sym kept)
    (pairs_here _ c.requires.behind.formed _ c.args.before.now c.args.stage.now
    c.args.i _ _ (led_from g d.After-sources-range) _ c.requires.behind.held.costs c.len-in_days.ensures.in_days
    _ _ (leader_is g d.After-last_rank-last) (rank_is g d.After-last_rank-rank) c.requires.behind.number
    (omega (arith, c.sources-range.ensures.range, c.requires.behind.held.costs.one_each)) c.in_ok-found.found.items
    c.put_in_order.new.pairs.items made c.put_in_order.ensures.same c.put_in_order.ensures.order
    c.in_ok-found.ensures.in_days)
