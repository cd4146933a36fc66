use Rattle.std.proofs.Common.{◌≡◌, suc, ◌+◌, ◌-◌, ◌≤◌, length, arith, rules, refl}
use Rattle.std.specs.Prelude.{pos, ◌+ℤ◌}
use Rattle.std.proofs.lemmas.Int.{ints}
use Rattle.cps_base.specs.Limits.{most_waiting}
use Rattle.cps_nodes.specs.Windows.{offset_at}
use Rattle.cps_network.specs.Lists.{node_at}
use Rattle.cps_network.specs.shared.LeadingWindows.{Sources, sources_of, same_rank, in_bytes, some_range, leader_range}
use Rattle.cps_network.specs.shared.LeadingWindows.{rank_range}
use Rattle.delay_labels.proofs.PairLemmas.{listed_small, source_known, first_to_give, leader_within}
use Rattle.delay_labels.proofs.PairLemmas.{rank_within}
use Rattle.delay_labels.proofs.source.source_pair.Goals as goal
use Rattle.delay_labels.proofs.source.source_pair.Goals.{After-last_rank-last, After-last_rank-rank}
use Rattle.delay_labels.proofs.source.source_pair.Goals.{After-sources-range}

-- the windows that lead to the node
led_from : (g : _) (c : After-sources-range g) → Sources c.args.problem.now g.row.W c.args.before.now.0
    c.args.before.now.1 c.args.node.now c.sources-range.result.0 c.sources-range.result.1
led_from g c = search (rules, sources_of)

leader_is : (g : _) (c : After-last_rank-last g) → pos c.last_rank-last.result ≡ pos c.args.before.now.0
    +ℤ offset_at (node_at c.args.before.now.1 c.sources-range.result.0) (g.row.W - 1)
leader_is g c = same_rank _ _ _ _ _ _ c.node.ensures.value c.number.ensures c.last_rank-last.ensures

rank_is : (g : _) (c : After-last_rank-rank g) → pos c.last_rank-rank.result ≡ pos (suc c.args.before.now.0)
    +ℤ offset_at c.args.node.now (g.row.W - 1)
rank_is g c = search (rules, same_rank)

pub node-requires : goal.node-requires
node-requires g c =
    let some = some_range _ _ _ _ _ _ _ (led_from g c) in
    (search rules, (search rules, omega (arith, some, c.sources-range.ensures.range)))

pub last_rank-last-requires : goal.last_rank-last-requires
last_rank-last-requires g c =
    let l = leader_range _ _ _ _ _ _ _ (led_from g (goal.at.last_rank-last-requires g c).After-sources-range) in
    let few : length c.args.problem.now.flights ≤ most_waiting = c.head-near.ensures.well_formed.few_flights in
    let e = l.0 in
    let h = l.1 in (
      search rules,
      in_bytes _ _ _ _ _ _ c.node.ensures.value c.number.ensures few (omega (arith, ints, e))
          (omega (arith, ints, e, h)),
    )

pub last_rank-rank-requires : goal.last_rank-rank-requires
last_rank-rank-requires g c =
    let k = rank_range _ _ _ _ _ _ _ (led_from g (goal.at.last_rank-rank-requires g c).After-sources-range) in
    let few : length c.args.problem.now.flights ≤ most_waiting = c.head-near.ensures.well_formed.few_flights in
    let stage_is : c.number-2.result + 1 ≡ suc c.args.before.now.0 = omega (arith, c.number-2.ensures) in
    let lo = k.0 in
    let hi = k.1 in
    (search rules, in_bytes c.args.node.now _ _ _ _ _ refl stage_is few (omega (arith, ints, lo)) hi)

pub first_source-requires-clause-last : goal.first_source-requires-clause-last
first_source-requires-clause-last g c =
    let d = goal.at.first_source-requires-clause-last g c in
    leader_within (led_from g d.After-sources-range) _ (leader_is g d.After-last_rank-last)

pub first_source-requires-clause-rank : goal.first_source-requires-clause-rank
first_source-requires-clause-rank g c =
    let d = goal.at.first_source-requires-clause-rank g c in
    rank_within (led_from g d.After-sources-range) _ (rank_is g d.After-last_rank-rank)

pub first_source-requires-clause-range : goal.first_source-requires-clause-range
first_source-requires-clause-range g c = omega (arith, c.sources-range.ensures.range, c.requires.before.costs.one_each)

pub first_source-requires-clause-costs : goal.first_source-requires-clause-costs
first_source-requires-clause-costs g c =
    let d = goal.at.first_source-requires-clause-costs g c in
    λ x lo hi. listed_small _ c.head-near.ensures.well_formed _ _ _ _ _ _ (led_from g d.After-sources-range) _
    c.requires.before.costs c.len-in_days.ensures.in_days _ _ (leader_is g d.After-last_rank-last)
    (rank_is g d.After-last_rank-rank) x (omega (arith, hi, c.sources-range.ensures.range))

pub unwrap-requires : goal.unwrap-requires
unwrap-requires g c =
    let d = goal.at.unwrap-requires g c in
    source_known _ c.head-near.ensures.well_formed _ _ _ _ _ _ (led_from g d.After-sources-range) _
    c.requires.before.costs c.len-in_days.ensures.in_days _ _ (leader_is g d.After-last_rank-last)
    (rank_is g d.After-last_rank-rank) _ _ _ c.requires.given.2 c.first_source.result c.first_source.ensures

pub returns : goal.returns
returns g c =
    let d = goal.at.returns g c in
    let first = first_to_give _ c.head-near.ensures.well_formed _ _ _ _ _ _ (led_from g d.After-sources-range) _
    c.requires.before.costs c.len-in_days.ensures.in_days _ _ (leader_is g d.After-last_rank-last)
    (rank_is g d.After-last_rank-rank) (c.args.second, c.args.cost) c.first_source.result c.unwrap.result
    c.first_source.ensures c.unwrap.ensures in
    record { gives = first.0; first = first.1 }
