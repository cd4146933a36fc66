use Rattle.std.proofs.Common.{◌≡◌, ℕ, suc, ◌+◌, ◌-◌, ◌<◌, ◌≤◌, length, arith, rules, tests, sym, ap, refl, subst, Some}
use Rattle.std.proofs.Common.{true, false}
use Rattle.std.specs.Prelude.{slice_index, nat_eq, unwrap_or}
use Rattle.std.specs.Option.{option_eq}
use Rattle.std.proofs.lemmas.Int.{ints}
use Rattle.std.proofs.lemmas.Iterator.{first_from_Range, serves_from_Range}
use Rattle.cps_base.specs.Limits.{most_waiting}
use Rattle.landing_joint.specs.RankedProblem.{landing_after}
use Rattle.cps_network.specs.Lists.{node_at}
use Rattle.cps_network.specs.shared.LeadingWindows.{same_rank, in_bytes, some_range, leader_range, rank_range}
use Rattle.cps_network.specs.shared.LeadingWindows.{sources_of}
use Rattle.landing_rules.specs.Rules.{last_second}
use Rattle.makespan_labels.specs.Columns.{IsEntry}
use Rattle.makespan_labels.specs.Labels.{no_label, GivesLabel}
use Rattle.makespan_labels.proofs.LabelLemmas.{label_next, known_at, first_found}
use Rattle.makespan_labels.proofs.ColumnLemmas.{entry_small}
use Rattle.makespan_labels.proofs.source.source_of.Goals as goal

pub node-requires : goal.node-requires
node-requires g c =
    let p = c.args.problem.now in
    let s = sources_of p g.row.W c.args.before.now c.args.node.now c.sources-from.result.0
    c.sources-from.result.1 c.requires.width c.prefix_laws.ensures.network c.prefix_laws.ensures.sources
    c.window_laws.ensures.ranks c.window_laws.ensures.leads
    c.requires.before.landable c.requires.node c.sources-from.ensures.range.1 c.sources-from.ensures.exact in
    let some = some_range p g.row.W c.args.before.now.0 c.args.before.now.1 c.args.node.now
    c.sources-from.result.0 c.sources-from.result.1 s in
    (search rules, (search rules, omega (arith, some, c.sources-from.ensures.range)))

pub last_rank-leader-requires : goal.last_rank-leader-requires
last_rank-leader-requires g c =
    let p = c.args.problem.now in
    let s = sources_of p g.row.W c.args.before.now c.args.node.now c.sources-from.result.0
    c.sources-from.result.1 c.requires.width c.prefix_laws.ensures.network c.prefix_laws.ensures.sources
    c.window_laws.ensures.ranks c.window_laws.ensures.leads
    c.requires.before.landable c.requires.node c.sources-from.ensures.range.1 c.sources-from.ensures.exact in
    let l = leader_range p g.row.W c.args.before.now.0 c.args.before.now.1 c.args.node.now
    c.sources-from.result.0 c.sources-from.result.1 s in
    let few : length p.flights ≤ most_waiting = c.head-near.ensures.well_formed.few_flights in
    let e = l.0 in
    let h = l.1 in (
      search rules,
      in_bytes c.node.result (node_at c.args.before.now.1 c.sources-from.result.0)
          c.number.result c.args.before.now.0 (g.row.W - 1) (length p.flights) c.node.ensures.value c.number.ensures few
          (omega (arith, ints, e)) (omega (arith, ints, e, h)),
    )

pub last_rank-rank-requires : goal.last_rank-rank-requires
last_rank-rank-requires g c =
    let p = c.args.problem.now in
    let s = sources_of p g.row.W c.args.before.now c.args.node.now c.sources-from.result.0
    c.sources-from.result.1 c.requires.width c.prefix_laws.ensures.network c.prefix_laws.ensures.sources
    c.window_laws.ensures.ranks c.window_laws.ensures.leads
    c.requires.before.landable c.requires.node c.sources-from.ensures.range.1 c.sources-from.ensures.exact in
    let k = rank_range p g.row.W c.args.before.now.0 c.args.before.now.1 c.args.node.now c.sources-from.result.0
    c.sources-from.result.1 s in
    let few : length p.flights ≤ most_waiting = c.head-near.ensures.well_formed.few_flights in
    let stage_is : c.number-2.result + 1 ≡ suc c.args.before.now.0 = omega (arith, c.number-2.ensures) in
    let lo = k.0 in
    let hi = k.1 in (
      search rules,
      in_bytes c.args.node.now c.args.node.now (c.number-2.result + 1) (suc c.args.before.now.0)
          (g.row.W - 1) (length p.flights) refl stage_is few (omega (arith, ints, lo)) hi,
    )

pub find-requires-clause-callable : goal.find-requires-clause-callable
find-requires-clause-callable g c =
    let p = c.args.problem.now in
    let s = sources_of p g.row.W c.args.before.now c.args.node.now c.sources-from.result.0
    c.sources-from.result.1 c.requires.width c.prefix_laws.ensures.network c.prefix_laws.ensures.sources
    c.window_laws.ensures.ranks c.window_laws.ensures.leads
    c.requires.before.landable c.requires.node c.sources-from.ensures.range.1 c.sources-from.ensures.exact in
    let l = leader_range p g.row.W c.args.before.now.0 c.args.before.now.1 c.args.node.now
    c.sources-from.result.0 c.sources-from.result.1 s in
    let k = rank_range p g.row.W c.args.before.now.0 c.args.before.now.1 c.args.node.now c.sources-from.result.0
    c.sources-from.result.1 s in
    let leader_is = same_rank c.node.result (node_at c.args.before.now.1 c.sources-from.result.0)
    c.number.result c.args.before.now.0 c.last_rank-leader.result
    (g.row.W - 1) c.node.ensures.value c.number.ensures c.last_rank-leader.ensures in
    let stage_is : c.number-2.result + 1 ≡ suc c.args.before.now.0 = omega (arith, c.number-2.ensures) in
    let rank_is = same_rank c.args.node.now c.args.node.now (c.number-2.result + 1)
    (suc c.args.before.now.0) c.last_rank-rank.result (g.row.W - 1) refl stage_is c.last_rank-rank.ensures in
    let e = l.0 in
    let h = l.1 in
    let low = k.0 in
    let high = k.1 in
    let last : c.last_rank-leader.result ≤ length p.flights = omega (arith, ints, leader_is, e, h) in
    let first : 1 ≤ c.last_rank-rank.result = omega (arith, ints, rank_is, low) in
    let rank : c.last_rank-rank.result ≤ length p.flights = omega (arith, ints, rank_is, high) in
    serves_from_Range (λ x q k. search (rules, tests)) (λ x lo hi.
    let known : slice_index c.args.labels.now x < no_label =
    known_at p g.row.W c.args.before.now.0 c.args.before.now.1 c.args.node.now c.sources-from.result.0
    c.sources-from.result.1 s c.args.labels.now c.requires.before.labelled x lo hi in
    let below : x < length c.args.labels.now =
    omega (arith, hi, c.sources-from.ensures.range, c.requires.before.labelled.one_each) in
    λ y is.
    let at : y.now < length c.args.labels.now = omega (arith, is, below) in
    let in_days : (label : ℕ) → label ≡ slice_index c.args.labels.now y.now → IsEntry label → label ≤ last_second =
    λ label value entry. entry_small label entry (let here =
    ap (slice_index c.args.labels.now) is in omega (arith, here, known, value)) in
    search (rules, at, last, first, rank, in_days))

-- what is found in the range is the first place that gives the label
found : (g : _) (c : goal.After-unwrap_or g)
    → GivesLabel c.args.problem.now c.args.before.now c.args.labels.now c.args.node.now c.args.label
    (unwrap_or c.find.result c.sources-from.result.0)
    × ((place : ℕ) → place < unwrap_or c.find.result c.sources-from.result.0
    → GivesLabel c.args.problem.now c.args.before.now c.args.labels.now c.args.node.now c.args.label place → ⊥)
found g c =
    let p = c.args.problem.now in
    let s = sources_of p g.row.W c.args.before.now c.args.node.now c.sources-from.result.0
    c.sources-from.result.1 c.requires.width c.prefix_laws.ensures.network c.prefix_laws.ensures.sources
    c.window_laws.ensures.ranks c.window_laws.ensures.leads
    c.requires.before.landable c.requires.node c.sources-from.ensures.range.1 c.sources-from.ensures.exact in
    let leader_is = same_rank c.node.result (node_at c.args.before.now.1 c.sources-from.result.0)
    c.number.result c.args.before.now.0 c.last_rank-leader.result
    (g.row.W - 1) c.node.ensures.value c.number.ensures c.last_rank-leader.ensures in
    let stage_is : c.number-2.result + 1 ≡ suc c.args.before.now.0 = omega (arith, c.number-2.ensures) in
    let rank_is = same_rank c.args.node.now c.args.node.now (c.number-2.result + 1)
    (suc c.args.before.now.0) c.last_rank-rank.result (g.row.W - 1) refl stage_is c.last_rank-rank.ensures in
    first_found p g.row.W c.args.before.now.0 c.args.before.now.1 c.args.node.now c.sources-from.result.0
    c.sources-from.result.1 s c.args.labels.now c.requires.before.labelled c.last_rank-leader.result
    c.last_rank-rank.result leader_is rank_is c.args.label c.requires.known
    (label_next p c.args.before.now.0 c.args.node.now c.args.label c.requires.label) c.find.result
    (first_from_Range _ _ _ c.find.result
    (λ x. true ≡ option_eq nat_eq (landing_after p c.last_rank-leader.result
    (slice_index c.args.labels.now x) c.last_rank-rank.result) (Some c.args.label))
    (λ x. false ≡ option_eq nat_eq (landing_after p c.last_rank-leader.result
    (slice_index c.args.labels.now x) c.last_rank-rank.result) (Some c.args.label))
    c.find.ensures.ran (λ x q k. search (rules, tests)) (λ x q k. search (rules, tests)))

pub returns-clause-gives : goal.returns-clause-gives
returns-clause-gives g c = subst
    (GivesLabel c.args.problem.now c.args.before.now c.args.labels.now c.args.node.now c.args.label)
    (sym c.unwrap_or.ensures) (found g c).0

pub returns-clause-first : goal.returns-clause-first
returns-clause-first g c =
    subst (λ (n : ℕ). (place : ℕ) → place < n
    → GivesLabel c.args.problem.now c.args.before.now c.args.labels.now c.args.node.now c.args.label place
    → ⊥) (sym c.unwrap_or.ensures) (found g c).1
