use Rattle.std.proofs.Common.{◌∙◌, ℕ, ◌≤◌, Option, ap, subst, rules}
use Rattle.std.specs.Prelude.{IfSome, unwrap_or}
use Rattle.landing_joint.specs.RankedProblem.{landing_after}
use Rattle.landing_rules.specs.Rules.{last_second}
use Rattle.makespan_labels.specs.Columns.{IsLabelOf}
use Rattle.makespan_labels.specs.Labels.{no_label}
use Rattle.makespan_labels.proofs.ReachLemmas.{from_within, range_within, leader_bytes, rank_bytes, leader_is, may_lead}
use Rattle.makespan_labels.proofs.ReachLemmas.{leader_latest, rank_in_reach, landing_gives}
use Rattle.makespan_labels.proofs.label.label.Goals as goal

pub least_of-least-requires : goal.least_of-least-requires
least_of-least-requires g c =
    let p = c.args.landings.now.problem in
    let s = c.range_before-from.ensures p c.args.labels.now c.requires.can in
    record {
      range = range_within p g.row.W c.args.before.now c.args.labels.now c.args.stage.now c.requires.can c.args.i
          c.range_before-from.result.0 c.range_before-from.result.1 s;
    }

pub node-requires : goal.node-requires
node-requires g c =
    let p = c.args.landings.now.problem in
    let s = c.range_before-from.ensures p c.args.labels.now c.requires.can in (
      search rules,
      (
        search rules,
        from_within p g.row.W c.args.before.now c.args.labels.now c.args.stage.now c.requires.can c.args.i
            c.range_before-from.result.0 c.range_before-from.result.1 s,
      ),
    )

pub last_rank-leader-requires : goal.last_rank-leader-requires
last_rank-leader-requires g c =
    let p = c.args.landings.now.problem in
    let s = c.range_before-from.ensures p c.args.labels.now c.requires.can in (
      search rules,
      leader_bytes p g.row.W c.args.before.now c.args.labels.now c.args.stage.now c.requires.can c.args.i
          c.range_before-from.result.0 c.range_before-from.result.1 s c.node.result c.number.result c.node.ensures.value
          c.number.ensures c.requires.can.few,
    )

pub last_rank-rank-requires : goal.last_rank-rank-requires
last_rank-rank-requires g c =
    let p = c.args.landings.now.problem in
    let s = c.range_before-from.ensures p c.args.labels.now c.requires.can in (
      search rules,
      rank_bytes p g.row.W c.args.before.now c.args.labels.now c.args.stage.now c.requires.can c.args.i
          c.range_before-from.result.0 c.range_before-from.result.1 s c.node-2.result c.number-2.result
          c.node-2.ensures.value c.number-2.ensures c.requires.can.few,
    )

pub landing_after-requires-clause-leader : goal.landing_after-requires-clause-leader
landing_after-requires-clause-leader g c =
    let p = c.args.landings.now.problem in
    let s = c.range_before-from.ensures p c.args.labels.now c.requires.can in
    may_lead p g.row.W c.args.before.now c.args.labels.now c.args.stage.now c.requires.can c.args.i
    c.range_before-from.result.0 c.range_before-from.result.1 s c.node.result c.number.result c.last_rank-leader.result
    c.node.ensures.value c.number.ensures c.last_rank-leader.ensures c.args.landings.now.number c.requires.number

pub landing_after-requires-clause-latest : goal.landing_after-requires-clause-latest
landing_after-requires-clause-latest g c =
    let p = c.args.landings.now.problem in
    let s = c.range_before-from.ensures p c.args.labels.now c.requires.can in
    leader_latest p g.row.W c.args.before.now c.args.labels.now c.args.stage.now c.requires.can c.args.i
    c.range_before-from.result.0 c.range_before-from.result.1 s c.node.result c.number.result c.last_rank-leader.result
    c.node.ensures.value c.number.ensures c.last_rank-leader.ensures c.least_of-least.result
    c.least_of-least.ensures.least c.least_of-least.ensures.range

pub landing_after-requires-clause-rank : goal.landing_after-requires-clause-rank
landing_after-requires-clause-rank g c =
    let p = c.args.landings.now.problem in
    let s = c.range_before-from.ensures p c.args.labels.now c.requires.can in
    rank_in_reach p g.row.W c.args.before.now c.args.labels.now c.args.stage.now c.requires.can c.args.i
    c.range_before-from.result.0 c.range_before-from.result.1 s c.node-2.result c.number-2.result
    c.last_rank-rank.result c.node-2.ensures.value c.number-2.ensures c.last_rank-rank.ensures
    c.args.landings.now.number c.requires.number

pub returns : goal.returns
returns g c =
    let p = c.args.landings.now.problem in
    let s = c.range_before-from.ensures p c.args.labels.now c.requires.can in
    let leads = leader_is p g.row.W c.args.before.now c.args.labels.now c.args.stage.now c.requires.can c.args.i
    c.range_before-from.result.0 c.range_before-from.result.1 s c.node.result c.number.result c.last_rank-leader.result
    c.node.ensures.value c.number.ensures c.last_rank-leader.ensures in
    let is : IsLabelOf (landing_after p c.last_rank-leader.result c.least_of-least.result c.last_rank-rank.result)
    c.unwrap_or.result = record {
      is = c.unwrap_or.ensures ∙ ap (λ (o : Option ℕ). unwrap_or o no_label) c.landing_after.ensures.value;
      in_days = subst (λ (o : Option ℕ). IfSome o (λ t. t ≤ last_second)) c.landing_after.ensures.value
          c.landing_after.ensures.in_days;
    } in
    landing_gives p g.row.W c.args.before.now c.args.labels.now c.args.stage.now c.requires.can c.args.i
    c.range_before-from.result.0 c.range_before-from.result.1 s c.node-2.result c.number-2.result
    c.last_rank-rank.result c.node-2.ensures.value c.number-2.ensures c.last_rank-rank.ensures
    c.last_rank-leader.result leads c.least_of-least.result c.least_of-least.ensures.least c.unwrap_or.result is
