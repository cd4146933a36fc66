use Rattle.std.proofs.Common.{◌<◌, length, arith, rules, ◌∙◌}
use Rattle.cps_network.specs.WindowLaws.{WindowLaws}
use Rattle.cps_network.specs.shared.LandableSteps.{has_next}
use Rattle.delay_labels.specs.StageLists.{IsListOf, IsStageBehind}
use Rattle.delay_labels.proofs.ListLemmas.{each_more}
use Rattle.delay_labels.proofs.PairLemmas.{stage_behind, stage_costs}
use Rattle.delay_labels.proofs.fill.fill_costs_alone.Goals as goal
use Rattle.delay_labels.proofs.fill.fill_costs_alone.Goals.{After-of-landings}

behind : (g : _) (c : After-of-landings g) → IsStageBehind c.of-landings.result g.row.W c.args.before.now
    c.args.labels.now c.args.stage.now
behind g c =
    let laws : WindowLaws c.args.problem.now g.row.W = search rules in
    stage_behind c.args.problem.now c.of-landings.result c.of-landings.ensures.problem g.row.W c.args.before.now
    c.args.labels.now c.args.stage.now (c.of-landings.ensures.number ∙ c.number.ensures)
    c.head-near.ensures.well_formed c.requires.width laws c.requires.before c.requires.number c.requires.next

pub pairs_of-requires : goal.pairs_of-requires
pairs_of-requires g c =
    let b = behind g (goal.at.pairs_of-requires g c).After-of-landings in
    let lt : c.loop-i.i < length c.args.stage.now.1 = omega (arith, c.loop-i-test.true, c.len-windows.ensures.value) in
    search (rules, b, lt)

pub loop-i-preserved : goal.loop-i-preserved
loop-i-preserved g c =
    let inv = c.loop-i.invariant in
    each_more (IsListOf c.of-landings.result.problem c.args.before.now c.args.labels.now c.args.stage.now)
    c.loop-i.costs c.push.new.self c.in_ok-pairs.pairs.items c.loop-i.i c.in_ok-push.ensures inv.0 inv.1
    c.in_ok-pairs.ensures.list

pub returns-in_err-costs-clause-landable : goal.returns-in_err-costs-clause-landable
returns-in_err-costs-clause-landable g c = search (rules, has_next)

pub returns-in_err-pairs-clause-landable : goal.returns-in_err-pairs-clause-landable
returns-in_err-pairs-clause-landable g c = search (rules, has_next)

pub returns-in_err-push-clause-landable : goal.returns-in_err-push-clause-landable
returns-in_err-push-clause-landable g c = search (rules, has_next)

pub returns-clause-landable : goal.returns-clause-landable
returns-clause-landable g c = search (rules, has_next)

pub returns-clause-pairs : goal.returns-clause-pairs
returns-clause-pairs g c =
    let inv = c.loop-i.invariant in
    (stage_costs c.args.problem.now c.of-landings.result c.of-landings.ensures.problem g.row.W c.args.before.now
    c.args.labels.now c.args.stage.now c.loop-i.costs (omega arith)
    (λ i lt. inv.1 i (omega (arith, lt, c.len-windows.ensures.value)))).0

pub returns-clause-sources : goal.returns-clause-sources
returns-clause-sources g c =
    let inv = c.loop-i.invariant in
    (stage_costs c.args.problem.now c.of-landings.result c.of-landings.ensures.problem g.row.W c.args.before.now
    c.args.labels.now c.args.stage.now c.loop-i.costs (omega arith)
    (λ i lt. inv.1 i (omega (arith, lt, c.len-windows.ensures.value)))).1
