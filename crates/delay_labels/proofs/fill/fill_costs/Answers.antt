-- The lists that are made are those of the windows, at their places.
use Rattle.std.proofs.Common.{◌≡◌, ℕ, length, sym, ap, subst, ◌<◌, ◌∙◌, arith, rules}
use Rattle.std.proofs.lemmas.List.{length-map}
use Rattle.cps_network.specs.Pairs.{list_at}
use Rattle.cps_network.specs.WindowLaws.{WindowLaws}
use Rattle.cps_network.specs.shared.LandableSteps.{has_next}
use Rattle.delay_labels.specs.StageLists.{IsListOf, IsStageBehind}
use Rattle.delay_labels.proofs.PairLemmas.{stage_behind, stage_costs}
use Rattle.delay_labels.proofs.StoredLists.{each_list}
use Rattle.delay_labels.proofs.fill.fill_costs.Goals as goal
use Rattle.delay_labels.proofs.fill.fill_costs.Goals.{After-of-table, After-of-costs}

behind : (g : _) (c : After-of-table g) → IsStageBehind c.of-table.result g.row.W c.args.before.now c.args.labels.now
    c.args.stage.now
behind g c =
    let laws : WindowLaws c.args.problem.now g.row.W = search rules in
    stage_behind c.args.problem.now c.of-table.result c.of-table.ensures.problem g.row.W c.args.before.now
    c.args.labels.now c.args.stage.now (c.of-table.ensures.number ∙ c.number.ensures)
    c.head-near.ensures.well_formed c.requires.width laws c.requires.before c.requires.number c.requires.next

lists : (g : _) (c : After-of-costs g) → (i : ℕ) → i < length c.args.stage.now.1
    → IsListOf c.of-table.result.problem c.args.before.now c.args.labels.now c.args.stage.now i
    (list_at c.of-costs.result i)
lists g c i lt =
    subst (λ ls. IsListOf c.of-table.result.problem c.args.before.now c.args.labels.now c.args.stage.now i
    (list_at ls i)) (sym c.of-costs.ensures)
    (each_list (λ list. list.items) (IsListOf c.of-table.result.problem c.args.before.now c.args.labels.now
    c.args.stage.now) c.in_ok-lists.lists.items
    (λ m d within. (c.in_ok-lists.ensures.each m d (omega (arith, within, c.in_ok-lists.ensures.len))).0) i
    (omega (arith, lt, c.in_ok-lists.ensures.len, c.len.ensures.value)))

one_each : (g : _) (c : After-of-costs g) → length c.of-costs.result ≡ length c.args.stage.now.1
one_each g c =
    let long : length c.in_ok-lists.lists.items ≡ length c.args.stage.now.1 =
    omega (arith, c.in_ok-lists.ensures.len, c.len.ensures.value) in
    ap length c.of-costs.ensures ∙ length-map c.in_ok-lists.lists.items _ ∙ long

pub fill_long_lists-requires-clause-callable : goal.fill_long_lists-requires-clause-callable
fill_long_lists-requires-clause-callable g c =
    let d = goal.at.fill_long_lists-requires-clause-callable g c in
    let b = behind g d.After-of-table in search (rules, b)

pub of-costs-requires : goal.of-costs-requires
of-costs-requires g c = λ m d lt. (c.in_ok-lists.ensures.each m d (omega (arith, lt, c.in_ok-lists.ensures.len))).1

pub returns-in_err-lists-clause-landable : goal.returns-in_err-lists-clause-landable
returns-in_err-lists-clause-landable g c = search (rules, has_next)

pub returns-clause-landable : goal.returns-clause-landable
returns-clause-landable g c = search (rules, has_next)

pub returns-clause-pairs : goal.returns-clause-pairs
returns-clause-pairs g c =
    let d = goal.at.returns-clause-pairs g c in
    (stage_costs c.args.problem.now c.of-table.result c.of-table.ensures.problem g.row.W c.args.before.now
    c.args.labels.now c.args.stage.now c.of-costs.result
    (one_each g d.After-of-costs) (lists g d.After-of-costs)).0

pub returns-clause-sources : goal.returns-clause-sources
returns-clause-sources g c =
    let d = goal.at.returns-clause-sources g c in
    (stage_costs c.args.problem.now c.of-table.result c.of-table.ensures.problem g.row.W c.args.before.now
    c.args.labels.now c.args.stage.now c.of-costs.result
    (one_each g d.After-of-costs) (lists g d.After-of-costs)).1
