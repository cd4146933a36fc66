use Rattle.std.proofs.Common.{◌≡◌, ◌∙◌, ℕ, ◌<◌, length, ap, arith, refl, rules, subst, sym}
use Rattle.landing_rules.specs.Problem.{Problem}
use Rattle.cps_network.specs.shared.LandableSteps.{has_next}
use Rattle.makespan_labels.specs.Entries.{IsLabelAt}
use Rattle.makespan_labels.specs.Labels.{AreLabels}
use Rattle.makespan_labels.proofs.CanLabelLemmas.{can_label, width_of}
use Rattle.makespan_labels.proofs.ColumnLemmas.{set_more}
use Rattle.makespan_labels.proofs.WrittenColumns.{as_written, labels_written}
use Rattle.makespan_labels.proofs.label.fill_alone.Goals as goal

pub label-requires : goal.label-requires
label-requires g c =
    let long : length c.as_mut_slice-entries.result.now ≡ length c.args.stage.now.1 =
    ap length c.as_mut_slice-entries.ensures.value ∙ ap length c.into.view_is ∙ c.requires.one_each in
    let within : c.loop-i.i < length c.args.stage.now.1 = omega (arith, c.loop-i-test.true, long) in
    let can = can_label c.args.problem.now c.of-landings.result.problem g.row.W c.args.before.now c.args.labels.now
    c.args.stage.now c.of-landings.ensures.problem c.requires.width c.head-near.ensures.well_formed.few_flights
    c.prefix_laws.ensures.network c.prefix_laws.ensures.sources c.window_laws.ensures.ranks c.window_laws.ensures.leads
    c.requires.before c.requires.number c.requires.next in
    let width = width_of c.args.problem.now g.row.W c.requires.width c.head-near.ensures.well_formed.few_places in (
      search rules,
      (
        search rules,
        (can, (c.of-landings.ensures.number ∙ c.number.ensures, (width, (c.links-links.ensures, within)))),
      ),
    )

pub loop-i-preserved : goal.loop-i-preserved
loop-i-preserved g c =
    let here : IsLabelAt c.args.problem.now c.args.stage.now c.loop-i.i c.label.result =
    subst (λ (p : Problem). IsLabelAt p c.args.stage.now c.loop-i.i c.label.result) c.of-landings.ensures.problem
    c.label.ensures in
    let more = set_more (λ (m label : ℕ). IsLabelAt c.args.problem.now c.args.stage.now m label) c.loop-i.entries _
    c.loop-i.i c.label.result (length c.as_mut_slice-entries.result.now) refl (omega (arith, c.loop-i-test.true))
    c.loop-i.invariant.0 c.loop-i.invariant.1 here in
    (more.0, more.1)

pub returns-clause-labels : goal.returns-clause-labels
returns-clause-labels g c =
    let same : length c.loop-i.entries ≡ length c.as_mut_slice-entries.result.now = c.loop-i.invariant.0 in
    let long : length c.loop-i.entries ≡ length c.args.stage.now.1 =
    same ∙ ap length c.as_mut_slice-entries.ensures.value ∙ ap length c.into.view_is ∙ c.requires.one_each in
    let count : c.into.inside.entries.len ≡ length c.loop-i.entries =
    sym c.as_mut_slice-entries.ensures.len ∙ sym same in
    subst (AreLabels c.args.problem.now c.args.stage.now)
    (sym (as_written c.loop-i.entries c.into.inside.entries.items c.into.inside.entries.len count))
    (labels_written c.args.problem.now c.args.stage.now c.loop-i.entries long
    (λ i lt. c.loop-i.invariant.1 i (omega (arith, lt, same, c.loop-i-test.false))))

pub returns-clause-landable : goal.returns-clause-landable
returns-clause-landable g c =
    has_next c.args.problem.now c.prefix_laws.ensures.network c.args.before.now c.args.stage.now
    c.requires.number c.requires.before.landable c.requires.next
