use Rattle.std.proofs.Common.{◌≡◌, ◌∙◌, length, ap, arith, rules, subst, sym}
use Rattle.std.specs.Prelude.{slice_index}
use Rattle.landing_rules.specs.Problem.{Problem}
use Rattle.cps_network.specs.shared.LandableSteps.{has_next}
use Rattle.makespan_labels.specs.Entries.{IsLabelAt}
use Rattle.makespan_labels.specs.Labels.{AreLabels}
use Rattle.makespan_labels.proofs.CanLabelLemmas.{can_label, width_of}
use Rattle.makespan_labels.proofs.WrittenColumns.{as_written, labels_written}
use Rattle.makespan_labels.proofs.label.fill.Goals as goal

pub fill_numbers-requires-clause-callable : goal.fill_numbers-requires-clause-callable
fill_numbers-requires-clause-callable g c κs within =
    let long : length c.as_mut_slice.result.now ≡ length c.args.stage.now.1 =
    ap length c.as_mut_slice.ensures.value ∙ ap length c.into.view_is ∙ c.requires.one_each in
    let can = can_label c.args.problem.now c.of-table.result.problem g.row.W c.args.before.now c.args.labels.now
    c.args.stage.now c.of-table.ensures.problem c.requires.width c.head-near.ensures.well_formed.few_flights
    c.prefix_laws.ensures.network c.prefix_laws.ensures.sources c.window_laws.ensures.ranks c.window_laws.ensures.leads
    c.requires.before c.requires.number c.requires.next in
    let width = width_of c.args.problem.now g.row.W c.requires.width c.head-near.ensures.well_formed.few_places in
    λ i lt. (
      search rules,
      (
        search rules,
        (
          can,
          c.of-table.ensures.number ∙ c.number.ensures,
          width,
          c.links-links.ensures,
          omega (arith, lt, long),
        ),
      ),
    )

pub returns-clause-labels : goal.returns-clause-labels
returns-clause-labels g c =
    let part = c.fill_numbers.new.column in
    let same : length part ≡ length c.as_mut_slice.result.now = c.fill_numbers.auto.column in
    let long : length part ≡ length c.args.stage.now.1 =
    same ∙ ap length c.as_mut_slice.ensures.value ∙ ap length c.into.view_is ∙ c.requires.one_each in
    let count : c.into.inside.entries.len ≡ length part = sym c.as_mut_slice.ensures.len ∙ sym same in
    subst (AreLabels c.args.problem.now c.args.stage.now)
    (sym (as_written part c.into.inside.entries.items c.into.inside.entries.len count))
    (labels_written c.args.problem.now c.args.stage.now part long
    (λ i lt. subst (λ (p : Problem). IsLabelAt p c.args.stage.now i (slice_index part i)) c.of-table.ensures.problem
    (c.fill_numbers.ensures i (omega (arith, lt, same)))))

pub returns-clause-landable : goal.returns-clause-landable
returns-clause-landable g c =
    has_next c.args.problem.now c.prefix_laws.ensures.network c.args.before.now c.args.stage.now
    c.requires.number c.requires.before.landable c.requires.next
