use Rattle.std.proofs.Common.{◌≡◌, rules, ap, sym, subst, ◌∙◌}
use Rattle.replan.specs.Labels.{HoldsPairs, pairs_of}
use Rattle.replan.proofs.LabelsLemmas.{of_column, of_costs, column_makespan, column_held}
use Rattle.replan.proofs.labels.Labels.next_alone.Goals as goal

pub fill_alone-requires : goal.fill_alone-requires
fill_alone-requires g c =
    let is : of_column c.in-OfColumn.labels ≡ c.args.self.now = sym (ap pairs_of c.in-OfColumn.is) ∙ c.self.view_is in (
      search rules,
      (
        c.requires.width,
        (
          column_held _ _ _ _ is c.requires.before,
          (c.requires.number, (c.requires.next, c.in_ok-column-in-OfColumn.ensures)),
        ),
      ),
    )

pub returns-in_ok-left-in-OfColumn : goal.returns-in_ok-left-in-OfColumn
returns-in_ok-left-in-OfColumn g c =
    let is : of_column c.in-OfColumn.labels ≡ c.args.self.now = sym (ap pairs_of c.in-OfColumn.is) ∙ c.self.view_is in
    c.in_ok-left-in-OfColumn.ensures c.args.problem.now (column_makespan _ _ _ _ is c.requires.before)
    c.fill_alone.ensures.landable c.fill_alone.ensures.labels

pub returns-in_ok-left-in-OfCosts : goal.returns-in_ok-left-in-OfCosts
returns-in_ok-left-in-OfCosts g c =
    let is : of_costs c.in-OfCosts.labels ≡ c.args.self.now = sym (ap pairs_of c.in-OfCosts.is) ∙ c.self.view_is in
    c.in_ok-left-in-OfCosts.ensures c.args.problem.now
    (sym (subst (HoldsPairs c.args.problem.now c.args.before.now) (sym is) c.requires.before).objective)
    c.in_ok-costs-in-OfCosts.ensures.landable c.in_ok-costs-in-OfCosts.ensures.pairs
