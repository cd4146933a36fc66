use Rattle.std.proofs.Common.{rules, ap, sym, subst, ◌∙◌}
use Rattle.replan.specs.Labels.{HoldsPairs, pairs_of}
use Rattle.replan.proofs.LabelsLemmas.{column_makespan, column_held}
use Rattle.replan.proofs.labels.Labels.next.Goals as goal

pub fill-requires : goal.fill-requires
fill-requires g c =
    let is = sym (ap pairs_of c.in-OfColumn.is) ∙ c.self.view_is in (
      search rules,
      (
        search rules,
        (
          search rules,
          (
            c.requires.width,
            (
              column_held _ _ _ _ is c.requires.before,
              (c.requires.number, (c.requires.next, c.in_ok-column-in-OfColumn.ensures)),
            ),
          ),
        ),
      ),
    )

pub returns-in_ok-left-in-OfColumn-clause-left : goal.returns-in_ok-left-in-OfColumn-clause-left
returns-in_ok-left-in-OfColumn-clause-left g c = c.in_ok-left-in-OfColumn.ensures c.args.planning.now.problem.now
    (column_makespan _ _ _ _ (sym (ap pairs_of c.in-OfColumn.is) ∙ c.self.view_is) c.requires.before)
    c.fill.ensures.landable c.fill.ensures.labels

pub returns-in_ok-left-in-OfCosts-clause-left : goal.returns-in_ok-left-in-OfCosts-clause-left
returns-in_ok-left-in-OfCosts-clause-left g c =
    c.in_ok-left-in-OfCosts.ensures c.args.planning.now.problem.now
    (sym (subst (HoldsPairs c.args.planning.now.problem.now c.args.before.now)
    (sym (sym (ap pairs_of c.in-OfCosts.is) ∙ c.self.view_is)) c.requires.before).objective)
    c.in_ok-costs-in-OfCosts.ensures.landable c.in_ok-costs-in-OfCosts.ensures.pairs
