use Rattle.std.proofs.Common.{◌≡◌, ◌+◌, rules, ap, sym, ◌∙◌}
use Rattle.makespan_labels.specs.shared.LabelPairs.{label_of_undominated}
use Rattle.replan.specs.Labels.{pairs_of}
use Rattle.replan.proofs.LabelsLemmas.{of_column, column_makespan, column_held, pair_given, node_given}
use Rattle.replan.proofs.LabelsLemmas.{column_gives}
use Rattle.replan.proofs.labels.Labels.source.Goals as goal

pub source_of-requires : goal.source_of-requires
source_of-requires g c =
    let is : of_column c.in-OfColumn.column ≡ c.args.self.now = sym (ap pairs_of c.in-OfColumn.is) ∙ c.self.view_is in
    let makespan = column_makespan _ _ _ _ is c.requires.before in (
      search rules,
      (
        search rules,
        (
          c.requires.width,
          (
            column_held _ _ _ _ is c.requires.before,
            (
              node_given _ c.prefix_laws.ensures.network _ _ _ c.requires.undominated _ c.requires.before.held,
              (
                label_of_undominated c.args.problem.now makespan (c.args.before.now.0 + 1) _ _ c.requires.known
                    c.requires.undominated,
                c.requires.known,
              ),
            ),
          ),
        ),
      ),
    )

pub source_pair-requires : goal.source_pair-requires
source_pair-requires g c = search (rules, pair_given)

pub returns-in-OfColumn : goal.returns-in-OfColumn
returns-in-OfColumn g c = column_gives _ c.prefix_laws.ensures.network _ _ _ c.requires.undominated _ _
    (sym (ap pairs_of c.in-OfColumn.is) ∙ c.self.view_is) c.requires.before _ c.source_of.ensures.gives
