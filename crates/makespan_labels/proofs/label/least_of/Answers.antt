use Rattle.std.proofs.Common.{◌≡◌, ◌+◌, min, arith, rules, tests, refl, sym, subst}
use Rattle.std.specs.Prelude.{slice_index}
use Rattle.cps_base.specs.laws.Folds.{kept_by_fold_of_range}
use Rattle.makespan_labels.specs.Columns.{IsEntry, IsLeastOf}
use Rattle.makespan_labels.proofs.ColumnLemmas.{least_one, least_more, entry_least}
use Rattle.makespan_labels.proofs.label.least_of.Goals as goal

-- what is made of the range is its least, and an entry: turn by turn
least : (c : goal.After-fold) → IsLeastOf c.args.labels.now c.args.from c.args.to c.fold.result × IsEntry c.fold.result
least c =
    let labels = c.args.labels.now in
    let from = c.args.from in
    kept_by_fold_of_range _ (from + 1) c.args.to (λ i a. IsLeastOf labels from i a × IsEntry a)
    (omega (arith, c.requires.range)) refl c.fold.ensures.ran
    (least_one labels from c.label.result c.label.ensures.value, c.label.ensures.range)
    (λ i a b q lo hi held k.
    let is : b ≡ min a (slice_index labels i) = search (rules, tests) in
    let entry : IsEntry (slice_index labels i) = search (rules, tests) in (
      search (rules, tests),
      (
        subst (IsLeastOf labels from (i + 1)) (sym is) (least_more labels from i a (omega (arith, lo)) held.0),
        subst IsEntry (sym is) (entry_least a (slice_index labels i) held.1 entry),
      ),
    ))

pub returns-clause-least : goal.returns-clause-least
returns-clause-least c = (least c).0

pub returns-clause-range : goal.returns-clause-range
returns-clause-range c = (least c).1
