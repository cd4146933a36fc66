use Rattle.std.proofs.Common.{◌≡◌, ℕ, List, Bool, map, ap, sym, subst, ◌∙◌}
use Rattle.std.specs.Prelude.{All}
use Rattle.cps_network.specs.Compacted.{kept_where}
use Rattle.cps_network.specs.shared.KeptPlaces.{answers_are, all_kept, holds_as}
use Rattle.makespan_labels.specs.Columns.{IsEntry, is_known, known_of}
use Rattle.makespan_labels.specs.Labels.{HoldsLabels}
use Rattle.makespan_labels.proofs.ColumnLemmas.{kept_labels}
use Rattle.makespan_labels.proofs.column.Column.keep_landable.Goals as goal

pub invariant_of-self : goal.invariant_of-self
invariant_of-self g c =
    let k = c.compact.ensures.kept in
    subst (All IsEntry) (sym k.3) (all_kept IsEntry k.0 c.self.inside.entries.items c.self.invariant)

pub returns-clause-windows : goal.returns-clause-windows
returns-clause-windows g c =
    let k = c.compact.ensures.kept in
    let are : k.0 ≡ map is_known c.self.inside.entries.items =
    answers_are is_known _ (λ x b r. r.says.met ∙ ap is_known r.shows) _ k.0 k.1 in
    k.2 ∙ ap (λ (bs : List Bool). kept_where bs c.args.stage.now.1) are
    ∙ ap (λ (xs : List ℕ). known_of xs c.args.stage.now.1) c.self.view_is

pub returns-clause-labels : goal.returns-clause-labels
returns-clause-labels g c =
    let k = c.compact.ensures.kept in
    let are : k.0 ≡ map is_known c.self.inside.entries.items =
    answers_are is_known _ (λ x b r. r.says.met ∙ ap is_known r.shows) _ k.0 k.1 in
    k.3 ∙ ap (λ (bs : List Bool). kept_where bs c.self.inside.entries.items) are
    ∙ ap (λ (xs : List ℕ). known_of xs xs) c.self.view_is

pub returns-clause-landable : goal.returns-clause-landable
returns-clause-landable g c = λ p each are.
    let windows = returns-clause-windows g c in
    let labels = returns-clause-labels g c in
    holds_as (HoldsLabels p) c.args.stage.now.0 c.compact.new.self (known_of c.args.self.now c.args.stage.now.1)
    (known_of c.args.self.now c.args.self.now) c.compact.new.labels.items c.compact.ensures.number windows labels
    (kept_labels p c.args.stage.now.0 c.args.stage.now.1 c.args.self.now
    (subst (All IsEntry) c.self.view_is c.self.invariant) each are)
