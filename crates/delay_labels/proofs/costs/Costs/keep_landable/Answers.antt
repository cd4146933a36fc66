use Rattle.std.proofs.Common.{◌≡◌, List, Bool, map, sym, ap, subst, ◌∙◌}
use Rattle.std.specs.Prelude.{All}
use Rattle.cps_network.specs.Compacted.{kept_where}
use Rattle.cps_network.specs.shared.KeptPlaces.{answers_are, all_kept, holds_as}
use Rattle.cps_network.specs.Pairs.{HoldsCosts}
use Rattle.delay_labels.specs.Bounds.{IsInDays}
use Rattle.delay_labels.specs.Lists.{has_some, known_of}
use Rattle.delay_labels.proofs.CompactLemmas.{kept_are, lists_kept, kept_costs}
use Rattle.delay_labels.proofs.costs.Costs.keep_landable.Goals as goal
use Rattle.delay_labels.proofs.costs.Costs.keep_landable.Goals.{After-compact}

answers : (g : _) (c : After-compact g) → c.compact.ensures.kept.0
    ≡ map (λ list. has_some list.items) c.self.inside.lists.items
answers g c = let k = c.compact.ensures.kept in
    answers_are (λ list. has_some list.items) _ (λ x b r. r.says.met ∙ ap (λ list. has_some list.items) r.shows) _ k.0 k.1

pub invariant_of-self : goal.invariant_of-self
invariant_of-self g c = let k = c.compact.ensures.kept in
    subst (All (λ list. All IsInDays list.items)) (sym k.3)
    (all_kept (λ list. All IsInDays list.items) k.0 c.self.inside.lists.items c.self.invariant)

pub returns-clause-windows : goal.returns-clause-windows
returns-clause-windows g c = let k = c.compact.ensures.kept in
    k.2 ∙ ap (λ (bs : List Bool). kept_where bs c.args.stage.now.1)
    (kept_are (λ list. list.items) c.self.inside.lists.items c.compact.new.labels.items k.0 c.args.self.now
    c.self.view_is (answers g c))

pub returns-clause-lists : goal.returns-clause-lists
returns-clause-lists g c = let k = c.compact.ensures.kept in
    lists_kept (λ list. list.items) c.self.inside.lists.items c.compact.new.labels.items k.0 c.args.self.now
    c.self.view_is (answers g c) k.3

pub returns-clause-landable : goal.returns-clause-landable
returns-clause-landable g c = λ p each are. holds_as
    (HoldsCosts p) c.args.stage.now.0 c.compact.new.self (known_of c.args.self.now c.args.stage.now.1)
    (known_of c.args.self.now c.args.self.now) _ c.compact.ensures.number (returns-clause-windows g c)
    (returns-clause-lists g c) (kept_costs p c.args.stage.now.0 c.args.stage.now.1 c.args.self.now each are)
