use Rattle.std.proofs.Common.{not, rules, tests, ◌∙◌}
use Rattle.std.specs.List.{list_any}
use Rattle.landing_rules.specs.Events.{named}
use Rattle.std.proofs.lemmas.Iterator.{YieldsList-from_slice}
use Rattle.std.proofs.lemmas.Iterator.Search.{position_from_yields_List}
use Rattle.arrivals.specs.declared.frozen_list.FrozenLanding.{FrozenLanding}
use Rattle.situations.specs.declared.opening_refusal.OpeningFault.TheVariants as fault
use Rattle.situations.proofs.Firsts.{first_place}
use Rattle.situations.proofs.opening_refusal.unknown_frozen.Goals as goal

pub returns : goal.returns
returns c =
    search (rules) ∙ first_place (λ (e : FrozenLanding). list_any (named e.callsign) c.args.situation.now.active)
    fault.UnknownFrozen 1 c.args.frozen.now c.position.result
    (position_from_yields_List
    (λ (e : FrozenLanding). not (list_any (named e.callsign) c.args.situation.now.active))
    _ _ c.position.result c.position.ensures.ran (YieldsList-from_slice c.args.frozen.now (cc))
    (λ x b q k. search (rules, tests)))
