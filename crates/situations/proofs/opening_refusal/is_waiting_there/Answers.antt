use Rattle.std.proofs.Common.{Option, false, ap, rules, tests, ◌∙◌}
use Rattle.std.specs.Option.{option_map_or}
use Rattle.landing_rules.specs.Flights.{Active, is_waiting}
use Rattle.situations.proofs.Keyed.{any_named}
use Rattle.situations.proofs.opening_refusal.is_waiting_there.Goals as goal

pub returns-in-None : goal.returns-in-None
returns-in-None c = ap (λ (o : Option Active). option_map_or is_waiting o false) c.in-None.ensures
    ∙ any_named c.args.callsign is_waiting c.args.situation.now.active c.known_apart.ensures

pub returns-in-Some : goal.returns-in-Some
returns-in-Some c = search (rules, tests)
    ∙ ap (λ (o : Option Active). option_map_or is_waiting o false) c.in-Some.ensures
    ∙ any_named c.args.callsign is_waiting c.args.situation.now.active c.known_apart.ensures
