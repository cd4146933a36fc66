use Rattle.std.proofs.Common.{ap, ◌∙◌}
use Rattle.std.specs.Prelude.{find}
use Rattle.landing_rules.specs.Flights.{Situation}
use Rattle.landing_rules.specs.Events.{named}
use Rattle.situations.proofs.Keyed.{looked_up}
use Rattle.situations.proofs.situation.Situation.find.Goals as goal

pub returns : goal.returns
returns c =
    c.get.ensures.value ∙ looked_up c.args.callsign c.self.inside.active.entries c.self.invariant.keyed
    ∙ ap (λ (s : Situation). find (named c.args.callsign) s.active) c.self.view_is
