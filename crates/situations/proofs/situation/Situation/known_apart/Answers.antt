use Rattle.std.proofs.Common.{ap, subst}
use Rattle.landing_rules.specs.Flights.{Situation}
use Rattle.situations.specs.Seen.{AreApart}
use Rattle.situations.proofs.Keyed.{keyed_apart}
use Rattle.situations.proofs.situation.Situation.known_apart.Goals as goal

pub returns : goal.returns
returns c = subst AreApart (ap (λ (s : Situation). s.active) c.self.view_is)
    (keyed_apart c.self.inside.active.entries c.self.invariant.keyed c.as_slice.ensures.unique)
