use Rattle.std.proofs.Common.{arith}
use Rattle.landing_rules.specs.Flights.{Active}
use Rattle.situations.specs.Refused.{is_not_before}
use Rattle.situations.proofs.Keyed.{any_named}
use Rattle.situations.proofs.given.lands_late.Goals as goal

pub returns-in-None : goal.returns-in-None
returns-in-None c = grind (
  arith,
  any_named c.args.callsign (λ (a : Active). is_not_before c.args.second a.frozen)
      c.args.situation.now.active c.known_apart.ensures,
)

pub returns-in-Some : goal.returns-in-Some
returns-in-Some c = grind (
  arith,
  any_named c.args.callsign (λ (a : Active). is_not_before c.args.second a.frozen)
      c.args.situation.now.active c.known_apart.ensures,
)
