use Rattle.std.proofs.Common.{rules, sym, ap, subst, ◌∙◌}
use Rattle.std.specs.Map.{values_of}
use Rattle.landing_rules.specs.Flights.{Situation}
use Rattle.situations.specs.Seen.{AreApart, situation_of}
use Rattle.situations.proofs.Keyed.{keyed_gone, values_gone}
use Rattle.situations.proofs.situation.Situation.cancel.Goals as goal

pub invariant_of-self : goal.invariant_of-self
invariant_of-self c = search (rules, keyed_gone)

pub returns : goal.returns
returns c =
    let inside = c.self.inside in
    let apart = subst AreApart (sym (ap (λ (s : Situation). s.active) c.self.view_is)) c.known_apart.ensures in
    rw (← c.self.view_is) (ap (λ l. situation_of inside.fixed l inside.closures inside.clock)
    (ap values_of c.shift_remove.ensures.entries
    ∙ values_gone c.args.callsign inside.active.entries c.self.invariant.keyed apart))
