use Rattle.std.proofs.Common.{refl, length, sym, ap, subst, ◌∙◌}
use Rattle.indexmap.specs.IndexMap.{values}
use Rattle.landing_rules.specs.Flights.{Situation}
use Rattle.situations.specs.Freezes.{IsFreezeOf}
use Rattle.situations.specs.Seen.{fixed_of, situation_of}
use Rattle.situations.proofs.Apart.{names_frozen}
use Rattle.situations.proofs.Freezing.{frozen_flights}
use Rattle.situations.proofs.ChangedFlights.{in_step}
use Rattle.situations.proofs.Keyed.{keyed_still}
use Rattle.situations.proofs.situation.Situation.freeze_by.Goals as goal

pub invariant_of-self : goal.invariant_of-self
invariant_of-self c =
    in_step _ _ _ refl c.self.invariant (keyed_still c.self.inside.active.entries c.freeze_each.new.active.entries _
    c.freeze_each.ensures.keys c.freeze_each.ensures.flights
    (names_frozen c.in_ok-freeze.freeze (values c.self.inside.active) c.args.seconds.now
    (ap (λ (s : Situation). length s.active) c.self.view_is ∙ sym c.requires))
    c.self.invariant.keyed)

pub returns : goal.returns
returns c =
    let inside = c.self.inside in
    let a = fixed_of inside.fixed in
    let active = values inside.active in
    let ts = c.args.seconds.now in
    let z = c.in_ok-freeze.freeze in
    rw (← c.self.view_is) (ap (λ l. situation_of inside.fixed l inside.closures inside.clock)
    (c.freeze_each.ensures.flights ∙ frozen_flights a c.args.h active ts z
    (subst (λ l. IsFreezeOf a c.args.h l ts z) (c.flights.ensures
    ∙ sym (ap (λ (s : Situation). s.active) c.self.view_is)) c.in_ok-freeze.ensures) active ts))
