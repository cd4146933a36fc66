use Rattle.std.proofs.Common.{◌≡◌, ℕ, Option, Some, None, refl, sym, ap, ◌∙◌, Bool}
use Rattle.std.specs.Prelude.{option_map, find, nat_le, if◌then◌else◌}
use Rattle.cps_base.specs.Limits.{most_flights, most_waiting}
use Rattle.landing_rules.specs.Flights.{Landing, Callsign}
use Rattle.landing_rules.specs.Rules.{lists}
use Rattle.landing_rules.specs.Events.{Refusal, Duplicate, TooManyFlights, TooManyWaiting, PredecessorOfFrozen}
use Rattle.landing_rules.specs.Events.{frozen_landings}
use Rattle.situations.proofs.Finds.{listing}
use Rattle.situations.proofs.situation.Situation.add_refusal.Goals as goal

twice : (o : Option Landing)
    → option_map PredecessorOfFrozen (option_map (λ (g : Landing). g.flight.callsign) o) ≡ option_map
    (λ (g : Landing). PredecessorOfFrozen g.flight.callsign) o
twice None = refl
twice (Some g) = refl

AddAnswer : Callsign → Bool → ℕ → ℕ → Option Refusal → Option Refusal
AddAnswer c there flights waiting rest = if there then Some (Duplicate c)
    else (if nat_le most_flights flights then Some TooManyFlights
    else (if nat_le most_waiting waiting then Some TooManyWaiting else rest))

pub returns : goal.returns
unfolding AddAnswer
returns c =
    c.add_answer.ensures ∙ (λ i. option_map {T = Refusal} Some
    (AddAnswer c.args.flight.now.callsign (c.is_active.ensures i) (c.count_active.ensures i)
    (c.count_waiting.ensures i) ((ap (option_map PredecessorOfFrozen) (c.first_frozen_listing.ensures
    ∙ sym (listing c.args.flight.now.callsign c.args.self.now.active)) ∙ twice
    (find (λ g. lists g.flight c.args.flight.now.callsign) (frozen_landings c.args.self.now))) i)))
