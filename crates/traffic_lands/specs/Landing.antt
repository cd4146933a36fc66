-- That the traffic of a seed can land, so that a plan is shown of it.
use Rattle.std.specs.Prelude.{ℕ, ◌≤◌, IsSome, map}
use Rattle.landing_rules.specs.Events.{State, IsOpeningState}
use Rattle.landing_rules.specs.Flights.{Schedule}
use Rattle.cps_base.specs.Limits.{most_waiting}
use Rattle.landing_rules.specs.Rules.{IsFeasible}
use Rattle.arrivals.specs.Seen.{flight_of}
use Rattle.situations.specs.Opened.{opened, opening_of}
use Rattle.traffic_gen.specs.Made.{Made, traffic}

-- some schedule is feasible in its opening situation
abbrev pub TrafficLandsLaw : Type 0
TrafficLandsLaw = (seed n k : ℕ) → n ≤ most_waiting → (t : Schedule)
    × IsFeasible (opened (traffic seed n k).aerodrome (traffic seed n k).flights) t

-- each opening state of this traffic shows a plan
abbrev pub ShowsPlan : Made → Type 0
ShowsPlan made = (state : State) → IsOpeningState (opening_of made.aerodrome) (map flight_of made.flights) state
    → IsSome state.plan

-- so it is with the traffic of each seed
abbrev pub TrafficShowsPlanLaw : Type 0
TrafficShowsPlanLaw = (seed n k : ℕ) → n ≤ most_waiting → ShowsPlan (traffic seed n k)
