-- Why the files of a run are not taken, and how the run may stop for it before it writes.
use Rattle.std.specs.Prelude.{◌≡◌, ⊤, ℕ, List, option_map, Option, Some, Result, Ok, Err}
use Rattle.arrivals.specs.declared.aerodrome.Aerodrome.{Aerodrome}
use Rattle.aerodrome_file.specs.declared.fault.AeroFault.{AeroFault}
use Rattle.aerodrome_file.specs.Reading.{aerodrome_of}
use Rattle.arrivals.specs.declared.flight.Flight.{Flight}
use Rattle.flight_file.specs.Reading.{flights_of}
use Rattle.flight_file.specs.declared.fault.FlightFault.{FlightFault}
use Rattle.situations.specs.Refused.{opening_fault}
use Rattle.endings.specs.declared.ending.Ending.{Ending}
use Rattle.endings.specs.declared.ending.Ending.TheVariants.{Refused, NoMemory}
use Rattle.endings.specs.declared.ending.FilesFault as refusals
use Rattle.endings.specs.declared.ending.FilesFault.TheVariants as refusal

-- why files that read are not taken: they open no situation
abbrev pub opening_refusal : Aerodrome → List Flight → Option refusals.FilesFault
opening_refusal aerodrome flights = option_map refusal.Opening (opening_fault aerodrome flights)

-- the first cause, in the order of the files
abbrev pub refused_by : Result Aerodrome AeroFault → Result (List Flight) FlightFault → Option refusals.FilesFault
refused_by (Err fault) flights = Some (refusal.Aerodrome fault)
refused_by (Ok aerodrome) (Err fault) = Some (refusal.Flights fault)
refused_by (Ok aerodrome) (Ok flights) = opening_refusal aerodrome flights

-- the same with a third file, whose fault is a refusal of this kind
abbrev pub refused_by_three : {T F : Type 0} → (F → refusals.FilesFault) → Result Aerodrome AeroFault
    → Result (List Flight) FlightFault → Result T F → Option refusals.FilesFault
refused_by_three kind (Err fault) flights third = Some (refusal.Aerodrome fault)
refused_by_three kind (Ok aerodrome) (Err fault) third = Some (refusal.Flights fault)
refused_by_three kind (Ok aerodrome) (Ok flights) (Err fault) = Some (kind fault)
refused_by_three kind (Ok aerodrome) (Ok flights) (Ok third) = opening_refusal aerodrome flights

-- the bytes of an aerodrome file and flights are refused, for this cause
abbrev pub RefusesTwo : List ℕ → List ℕ → refusals.FilesFault → Type 0
RefusesTwo aerodrome flights cause = refused_by (aerodrome_of aerodrome) (flights_of flights) ≡ Some cause

-- the same with those of a third file, by how it reads
abbrev pub RefusesThree : {T F : Type 0} → (F → refusals.FilesFault) → (List ℕ → Result T F) → List ℕ → List ℕ
    → List ℕ → refusals.FilesFault → Type 0
RefusesThree kind read aerodrome flights third cause =
    refused_by_three kind (aerodrome_of aerodrome) (flights_of flights) (read third) ≡ Some cause

-- how a run that refuses for these causes may stop before it writes
abbrev pub Stops : (refusals.FilesFault → Type 0) → Ending → Type 0
Stops Refuses (Refused cause) = Refuses cause
Stops Refuses NoMemory = ⊤
Stops Refuses ending = ⊥

-- the same over files that are read
abbrev pub StopsOpened : Aerodrome → List Flight → Ending → Type 0
StopsOpened aerodrome flights = Stops (λ cause. opening_refusal aerodrome flights ≡ Some cause)
