-- From what files read as, and the fault of an opening or none, to what is said of them.
use Rattle.std.proofs.Common.{◌≡◌, List, Option, None, Some, Ok, Result, ap, subst, sym, ◌∙◌}
use Rattle.std.specs.Prelude.{option_map, MatchOption, ⊤}
use Rattle.arrivals.specs.declared.aerodrome.Aerodrome.{Aerodrome}
use Rattle.aerodrome_file.specs.declared.fault.AeroFault.{AeroFault}
use Rattle.arrivals.specs.declared.flight.Flight.{Flight}
use Rattle.flight_file.specs.declared.fault.FlightFault.{FlightFault}
use Rattle.situations.specs.declared.opening_refusal.OpeningFault.{OpeningFault}
use Rattle.situations.specs.Refused.{opening_fault}
use Rattle.situations.specs.declared.begin_fault.BeginFault.{BeginFault}
use Rattle.situations.specs.Begun.{IsRefusedBy, opening_fault_of}
use Rattle.endings.specs.Faults.{begin_ending, opening_ending}
use Rattle.endings.specs.Refusing.{opening_refusal, refused_by_three, Stops, StopsOpened}
use Rattle.endings.specs.declared.ending.Ending.{Ending}
use Rattle.endings.specs.declared.ending.Ending.TheVariants.{Refused}
use Rattle.endings.specs.declared.ending.Ending.TheVariants.{NoMemory}
use Rattle.endings.specs.declared.ending.FilesFault.{FilesFault}
use Rattle.endings.specs.declared.ending.FilesFault.TheVariants.{Opening}

-- three files that read are refused for what they open, or not at all
pub refused_as_read : {T F : Type 0} (kind : F → FilesFault) (a : Result Aerodrome AeroFault)
    (f : Result (List Flight) FlightFault) (t : Result T F) →
    (aerodrome : Aerodrome) (flights : List Flight) (third : T) → a ≡ Ok aerodrome → f ≡ Ok flights → t ≡ Ok third →
    refused_by_three kind a f t ≡ opening_refusal aerodrome flights
refused_as_read kind a f t aerodrome flights third a_read f_read t_read =
    ap (λ r. refused_by_three kind r f t) a_read ∙ ap (λ r. refused_by_three kind (Ok aerodrome) r t) f_read
    ∙ ap (λ r. refused_by_three kind (Ok aerodrome) (Ok flights) r) t_read

-- files that open a situation are taken
pub opened_taken : (aerodrome : Aerodrome) (flights : List Flight) → opening_fault aerodrome flights ≡ None
    → opening_refusal aerodrome flights ≡ None
opened_taken aerodrome flights none = ap (option_map Opening) none

-- files that open none are refused for that cause, or memory is short
pub stops_opened : (aerodrome : Aerodrome) (flights : List Flight) (fault : BeginFault) (ending : Ending) →
    IsRefusedBy (opening_fault aerodrome flights) fault → ending ≡ begin_ending fault
    → StopsOpened aerodrome flights ending
stops_opened aerodrome flights fault ending refused is =
    subst (StopsOpened aerodrome flights) (sym is) (go (opening_fault_of fault) refused)
  where
    go : (found : Option OpeningFault) → MatchOption found ⊤ (λ f. opening_fault aerodrome flights ≡ Some f)
        → StopsOpened aerodrome flights (opening_ending found)
    go None h = tt
    go (Some f) h = ap (option_map Opening) h

-- a stop for some causes is one for those that follow from them
pub stops_by : (P Q : FilesFault → Type 0) (ending : Ending) → ((cause : FilesFault) → P cause → Q cause)
    → Stops P ending → Stops Q ending
stops_by P Q (Refused cause) follows stops = follows cause stops
stops_by P Q NoMemory follows stops = tt
stops_by P Q ending follows stops = absurd stops
