-- From files that are read to their bytes.
use Rattle.std.proofs.Common.{◌≡◌, ℕ, List, Ok, Err, Result, Some, MatchResult, ap₂, ◌∙◌}
use Rattle.arrivals.specs.declared.aerodrome.Aerodrome.{Aerodrome}
use Rattle.aerodrome_file.specs.Reading.{aerodrome_of}
use Rattle.arrivals.specs.declared.flight.Flight.{Flight}
use Rattle.flight_file.specs.Reading.{flights_of}
use Rattle.endings.specs.Files.{HoldsOfTwo, HoldsOfThree}
use Rattle.endings.specs.Refusing.{RefusesThree, RefusesTwo, opening_refusal, refused_by, Stops, StopsOpened}
use Rattle.endings.specs.declared.ending.Ending.{Ending}
use Rattle.endings.specs.declared.ending.FilesFault.{FilesFault}
use Rattle.endings.specs.shared.Refusing.{refused_as_read, stops_by}
use Rattle.openings.specs.Plan.{StopsPlan}

-- what is so of the files that were read is so of their bytes, and what stops them stops their bytes
pub of_bytes : {X : Type 0} (Holds : Aerodrome → List Flight → X → Type 0) (r : Result X Ending) (a f : List ℕ)
    (aerodrome : Aerodrome) (flights : List Flight) → aerodrome_of a ≡ Ok aerodrome → flights_of f ≡ Ok flights
    → MatchResult r (Holds aerodrome flights) (StopsOpened aerodrome flights)
    → MatchResult r (λ x. HoldsOfTwo a f (λ b fs. Holds b fs x)) (StopsPlan a f)
of_bytes Holds (Ok x) a f aerodrome flights a_read f_read holds = record {
  aerodrome = aerodrome;
  flights = flights;
  aerodrome_read = a_read;
  flights_read = f_read;
  holds = holds;
}
of_bytes Holds (Err ending) a f aerodrome flights a_read f_read stops = stops_by (λ cause. opening_refusal aerodrome
    flights ≡ Some cause) (RefusesTwo a f) ending (λ cause refused. ap₂ refused_by a_read f_read ∙ refused) stops

-- the same with a third file, whose fault is a refusal of this kind
pub of_three_bytes : {T F X : Type 0} (kind : F → FilesFault) (read : List ℕ → Result T F)
    (Holds : Aerodrome → List Flight → T → X → Type 0) (r : Result X Ending) (a f t : List ℕ)
    (aerodrome : Aerodrome) (flights : List Flight) (third : T)
    → aerodrome_of a ≡ Ok aerodrome → flights_of f ≡ Ok flights → read t ≡ Ok third
    → MatchResult r (Holds aerodrome flights third) (StopsOpened aerodrome flights)
    → MatchResult r (λ x. HoldsOfThree read a f t (λ b fs u. Holds b fs u x)) (Stops (RefusesThree kind read a f t))
of_three_bytes kind read Holds (Ok x) a f t aerodrome flights third a_read f_read t_read holds = record {
  aerodrome = aerodrome;
  flights = flights;
  third = third;
  aerodrome_read = a_read;
  flights_read = f_read;
  third_read = t_read;
  holds = holds;
}
of_three_bytes kind read Holds (Err ending) a f t aerodrome flights third a_read f_read t_read stops =
    stops_by (λ cause. opening_refusal aerodrome flights ≡ Some cause) (RefusesThree kind read a f t) ending
    (λ cause refused. refused_as_read kind _ _ _ _ _ _ a_read f_read t_read ∙ refused) stops
