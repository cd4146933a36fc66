-- The words of the line that says why a file is not a flight file.
use Rattle.std.specs.Prelude.{ℕ, List, [], ◌∷◌, codes, decimal}
use Rattle.landing_windows.specs.declared.windows.WindowFault.TheVariants as windows
use Rattle.texts.specs.Words.{number_word, record_words}
use Rattle.flight_file.specs.declared.fault.WindowsCause.{WindowsCause}
use Rattle.flight_file.specs.declared.fault.WindowsCause.TheVariants.{Shape, Number, Set}
use Rattle.flight_file.specs.declared.fault.AfterCause.{AfterCause}
use Rattle.flight_file.specs.declared.fault.AfterCause.TheVariants as after
use Rattle.flight_file.specs.declared.fault.FlightCause.{FlightCause}
use Rattle.flight_file.specs.declared.fault.FlightCause.TheVariants as flight
use Rattle.flight_file.specs.declared.fault.FlightFault.{FlightFault}

abbrev pub windows_words : WindowsCause → List (List ℕ)
windows_words (Shape i) = codes "shape" ∷ decimal i ∷ []
windows_words (Number i fault) = codes "number" ∷ decimal i ∷ number_word fault ∷ []
windows_words (Set windows.Empty) = codes "none" ∷ []
windows_words (Set windows.TooMany) = codes "too-many" ∷ []
windows_words (Set (windows.Backward i)) = codes "backward" ∷ decimal i ∷ []
windows_words (Set (windows.Overlap i)) = codes "overlap" ∷ decimal i ∷ []
windows_words (Set windows.TooLong) = codes "too-long" ∷ []

abbrev pub after_words : AfterCause → List (List ℕ)
after_words after.TooMany = codes "too-many" ∷ []
after_words (after.Callsign i) = codes "callsign" ∷ decimal i ∷ []
after_words (after.Itself i) = codes "itself" ∷ decimal i ∷ []
after_words (after.Repeat i) = codes "repeat" ∷ decimal i ∷ []

abbrev pub cause_words : FlightCause → List (List ℕ)
cause_words flight.Header = codes "header" ∷ []
cause_words flight.FieldCount = codes "fields" ∷ []
cause_words flight.Callsign = codes "callsign" ∷ []
cause_words flight.Category = codes "category" ∷ []
cause_words (flight.Eta fault) = codes "eta" ∷ number_word fault ∷ []
cause_words (flight.Weight fault) = codes "weight" ∷ number_word fault ∷ []
cause_words (flight.Windows cause) = codes "windows" ∷ windows_words cause
cause_words (flight.After cause) = codes "after" ∷ after_words cause
cause_words flight.Duplicate = codes "duplicate" ∷ []
cause_words flight.TooMany = codes "too-many" ∷ []
cause_words flight.Memory = []

abbrev pub flight_words : FlightFault → List (List ℕ)
flight_words fault = record_words fault.number (cause_words fault.cause)
