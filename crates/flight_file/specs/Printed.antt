-- The plain spelling of flights.
use Rattle.std.specs.Prelude.{ℕ, List, [], ◌∷◌, ◌++◌, ◌==◌, Bool, true, false, length, map, decimal}
use Rattle.wake_table.specs.Letters.{letter}
use Rattle.csv_records.specs.Rows.{Fields}
use Rattle.csv_records.specs.Plain.{plain_text}
use Rattle.arrivals.specs.declared.flight.Flight.{Flight}
use Rattle.flight_file.specs.Reading.{header}

-- `first-last`
abbrev pub window_text : ℕ × ℕ → List ℕ
window_text w = decimal w.0 ++ 45 ∷ decimal w.1

-- what stands behind a part: a mark, unless it is the last
abbrev pub mark_text : Bool → List ℕ
mark_text true = []
mark_text false = 59 ∷ []

-- windows joined by `;`
abbrev pub windows_text : List (ℕ × ℕ) → List ℕ
windows_text [] = []
windows_text (w ∷ ws) = window_text w ++ mark_text (length ws == 0) ++ windows_text ws

-- callsigns joined by `;`
abbrev pub names_text : List (List ℕ) → List ℕ
names_text [] = []
names_text (n ∷ ns) = n ++ mark_text (length ns == 0) ++ names_text ns

-- the six fields of a flight
abbrev pub flight_fields : Flight → Fields
flight_fields f = f.callsign ∷ (letter f.category ∷ []) ∷ decimal f.eta ∷ decimal f.weight
    ∷ windows_text f.windows ∷ names_text f.after ∷ []

-- the first four of them, each with its comma
abbrev pub head_text : Flight → List ℕ
head_text f = f.callsign ++ 44 ∷ letter f.category ∷ 44 ∷ (decimal f.eta ++ 44 ∷ (decimal f.weight ++ 44 ∷ []))

-- the file of these flights in its plain spelling
abbrev pub flights_text : List Flight → List ℕ
flights_text fs = plain_text (header ∷ map flight_fields fs)
