-- How many flights, events and trials the bytes of a file hold; none where they do not read as one.
use Rattle.std.specs.Prelude.{ℕ, List, length, Result, Ok, Err}
use Rattle.flight_file.specs.Reading.{flights_of}
use Rattle.event_log.specs.Reading.{events_of}
use Rattle.trial_file.specs.Reading.{trials_of}

abbrev pub count_in : {X E : Type 0} → Result (List X) E → ℕ
count_in (Ok xs) = length xs
count_in (Err e) = 0

abbrev pub flight_count : List ℕ → ℕ
flight_count bytes = count_in (flights_of bytes)

abbrev pub event_count : List ℕ → ℕ
event_count bytes = count_in (events_of bytes)

abbrev pub trial_count : List ℕ → ℕ
trial_count bytes = count_in (trials_of bytes)
