-- How wide the first record of a text is, and where it ends.
use Rattle.std.specs.Prelude.{◌≡◌, ℕ, ◌<◌, ◌≤◌, List, [], length, drop, Option, Some, None}
use Rattle.csv.specs.Machine.{Read, next_record}
use Rattle.csv.specs.Reading.{default_config}
use Rattle.csv.specs.declared.parser.State.{State}
use Rattle.csv.specs.declared.parser.State.TheVariants as st
use Rattle.csv.specs.declared.parser.Action.{Action}
use Rattle.csv.specs.declared.parser.Action.TheVariants as act
use Rattle.csv_records.specs.declared.width.Place.{Place}
use Rattle.csv_records.specs.declared.width.Place.TheVariants as place
use Rattle.csv_records.specs.declared.width.Turn.{Turn}
use Rattle.csv_records.specs.declared.width.Turn.TheVariants as turn

-- a place as a state of the reader of `csv`
abbrev pub state_of : Place → State
state_of place.Between = st.StartRecord
state_of place.FieldStart = st.StartField
state_of place.Plain = st.InField
state_of place.Quoted = st.InQuoted
state_of place.QuoteSeen = st.AfterQuote

-- a state as a place; no record has escapes or comments in the default dialect
abbrev pub place_of : State → Place
place_of st.StartRecord = place.Between
place_of st.AfterCr = place.Between
place_of st.InComment = place.Between
place_of st.StartField = place.FieldStart
place_of st.InField = place.Plain
place_of st.InQuoted = place.Quoted
place_of st.InEscape = place.Quoted
place_of st.AfterQuote = place.QuoteSeen

-- what a step of the reader does, seen from outside
abbrev pub turn_by : State → Action → Turn
turn_by s act.Skip = turn.GoesOn (place_of s)
turn_by s act.Copy = turn.GoesOn (place_of s)
turn_by s act.EndField = turn.EndsField
turn_by s act.EndRecord = turn.EndsRecord

abbrev pub turn_of : State × Action → Turn
turn_of p = turn_by p.0 p.1

-- the first record of a text
abbrev pub first_of : List ℕ → Option Read
first_of text = next_record default_config st.StartRecord [] [] text

-- the first record of a text has at most so many fields and ends there, or there is none; or it has more fields
abbrev pub IsEnd : ℕ → List ℕ → Option ℕ → Type 0
IsEnd most text (Some n) =
    (n ≤ length text) × ((q : Read) → first_of text ≡ Some q → (length q.0 ≤ most) × (q.2 ≡ drop n text))
IsEnd most text None = (q : Read) × (first_of text ≡ Some q) × (most < length q.0)
