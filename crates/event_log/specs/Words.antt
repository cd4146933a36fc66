-- The words of the line that says why a file is not an event log.
use Rattle.std.specs.Prelude.{ℕ, List, [], ◌∷◌, codes}
use Rattle.texts.specs.Words.{number_word, record_words}
use Rattle.flight_file.specs.Words.{windows_words, after_words}
use Rattle.event_log.specs.declared.fault.Col.{Col}
use Rattle.event_log.specs.declared.fault.Col.TheVariants as column
use Rattle.event_log.specs.declared.fault.FieldCause.{FieldCause}
use Rattle.event_log.specs.declared.fault.FieldCause.TheVariants as field
use Rattle.event_log.specs.declared.fault.LogCause.{LogCause}
use Rattle.event_log.specs.declared.fault.LogCause.TheVariants as log
use Rattle.event_log.specs.declared.fault.LogFault.{LogFault}

-- the header's word
abbrev pub column_word : Col → List ℕ
column_word column.Callsign = codes "callsign"
column_word column.Category = codes "category"
column_word column.Eta = codes "eta"
column_word column.Weight = codes "weight"
column_word column.Windows = codes "windows"
column_word column.After = codes "after"

abbrev pub field_words : FieldCause → List (List ℕ)
field_words field.NotEmpty = codes "not-empty" ∷ []
field_words field.Bad = codes "bad" ∷ []
field_words (field.Number fault) = number_word fault ∷ []
field_words (field.Windows cause) = windows_words cause
field_words (field.After cause) = after_words cause
field_words field.EmptySpan = codes "empty" ∷ []

abbrev pub cause_words : LogCause → List (List ℕ)
cause_words log.Header = codes "header" ∷ []
cause_words log.FieldCount = codes "fields" ∷ []
cause_words log.Kind = codes "kind" ∷ []
cause_words (log.Field c cause) = column_word c ∷ field_words cause
cause_words log.TooMany = codes "too-many" ∷ []
cause_words log.Memory = []

abbrev pub event_words : LogFault → List (List ℕ)
event_words fault = record_words fault.number (cause_words fault.cause)
