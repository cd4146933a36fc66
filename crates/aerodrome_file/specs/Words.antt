-- The words of the line that says why a file is not an aerodrome file.
use Rattle.std.specs.Prelude.{ℕ, List, [], ◌∷◌, ◌++◌, codes, decimal}
use Rattle.wake_table.specs.Letters.{letter_text}
use Rattle.wake_table.specs.declared.table.TableFault.{TableFault}
use Rattle.wake_table.specs.declared.table.TableFault.TheVariants as table
use Rattle.landing_windows.specs.declared.closures.ClosureFault.{ClosureFault}
use Rattle.landing_windows.specs.declared.closures.ClosureFault.TheVariants as closure
use Rattle.aerodrome_file.specs.declared.fault.Key.{Key}
use Rattle.aerodrome_file.specs.declared.fault.Key.TheVariants as key
use Rattle.aerodrome_file.specs.declared.fault.Part.{Part}
use Rattle.aerodrome_file.specs.declared.fault.Part.TheVariants as part
use Rattle.aerodrome_file.specs.declared.fault.AeroFault.{AeroFault}
use Rattle.aerodrome_file.specs.declared.fault.AeroFault.TheVariants as aerodrome

-- the key's name, and the letter of its row or the number of its closure or entry
abbrev pub key_words : Key → List (List ℕ)
key_words key.Version = codes "version" ∷ []
key_words key.K = codes "k" ∷ []
key_words key.Freeze = codes "freeze" ∷ []
key_words key.Objective = codes "objective" ∷ []
key_words key.Table = codes "table" ∷ []
key_words (key.Row leader) = codes "row" ∷ letter_text leader ∷ []
key_words key.Closures = codes "closures" ∷ []
key_words (key.From i) = codes "from" ∷ decimal i ∷ []
key_words (key.To i) = codes "to" ∷ decimal i ∷ []
key_words key.Clock = codes "clock" ∷ []
key_words key.Frozen = codes "frozen" ∷ []
key_words (key.FrozenCallsign i) = codes "callsign" ∷ decimal i ∷ []
key_words (key.FrozenSecond i) = codes "second" ∷ decimal i ∷ []
key_words key.Passed = codes "passed" ∷ []
key_words (key.PassedCallsign i) = codes "callsign" ∷ decimal i ∷ []
key_words (key.PassedCount i) = codes "count" ∷ decimal i ∷ []

abbrev pub part_words : Part → List (List ℕ)
part_words part.Top = []
part_words part.Table = codes "table" ∷ []
part_words (part.Closure i) = codes "closure" ∷ decimal i ∷ []
part_words (part.Frozen i) = codes "frozen" ∷ decimal i ∷ []
part_words (part.Passed i) = codes "passed" ∷ decimal i ∷ []

abbrev pub unknown_words : Part → List ℕ → List (List ℕ)
unknown_words part text = codes "unknown key" ∷ part_words part ++ text ∷ []

abbrev pub table_words : TableFault → List (List ℕ)
table_words (table.OutOfRange leader follower) =
    codes "table" ∷ codes "range" ∷ letter_text leader ∷ letter_text follower ∷ []
table_words (table.Triangle a b c) =
    codes "table" ∷ codes "triangle" ∷ letter_text a ∷ letter_text b ∷ letter_text c ∷ []

abbrev pub closure_words : ℕ → ClosureFault → List (List ℕ)
closure_words i closure.Empty = decimal i ∷ codes "empty" ∷ []
closure_words i closure.TooMany = decimal i ∷ codes "too-many" ∷ []

abbrev pub aerodrome_words : AeroFault → List (List ℕ)
aerodrome_words aerodrome.NotToml = codes "not toml" ∷ []
aerodrome_words (aerodrome.MissingKey k) = codes "missing" ∷ key_words k
aerodrome_words (aerodrome.UnknownKey part text) = unknown_words part text
aerodrome_words (aerodrome.WrongKind k) = codes "kind" ∷ key_words k
aerodrome_words (aerodrome.OutOfRange k) = codes "range" ∷ key_words k
aerodrome_words (aerodrome.Table fault) = table_words fault
aerodrome_words (aerodrome.Closure i fault) = codes "closure" ∷ closure_words i fault
aerodrome_words aerodrome.FrozenTooMany = codes "frozen" ∷ codes "too-many" ∷ []
aerodrome_words aerodrome.FrozenNoClock = codes "frozen" ∷ codes "no-clock" ∷ []
aerodrome_words (aerodrome.FrozenRepeat i) = codes "frozen" ∷ codes "repeat" ∷ decimal i ∷ []
aerodrome_words (aerodrome.FrozenLate i) = codes "frozen" ∷ codes "late" ∷ decimal i ∷ []
aerodrome_words aerodrome.PassedTooMany = codes "passed" ∷ codes "too-many" ∷ []
aerodrome_words (aerodrome.PassedRepeat i) = codes "passed" ∷ codes "repeat" ∷ decimal i ∷ []
aerodrome_words (aerodrome.DelayShift k) = codes "delay" ∷ codes "shift" ∷ decimal k ∷ []
aerodrome_words aerodrome.Memory = []
