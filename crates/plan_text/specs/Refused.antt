-- What is printed of a refusal of the rules; want of memory is none, and is not printed.
use Rattle.std.specs.Prelude.{ℕ, List, [], Option, Some, None}
use Rattle.landing_rules.specs.Events.{Refusal}
use Rattle.landing_rules.specs.Text.{line, cause, refused_words}

abbrev pub cause_text : Option Refusal → List ℕ
cause_text (Some r) = cause r
cause_text None = []

-- the line of event i
abbrev pub refused_text : ℕ → Option Refusal → List ℕ
refused_text i (Some r) = line (refused_words i r)
refused_text i None = []
