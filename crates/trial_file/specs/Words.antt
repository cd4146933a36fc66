-- The words of the line that says why a file is not a trial file.
use Rattle.std.specs.Prelude.{ℕ, List, [], ◌∷◌, codes}
use Rattle.texts.specs.Words.{record_words}
use Rattle.event_log.specs.Words.{field_words}
use Rattle.trial_file.specs.declared.fault.TrialCause.{TrialCause}
use Rattle.trial_file.specs.declared.fault.TrialCause.TheVariants as trial
use Rattle.trial_file.specs.declared.fault.TrialFault.{TrialFault}

abbrev pub cause_words : TrialCause → List (List ℕ)
cause_words trial.Header = codes "header" ∷ []
cause_words trial.FieldCount = codes "fields" ∷ []
cause_words trial.Kind = codes "kind" ∷ []
cause_words (trial.Value cause) = codes "value" ∷ field_words cause
cause_words trial.TooMany = codes "too-many" ∷ []
cause_words trial.Memory = []

abbrev pub trial_words : TrialFault → List (List ℕ)
trial_words fault = record_words fault.number (cause_words fault.cause)
