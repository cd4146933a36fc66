-- The trials of a file, or the first fault of its first record that has one.
use Rattle.std.specs.Prelude.{ℕ, List, [], ◌∷◌, codes, bytes_eq, Result, Err, if◌then◌else◌}
use Rattle.cps_base.specs.Limits.{greatest_k}
use Rattle.cps_base.specs.Answers.{fault_as, ok_map}
use Rattle.csv_records.specs.Rows.{field}
use Rattle.csv_records.specs.Values.{Form, values_of}
use Rattle.csv_records.specs.declared.cause.FileCause.{FileCause}
use Rattle.csv_records.specs.declared.cause.FileCause.TheVariants as file
use Rattle.cps_base.specs.Number.{number_within}
use Rattle.event_log.specs.declared.fault.FieldCause.TheVariants as field_cause
use Rattle.event_log.specs.Spans.{span_in}
use Rattle.trial_file.specs.Trials.{most_trials}
use Rattle.trial_file.specs.declared.trial.Trial.{Trial}
use Rattle.trial_file.specs.declared.trial.Trial.TheVariants.{Shift, Close}
use Rattle.trial_file.specs.declared.fault.TrialCause.{TrialCause}
use Rattle.trial_file.specs.declared.fault.TrialCause.TheVariants as cause
use Rattle.trial_file.specs.declared.fault.TrialFault.{TrialFault}

-- a number from 0 to 3 is another limit of shift
abbrev pub shift_in : List ℕ → Result Trial TrialCause
shift_in text = ok_map Shift (fault_as (λ e. cause.Value (field_cause.Number e)) (number_within text 0 greatest_k))

-- a span, as that of an event, is one closure more
abbrev pub close_in : List ℕ → Result Trial TrialCause
close_in text = ok_map (λ span. Close span.0 span.1) (fault_as cause.Value (span_in text))

-- the trial of the kind that a text names
unfoldable pub trial_by : List ℕ → List ℕ → Result Trial TrialCause
trial_by kind text =
    if bytes_eq kind (codes "k") then shift_in text
    else if bytes_eq kind (codes "close") then close_in text
    else Err cause.Kind

-- a fault that each file of records can have
abbrev pub in_file : FileCause → TrialCause
in_file file.Header = cause.Header
in_file file.FieldCount = cause.FieldCount
in_file file.TooMany = cause.TooMany
in_file file.Memory = cause.Memory

-- the trial file
abbrev pub trials : Form Trial TrialCause TrialFault
trials = record {
  header = codes "kind" ∷ codes "value" ∷ [];
  value = λ before r. trial_by (field r 0) (field r 1);
  most = most_trials;
  cause = in_file;
  fault = λ n c. record { number = n; cause = c };
}

-- the trials of a file
abbrev pub trials_of : List ℕ → Result (List Trial) TrialFault
trials_of = values_of trials
