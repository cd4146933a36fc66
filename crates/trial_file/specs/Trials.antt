-- Trials: how many there may be at most, and the ranges of their numbers.
use Rattle.std.specs.Prelude.{ℕ, ◌+◌, ◌<◌, ◌≤◌}
use Rattle.cps_base.specs.Limits.{greatest_k}
use Rattle.landing_rules.specs.Rules.{last_second}
use Rattle.trial_file.specs.declared.trial.Trial.{Trial}
use Rattle.trial_file.specs.declared.trial.Trial.TheVariants.{Shift, Close}

-- trials of a file
abbrev pub most_trials : ℕ
most_trials = 16

-- the numbers of a trial are in their ranges
abbrev pub IsGood : Trial → Type 0
IsGood (Shift k) = k ≤ greatest_k
IsGood (Close from to) = (from < to) × (to ≤ last_second + 1)
