use Rattle.std.proofs.Common.{◌≡◌, ◌+◌, ◌≤◌, ◌++◌, length}
use Rattle.trial_file.specs.Trials.{most_trials}
use Rattle.whatif.specs.Text.{trial_lines}
use Rattle.whatif.proofs.text.append_trials.Given as goal

-- what is written and the lines that are left make the whole text
abbrev pub invariant-loop-rest : goal.invariant-loop-rest
invariant-loop-rest l = (l.into.items ++ trial_lines l.number l.rest ≡ l.fn.into.items ++ trial_lines 1 l.fn.outcomes)
    × (length l.rest + l.number ≤ most_trials + 1)

abbrev pub decreases-loop-rest : goal.decreases-loop-rest
decreases-loop-rest l = length l.rest
