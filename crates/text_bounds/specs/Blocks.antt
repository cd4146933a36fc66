-- How many bytes a plan and the answers of a run have at most.
use Rattle.std.specs.Prelude.{ℕ, ◌+◌, ◌*◌, ◌≤◌, length}
use Rattle.landing_rules.specs.Events.{State}
use Rattle.landing_rules.specs.Sound.{IsSoundState}
use Rattle.landing_rules.specs.Text.{lines_text, plan_lines}

-- the line of an objective has at most 20 bytes, that of a landing at most 29
abbrev pub block_bound : ℕ → ℕ
block_bound flights = 20 + 29 * flights

-- the block of a state's plan
abbrev pub BlockIsBoundedLaw : Type 0
BlockIsBoundedLaw = (state : State) → IsSoundState state
    → length (lines_text (plan_lines state)) ≤ block_bound (length state.situation.active)
