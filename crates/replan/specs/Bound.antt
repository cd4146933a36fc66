-- That steps are due, and the most at once.
use Rattle.std.specs.Prelude.{ℕ, ◌≤◌, Option}
use Rattle.landing_rules.specs.Problem.{Problem}
use Rattle.cps_network.specs.Due.{HasCandidates, IsDue}

-- the candidates of each stage of a problem have a number
abbrev pub HasCounts : Problem → Type 0
HasCounts p = (stage : ℕ) → (count : ℕ) × HasCandidates p stage count

-- some number of steps is due for a problem, where another is held or none is
abbrev pub HasDue : Option Problem → Problem → Type 0
HasDue held p = (steps : ℕ) × IsDue held p steps

abbrev pub most_steps : ℕ
most_steps = 49412580

-- whatever is held
abbrev pub DueIsSmall : Problem → Type 0
DueIsSmall p = (held : Option Problem) (steps : ℕ) → IsDue held p steps → steps ≤ most_steps
