-- What a planner for any k holds.
use Rattle.std.specs.Prelude.{◌≡◌, ℕ, Option, Some}
use Rattle.landing_rules.specs.Problem.{Problem}
use Rattle.replan.specs.Held.{HeldProblem, held_problem}
use Rattle.replan.specs.declared.any_kept.AnyKept.{AnyKept}
use Rattle.replan.specs.declared.any_kept.AnyKept.TheVariants.{One, Three, Five, Seven}

abbrev pub k_of : AnyKept → ℕ
k_of (One kept) = 0
k_of (Three kept) = 1
k_of (Five kept) = 2
k_of (Seven kept) = 3

-- the problem that was planned last, with its stages
abbrev pub held_of : AnyKept → Option HeldProblem
held_of (One kept) = kept
held_of (Three kept) = kept
held_of (Five kept) = kept
held_of (Seven kept) = kept

-- the problem that was planned last
abbrev pub problem_held : AnyKept → Option Problem
problem_held planner = held_problem (held_of planner)

-- the planner holds this problem
abbrev pub Holds : AnyKept → Problem → Type 0
Holds planner problem = problem_held planner ≡ Some problem
