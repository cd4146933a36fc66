-- How many bytes the summary of a trial and the outcomes of trials have at most.
use Rattle.std.specs.Prelude.{ℕ, ◌+◌, ◌*◌, ◌<◌, ◌≤◌, Option, MatchOption, ⊤, length}
use Rattle.landing_rules.specs.declared.objective.Objective.{Objective}
use Rattle.cps_base.specs.Limits.{greatest_value}
use Rattle.landing_rules.specs.Text.{ShownPlan}
use Rattle.plan_text.specs.Trial.{trial_text}

-- numbers of two, one and eight digits, and the line of an objective
abbrev pub trial_bound : ℕ
trial_bound = 50

-- the line without a change has at most 16 bytes, that of a trial at most 48
abbrev pub outcomes_bound : ℕ → ℕ
outcomes_bound trials = 16 + 48 * trials

abbrev pub TrialIsBoundedLaw : Type 0
TrialIsBoundedLaw = (n k nodes : ℕ) (o : Objective) (plan : Option ShownPlan) → n < 100 → k < 10 → nodes < 100000000
    → MatchOption plan ⊤ (λ p. p.value ≤ greatest_value) → length (trial_text n k nodes o plan) ≤ trial_bound
