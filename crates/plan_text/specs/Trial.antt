-- The summary of a trial: the numbers of its flights, of its bound on shifts and of the candidates looked at, and the
-- first line of its plan's block.
use Rattle.std.specs.Prelude.{ℕ, List, [], ◌∷◌, ◌++◌, take, Option, codes, decimal}
use Rattle.landing_rules.specs.declared.objective.Objective.{Objective}
use Rattle.landing_rules.specs.Text.{Bytes, ShownPlan, block_lines, lines_text}

-- how many flights there are, by how many places each may be shifted, and how many candidates were looked at
abbrev pub trial_head : ℕ → ℕ → ℕ → List Bytes
trial_head flights k nodes =
    (codes "flights " ++ decimal flights) ∷ (codes "k " ++ decimal k) ∷ (codes "nodes " ++ decimal nodes) ∷ []

-- and the first line of the plan's block, in which is the least objective or that nothing is feasible
abbrev pub trial_lines : ℕ → ℕ → ℕ → Objective → Option ShownPlan → List Bytes
trial_lines flights k nodes o plan = trial_head flights k nodes ++ take 1 (block_lines o plan)

abbrev pub trial_text : ℕ → ℕ → ℕ → Objective → Option ShownPlan → Bytes
trial_text flights k nodes o plan = lines_text (trial_lines flights k nodes o plan)
