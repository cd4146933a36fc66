-- The words of the line that says why a file is not a plan file.
use Rattle.std.specs.Prelude.{ℕ, List, [], ◌∷◌, codes, decimal}
use Rattle.plan_file.specs.declared.plan.PlanFault.{PlanFault}
use Rattle.plan_file.specs.declared.plan.PlanFault.TheVariants.{Line, Memory}

abbrev pub plan_words : PlanFault → List (List ℕ)
plan_words (Line n) = codes "line" ∷ decimal n ∷ []
plan_words Memory = []
