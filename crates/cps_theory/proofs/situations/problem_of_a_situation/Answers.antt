use Rattle.cps_theory.specs.laws.ProblemOfSituation.{feasible_problem, problem_feasible}
use Rattle.cps_theory.specs.laws.WholeObjective.{same_objectives}
use Rattle.cps_theory.proofs.situations.problem_of_a_situation.Goals as goal

pub returns : goal.returns
returns c = record {
  feasible = λ s p at sound of t. (
    λ f. (f.kept, problem_feasible s p at sound of t f),
    λ h. feasible_problem s p at sound of t h.0 h.1,
  );
  objectives = same_objectives;
}
