use Rattle.std.proofs.Common.{sym, ◌∙◌, ap, subst}
use Rattle.landing_rules.specs.Rules.{IsFeasible, IsBest, IsTight, objective}
use Rattle.landing_joint.proofs.Problem.{list_gives_schedule, schedule_gives_list, same_objective, best_list_schedule}
use Rattle.landing_joint.proofs.JoinedSchedule.{joined_in_words, tight_list_schedule}
use Rattle.landing_joint.proofs.laws.problem_stands_for_situation.Goals as goal

pub returns : goal.returns
returns c = record {
  feasible = λ s p t sound of f. subst (IsFeasible s) (sym (joined_in_words s sound t))
      (list_gives_schedule s sound p of t f);
  every = λ s p t sound of f. let u = schedule_gives_list s sound p of t f in
      (u.0, u.1, u.2 ∙ sym (joined_in_words s sound u.0));
  objectives = λ s p t sound of f. ap (objective s) (joined_in_words s sound t) ∙ same_objective s sound p of t f;
  best = λ s p t sound of b. subst (IsBest s) (sym (joined_in_words s sound t)) (best_list_schedule s sound p of t b);
  tight = λ s p t sound of b. subst (IsTight s) (sym (joined_in_words s sound t))
      (tight_list_schedule s sound p of t b);
  none = λ s p sound of none t f. let u = schedule_gives_list s sound p of t f in none u.0 u.1;
}
