use Rattle.std.proofs.Common.{sym, subst}
use Rattle.landing_rules.specs.FirstBest.{IsFirstBest}
use Rattle.landing_joint.proofs.FirstBest.{first_best_schedule, first_best_schedule_exists, first_best_is_one}
use Rattle.landing_joint.proofs.FirstBest.{first_best_objective}
use Rattle.landing_joint.proofs.JoinedSchedule.{joined_in_words}
use Rattle.landing_joint.proofs.laws.first_best_schedule_is_one.Goals as goal

pub returns : goal.returns
returns c = record {
  list = λ s p t sound of b. subst (IsFirstBest s) (sym (joined_in_words s sound t))
      (first_best_schedule s sound p of t b);
  exists = λ s p t sound of f. let v = first_best_schedule_exists s sound p of t f in
      (v.0, v.1, subst (IsFirstBest s) (sym (joined_in_words s sound v.0)) v.2);
  one = λ s t u sound a b. first_best_is_one s sound t u a b;
  objective = first_best_objective;
}
