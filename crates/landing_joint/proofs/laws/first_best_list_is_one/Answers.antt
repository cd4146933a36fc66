use Rattle.landing_joint.proofs.FirstBest.{sound_problem, one_first_best_list, some_first_best_list}
use Rattle.landing_joint.proofs.laws.first_best_list_is_one.Goals as goal

pub returns : goal.returns
returns c = record {
  sound = λ s p sound of. sound_problem s sound p of;
  exists = λ p t is f. some_first_best_list p is t f;
  one = λ p t u is a b. one_first_best_list p is t u a b;
}
