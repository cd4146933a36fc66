use Rattle.std.proofs.Common.{refl, arith}
use Rattle.std.proofs.lemmas.Bool.Decides.{nat_tests}
use Rattle.wake_table.specs.Table.{separation}
use Rattle.landing_rules.proofs.OfTwo.{best_of_two}
use Rattle.landing_rules.proofs.examples.known_schedules_are_best.Goals as goal

pub returns-clause-first_come : goal.returns-clause-first_come
unfolding separation
returns-clause-first_come c = best_of_two _ _ refl refl (λ a b h. grind (arith, nat_tests))

pub returns-clause-swapped : goal.returns-clause-swapped
unfolding separation
returns-clause-swapped c = best_of_two _ _ refl refl (λ a b h. grind (arith, nat_tests))
