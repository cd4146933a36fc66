use Rattle.cps_theory.specs.Labels.{InPairs}
use Rattle.landing_joint.specs.shared.LeastChoices.{choices_first_best, choice_found}
use Rattle.landing_joint.proofs.FirstBest.{ranked_sound, passed_at}
use Rattle.landing_joint.proofs.laws.least_choices_are_first_best.Goals as goal

pub returns : goal.returns
returns c = record {
  whole = λ p v lists xs is value kept a n. choices_first_best p (ranked_sound p is) (passed_at p is) v value
      (λ rs q. InPairs q (lists rs)) kept xs a n;
  next = λ p v lists xs is value kept a n. choice_found p (ranked_sound p is) (passed_at p is) v value
      (λ rs q. InPairs q (lists rs)) kept xs a n;
}
