-- The least objective of a situation, from that of its problem.
use Rattle.std.proofs.Common.{ℕ, Some, ◌∙◌}
use Rattle.landing_rules.specs.Flights.{Situation}
use Rattle.landing_rules.specs.Problem.{Problem, IsProblemOf, joined}
use Rattle.landing_rules.specs.Sound.{IsSound}
use Rattle.landing_joint.specs.ProblemLaws.{BestListLaw, SameObjectiveLaw}
use Rattle.cps_problem.specs.Plans.{IsWithinShift, IsPlannable}
use Rattle.replan.specs.LeastValue.{IsLeastValue}
use Rattle.whatif.specs.declared.outcome.Outcome.TheVariants.{Value}
use Rattle.whatif.specs.Outcomes.{HasLeast}

pub plannable : (s : Situation) (p : Problem) → IsProblemOf s p → IsWithinShift s.aerodrome.objective s.aerodrome.k
    → IsPlannable p
plannable s p is h = rw (is.k, is.objective) h

module _ (s : Situation) (p : Problem) (sound : IsSound s) (is : IsProblemOf s p) where
  pub least_some : BestListLaw → SameObjectiveLaw → (v : ℕ) → IsLeastValue p (Some v) → HasLeast s (Value v)
  least_some best same v (t, b, e) = (joined s t, best s p t sound is b, same s p t sound is b.feasible ∙ e)
