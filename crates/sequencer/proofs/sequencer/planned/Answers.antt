use Rattle.landing_rules.specs.Flights.{Situation}
use Rattle.landing_rules.specs.Problem.{Problem, IsProblemOf}
use Rattle.cps_problem.specs.Plans.{IsWithinShift}
use Rattle.sequencer.proofs.sequencer.planned.Goals as goal

posed : (s : Situation) (p : Problem) → IsWithinShift s.aerodrome.objective s.aerodrome.k → IsProblemOf s p
    → IsWithinShift p.objective p.k
posed s p plannable of = rw (of.objective, of.k) plannable

pub replan-requires-clause-plannable : goal.replan-requires-clause-plannable
replan-requires-clause-plannable g c = λ lives within. posed _ _ c.requires.plannable c.in_ok-problem.ensures.problem
