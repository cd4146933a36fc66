use Rattle.std.proofs.Common.{rules}
use Rattle.std.proofs.Common.{◌≡◌, ℕ, ◌≤◌, true, inl, inr, arith}
use Rattle.std.specs.Prelude.{◌==◌}
use Rattle.std.proofs.lemmas.Bool.{cases_Bool}
use Rattle.landing_rules.specs.declared.objective.Objective.{Objective}
use Rattle.landing_rules.specs.Flights.{Situation}
use Rattle.arrivals.specs.declared.aerodrome.Aerodrome.{Aerodrome}
use Rattle.arrivals.specs.Aerodromes.{IsInRange, is_delay, most_shift}
use Rattle.cps_problem.specs.Plans.{IsWithinShift}
use Rattle.situations.specs.Opened.{aerodrome_of}
use Rattle.sequencer.proofs.begin.opening.Goals as goal

-- the shift of an aerodrome's file is one that a planner is asked for
most_two : (v : ℕ) → most_shift v ≤ 2
most_two v = elim (cases_Bool (v == 1)) [ inl first ↦ rw first (omega arith) | inr other ↦ rw other (omega arith) ]

within : (o : Objective) (v k : ℕ) → (is_delay o ≡ true → k ≤ most_shift v) → IsWithinShift o k
within o v k h = search (rules, most_two)

plannable : (a : Aerodrome) (s : Situation) → IsInRange a → s.aerodrome ≡ aerodrome_of a
    → IsWithinShift s.aerodrome.objective s.aerodrome.k
plannable a s range e = rw e (within a.objective a.version a.k range.shift)

pub returns-in-None-clause-plannable : goal.returns-in-None-clause-plannable
returns-in-None-clause-plannable c = search (rules, plannable)
