-- The line that says a verdict, and what the verdict says of a situation.
use Rattle.std.specs.Prelude.{◌≡◌, ℕ, List, [], ◌∷◌, ◌++◌, codes, decimal, Option, Some, None, ⊤}
use Rattle.landing_rules.specs.Flights.{Situation, Schedule}
use Rattle.landing_rules.specs.Rules.{IsFeasible, IsBest, objective}
use Rattle.landing_rules.specs.Problem.{Problem, joined}
use Rattle.cert_check.specs.Landings.{Landings, seconds}
use Rattle.cert_check.specs.declared.verdict.Reason.{Reason}
use Rattle.cert_check.specs.declared.verdict.Reason.TheVariants.{Flights, Closed, Early, Separation, Precedence, Shift}
use Rattle.cert_check.specs.declared.verdict.Reason.TheVariants.{Value, Shape, Successor, Final}
use Rattle.cert_check.specs.declared.verdict.Verdict.{Verdict}
use Rattle.cert_check.specs.declared.verdict.Verdict.TheVariants as verdict
use Rattle.endings.specs.declared.ending.Answer.{Answer}
use Rattle.endings.specs.declared.ending.Answer.TheVariants.{Accepted, Rejected}

abbrev pub reason_word : Reason → List ℕ
reason_word Flights = codes "rejected flights"
reason_word (Closed r) = codes "rejected closed"
reason_word (Early r) = codes "rejected early"
reason_word (Separation r q) = codes "rejected separation"
reason_word (Precedence r q) = codes "rejected precedence"
reason_word (Shift r) = codes "rejected shift"
reason_word (Value v) = codes "rejected value"
reason_word (Shape i) = codes "rejected shape"
reason_word (Successor i r) = codes "rejected successor"
reason_word (Final i) = codes "rejected final"

abbrev pub verdict_word : Verdict → List ℕ
verdict_word (verdict.Optimal v) = codes "optimal"
verdict_word verdict.Infeasible = codes "infeasible"
verdict_word (verdict.Rejected reason) = reason_word reason

-- the numbers that follow, at most two
abbrev pub reason_first : Reason → Option ℕ
reason_first Flights = None
reason_first (Closed r) = Some r
reason_first (Early r) = Some r
reason_first (Separation r q) = Some r
reason_first (Precedence r q) = Some r
reason_first (Shift r) = Some r
reason_first (Value v) = Some v
reason_first (Shape i) = Some i
reason_first (Successor i r) = Some i
reason_first (Final i) = Some i

abbrev pub reason_second : Reason → Option ℕ
reason_second (Separation r q) = Some q
reason_second (Precedence r q) = Some q
reason_second (Successor i r) = Some r
reason_second reason = None

abbrev pub first_number : Verdict → Option ℕ
first_number (verdict.Optimal v) = Some v
first_number verdict.Infeasible = None
first_number (verdict.Rejected reason) = reason_first reason

abbrev pub second_number : Verdict → Option ℕ
second_number (verdict.Rejected reason) = reason_second reason
second_number verdict = None

abbrev pub number_text : Option ℕ → List ℕ
number_text None = []
number_text (Some n) = 32 ∷ decimal n

-- the line of a verdict
abbrev pub verdict_text : Verdict → List ℕ
verdict_text v = verdict_word v ++ (number_text (first_number v) ++ (number_text (second_number v) ++ 10 ∷ []))

abbrev pub answer_of_verdict : Verdict → Answer
answer_of_verdict (verdict.Optimal v) = Accepted
answer_of_verdict verdict.Infeasible = Accepted
answer_of_verdict (verdict.Rejected reason) = Rejected

-- The listed landings, joined with the frozen ones, are a best schedule with this objective.
pub record AreBest (s : Situation) (p : Problem) (ls : Landings) (v : ℕ) : Type 0 where
  pub best : IsBest s (joined s (seconds p ls))
  pub objective : objective s (joined s (seconds p ls)) ≡ v

-- What a verdict says of the situation: an optimum is that of the listed landings, and without one nothing is feasible.
abbrev pub IsTrueOf : Situation → Problem → Landings → Verdict → Type 0
IsTrueOf s p ls (verdict.Optimal v) = AreBest s p ls v
IsTrueOf s p ls verdict.Infeasible = (t : Schedule) → IsFeasible s t → ⊥
IsTrueOf s p ls (verdict.Rejected reason) = ⊤
