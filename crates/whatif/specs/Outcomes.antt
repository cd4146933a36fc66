-- What comes of a trial: its first refusal, or else the least objective of the opening situation with the change.
use Rattle.std.specs.Prelude.{◌≡◌, ℕ, zero, suc, ◌+◌, List, [], ◌∷◌, Option, Some, None, Result, IfOk, nat_lt}
use Rattle.std.specs.Prelude.{option_map, get_or, if◌then◌else◌}
use Rattle.std.specs.List.{AllZip}
use Rattle.landing_rules.specs.Flights.{Situation, Schedule}
use Rattle.landing_rules.specs.Rules.{IsFeasible, IsBest, objective}
use Rattle.landing_rules.specs.Events as rules
use Rattle.landing_joint.specs.Shift.{with_shift}
use Rattle.arrivals.specs.declared.aerodrome.Aerodrome as aerodromes
use Rattle.arrivals.specs.declared.passed_list.PassedCount.{PassedCount}
use Rattle.arrivals.specs.Aerodromes.{is_beyond}
use Rattle.arrivals.specs.declared.flight.Flight as files
use Rattle.situations.specs.Opened.{opened}
use Rattle.trial_file.specs.declared.trial.Trial.{Trial}
use Rattle.trial_file.specs.declared.trial.Trial.TheVariants.{Shift, Close}
use Rattle.whatif.specs.declared.outcome.TrialRefusal.{TrialRefusal}
use Rattle.whatif.specs.declared.outcome.TrialRefusal.TheVariants.{DelayShift, PassedAbove, CoversFrozen}
use Rattle.whatif.specs.declared.outcome.TrialRefusal.TheVariants.{TooManyClosures}
use Rattle.whatif.specs.declared.outcome.Outcome.{Outcome}
use Rattle.whatif.specs.declared.outcome.Outcome.TheVariants.{Value, Infeasible, Refused}

-- ---- refusals

-- the number of the first passed-over count above this limit of shift, where the first count is number i
abbrev pub first_above : ℕ → ℕ → List PassedCount → Option ℕ
first_above k i [] = None
first_above k i (p ∷ ps) = if nat_lt k p.count then Some i else first_above k (i + 1) ps

-- delay does not take the limit of shift, or a flight was passed more often than it allows
abbrev pub shift_refusal : aerodromes.Aerodrome → ℕ → Option TrialRefusal
shift_refusal a k = if is_beyond a.version k a.objective then Some (DelayShift k)
    else option_map PassedAbove (first_above k 1 a.passed)

-- a closure is refused as the event of that closure is
abbrev pub closure_refusal : Option rules.Refusal → Option TrialRefusal
closure_refusal (Some (rules.CoversFrozen c second)) = Some (CoversFrozen c second)
closure_refusal (Some rules.TooManyClosures) = Some TooManyClosures
closure_refusal r = None

abbrev pub refusal : aerodromes.Aerodrome → List files.Flight → Trial → Option TrialRefusal
refusal a fs (Shift k) = shift_refusal a k
refusal a fs (Close from to) = closure_refusal (rules.refusal (opened a fs) (rules.Close (from, to)))

-- ---- outcomes

-- the situation with the change of a trial
abbrev pub changed : Situation → Trial → Situation
changed s (Shift k) = with_shift k s
changed s (Close from to) = rules.situation_after s None (rules.Close (from, to))

-- the least objective of a feasible schedule, or that none is feasible
abbrev pub HasLeast : Situation → Outcome → Type 0
HasLeast s (Value v) = (t : Schedule) × IsBest s t × (objective s t ≡ v)
HasLeast s Infeasible = (t : Schedule) → IsFeasible s t → ⊥
HasLeast s (Refused r) = ⊥

abbrev pub IsOutcomeBy : Situation → Option TrialRefusal → Outcome → Type 0
IsOutcomeBy s None outcome = HasLeast s outcome
IsOutcomeBy s (Some r) outcome = outcome ≡ Refused r

-- the outcome of a trial: its refusal, or else that of the changed opening situation
abbrev pub IsOutcomeOf : aerodromes.Aerodrome → List files.Flight → Trial → Outcome → Type 0
IsOutcomeOf a fs trial outcome = IsOutcomeBy (changed (opened a fs) trial) (refusal a fs trial) outcome

-- the outcome without a change, and then that of each trial, in their order
abbrev pub AreOutcomes : aerodromes.Aerodrome → List files.Flight → List Trial → List Outcome → Type 0
AreOutcomes a fs trials [] = ⊥
AreOutcomes a fs trials (base ∷ rest) = HasLeast (opened a fs) base × AllZip (IsOutcomeOf a fs) trials rest

-- the outcome at a place of these: at 0 the one without a change
abbrev pub IsOutcomeAt : aerodromes.Aerodrome → List files.Flight → List Trial → ℕ → Outcome → Type 0
IsOutcomeAt a fs trials zero outcome = HasLeast (opened a fs) outcome
IsOutcomeAt a fs trials (suc i) outcome = (trial : Trial) → IsOutcomeOf a fs (get_or trials i trial) outcome

-- an answer for a place is the outcome there, unless memory ran out
abbrev pub IsAnswerAt : {E : Type 0} → aerodromes.Aerodrome → List files.Flight → List Trial
    → ℕ → Result Outcome E → Type 0
IsAnswerAt a fs trials i answer = IfOk answer (IsOutcomeAt a fs trials i)
