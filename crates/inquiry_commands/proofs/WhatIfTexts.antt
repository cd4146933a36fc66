-- From the clauses of printed outcomes to how long their text is, and that it is one.
use Rattle.std.proofs.Common.{◌≡◌, ℕ, ◌+◌, ◌*◌, ◌≤◌, inl, inr, List, [], ◌∷◌, length, Option, Some, None, refl, sym, ap}
use Rattle.std.proofs.Common.{subst, ◌∙◌, arith}
use Rattle.std.specs.Prelude.{All, nat_lt, option_map}
use Rattle.std.specs.List.{AllZip}
use Rattle.std.proofs.lemmas.Bool.{cases_Bool}
use Rattle.std.proofs.lemmas.List.{length-append}
use Rattle.std.proofs.lemmas.Option.{same_Some}
use Rattle.std.proofs.lemmas.List.Elements.{All-head, All-tail}
use Rattle.landing_rules.specs.Events as rules
use Rattle.landing_rules.specs.Flights.{Active, Situation}
use Rattle.cps_base.specs.Limits.{greatest_k, most_flights, most_waiting}
use Rattle.landing_rules.specs.Sound.{IsGoodFlight, IsSound}
use Rattle.landing_rules.specs.Text.{cause}
use Rattle.arrivals.specs.declared.aerodrome.Aerodrome.{Aerodrome}
use Rattle.arrivals.specs.declared.flight.Flight.{Flight}
use Rattle.arrivals.specs.declared.passed_list.PassedCount.{PassedCount}
use Rattle.arrivals.specs.Aerodromes.{IsClock, IsInRange, is_beyond}
use Rattle.sequencer.specs.Opened.{opened}
use Rattle.trial_file.specs.declared.trial.Trial.{Trial}
use Rattle.trial_file.specs.declared.trial.Trial.TheVariants.{Shift, Close}
use Rattle.trial_file.specs.Trials.{IsGood, most_trials}
use Rattle.whatif.specs.declared.outcome.TrialRefusal.{TrialRefusal}
use Rattle.whatif.specs.declared.outcome.TrialRefusal.TheVariants as refused
use Rattle.whatif.specs.declared.outcome.Outcome.{Outcome}
use Rattle.whatif.specs.declared.outcome.Outcome.TheVariants.{Value, Infeasible, Refused}
use Rattle.whatif.specs.OneText.{OutcomesAreOneLaw}
use Rattle.whatif.specs.Outcomes.{AreOutcomes, HasLeast, IsOutcomeBy, IsOutcomeOf, changed, closure_refusal}
use Rattle.whatif.specs.Outcomes.{first_above, refusal, shift_refusal}
use Rattle.whatif.specs.Text.{cause_words, outcome_words, outcomes_text, trial_line, trial_lines}
use Rattle.text_bounds.specs.Replays.{IsInDays}
use Rattle.text_bounds.specs.Counts.{count_in}
use Rattle.text_bounds.specs.Trials.{outcomes_bound}
use Rattle.text_bounds.specs.shared.Lengths.{rank_short, value_short}
use Rattle.plan_file.specs.shared.Objectives.{schedule_low}
use Rattle.text_bounds.specs.shared.Events.{refusal_short}
use Rattle.endings.specs.shared.Files.{same_three}
use Rattle.endings.specs.declared.ending.Answer.TheVariants.{Tried}
use Rattle.inquiry_commands.specs.WhatIf.{AreTried, WhatIfIsBoundedLaw, WhatIfTextIsOneLaw}

-- ---- refusals

clock_in_days : (clock : Option ℕ) → IsClock clock → IsInDays clock
clock_in_days None h = tt
clock_in_days (Some now) h = h

-- the words of a refusal have at most 30 bytes
abbrev IsShort : TrialRefusal → Type 0
IsShort r = length (cause_words r) ≤ 30

place_short : (k i : ℕ) (ps : List PassedCount) (r : TrialRefusal) → i + length ps ≤ most_waiting + 1
    → option_map refused.PassedAbove (first_above k i ps) ≡ Some r → IsShort r
place_short k i [] r few e = absurd (cc e)
place_short k i (p ∷ ps) r few e = elim (cases_Bool (nat_lt k p.count)) [
  | inl above ↦
      subst IsShort (same_Some (refused.PassedAbove i) r (rw above at e)) (omega (arith, rank_short i (omega arith)))
  | inr below ↦ place_short k (i + 1) ps r (omega arith) (rw below at e)
]

shift_short : (a : Aerodrome) (k : ℕ) (r : TrialRefusal) → IsInRange a → k ≤ greatest_k
    → shift_refusal a k ≡ Some r → IsShort r
shift_short a k r range small e = elim (cases_Bool (is_beyond a.version k a.objective)) [
  | inl beyond ↦
      subst IsShort (same_Some (refused.DelayShift k) r (rw beyond at e)) (omega (arith, rank_short k (omega arith)))
  | inr within ↦ place_short k 1 a.passed r (omega (arith, range.passed.few)) (rw within at e)
]

-- the refusal of a closure is in the words of its event
closure_short : (x : Option rules.Refusal) (r : TrialRefusal)
    → ((y : rules.Refusal) → x ≡ Some y → length (cause y) ≤ 30) → closure_refusal x ≡ Some r → IsShort r
closure_short None r h e = absurd (cc e)
closure_short (Some (rules.CoversFrozen c t)) r h e =
    subst IsShort (same_Some (refused.CoversFrozen c t) r e) (h (rules.CoversFrozen c t) refl)
closure_short (Some rules.TooManyClosures) r h e =
    subst IsShort (same_Some refused.TooManyClosures r e) (h rules.TooManyClosures refl)
closure_short (Some other) r h e = absurd (cc e)

-- ---- outcomes

-- the situation has few flights, each in its ranges
abbrev AreFewGood : Situation → Type 0
AreFewGood s = All (λ (a : Active). IsGoodFlight a.flight) s.active × (length s.active ≤ most_flights)

least_short : (s : Situation) (o : Outcome) → AreFewGood s → HasLeast s o → length (outcome_words o) ≤ 10
least_short s (Value v) good (t, best, is) = value_short v
    (omega (arith, is, schedule_low s.aerodrome.objective s.active t good.0 good.1 best.feasible.1.in_days))
least_short s Infeasible good h = omega arith
least_short s (Refused r) good h = absurd h

by_short : (s : Situation) (o : Option TrialRefusal) (outcome : Outcome) → AreFewGood s
    → ((r : TrialRefusal) → o ≡ Some r → IsShort r) → IsOutcomeBy s o outcome → length (outcome_words outcome) ≤ 38
by_short s None outcome good h is = omega (arith, least_short s outcome good is)
by_short s (Some r) outcome good h is = rw is (omega (arith, h r refl))

module _ (a : Aerodrome) (fs : List Flight) (range : IsInRange a) (sound : IsSound (opened a fs)) where
  cause_short : (trial : Trial) (r : TrialRefusal) → IsGood trial → refusal a fs trial ≡ Some r → IsShort r
  cause_short (Shift k) r good e = shift_short a k r range good e
  cause_short (Close from to) r good e = closure_short (rules.refusal (opened a fs) (rules.Close (from, to))) r (λ y is.
      refusal_short (opened a fs) sound (rules.Close (from, to)) y (clock_in_days a.clock range.clock) good tt is) e

  few_good : (trial : Trial) → AreFewGood (changed (opened a fs) trial)
  few_good (Shift k) = (sound.flights, sound.few_active)
  few_good (Close from to) = (sound.flights, sound.few_active)

  outcome_short : (trial : Trial) (outcome : Outcome) → IsGood trial → IsOutcomeOf a fs trial outcome
      → length (outcome_words outcome) ≤ 38
  outcome_short trial outcome good is = by_short
      (changed (opened a fs) trial) (refusal a fs trial) outcome (few_good trial) (λ r e. cause_short trial r good e) is

  line_short : (i : ℕ) (trial : Trial) (outcome : Outcome)
      → i ≤ most_waiting → IsGood trial → IsOutcomeOf a fs trial outcome → length (trial_line i outcome) ≤ 48
  line_short i trial outcome few good is =
      simp length-append (omega (arith, rank_short i few, outcome_short trial outcome good is))

  lines_short : (i : ℕ) (trials : List Trial) (outcomes : List Outcome) → i + length trials ≤ most_waiting
      → All IsGood trials
      → AllZip (IsOutcomeOf a fs) trials outcomes → length (trial_lines i outcomes) ≤ 48 * length trials
  lines_short i [] [] few good are = omega arith
  lines_short i [] (o ∷ outcomes) few good are = absurd are
  lines_short i (t ∷ trials) [] few good are = absurd are
  lines_short i (t ∷ trials) (o ∷ outcomes) few good are = omega (
    arith,
    line_short i t o (omega arith) (All-head IsGood t trials good) are.0,
    lines_short (i + 1) trials outcomes (omega arith) (All-tail IsGood t trials good) are.1,
    length-append (trial_line i o) (trial_lines (i + 1) outcomes),
  )

  pub outcomes_short : (trials : List Trial) (outcomes : List Outcome) → All IsGood trials → length trials ≤ most_trials
      → AreOutcomes a fs trials outcomes → length (outcomes_text outcomes) ≤ outcomes_bound (length trials)
  outcomes_short trials [] good few are = absurd are
  outcomes_short trials (base ∷ rest) good few are =
      let first = least_short (opened a fs) base (sound.flights, sound.few_active) are.0 in
      simp length-append (omega (arith, lines_short 1 trials rest (omega arith) good are.1))

-- ---- texts

pub what_if_short : WhatIfIsBoundedLaw
what_if_short a f t text answer x =
    let tried = x.holds.0 in
    let lines = outcomes_short x.aerodrome x.flights tried.range tried.sound x.third tried.outcomes
    tried.good tried.few tried.are in
    let long = ap length tried.prints in
    subst (λ r. length text ≤ outcomes_bound (count_in r)) (sym x.third_read) (omega (arith, lines, long))

pub what_if_one : OutcomesAreOneLaw → WhatIfTextIsOneLaw
what_if_one law a f t text other answer another x y =
    let here = x.holds in
    let there = same_three _ a f t _ x _ y (λ b fs ts. AreTried b fs ts other × (another ≡ Tried)) y.holds in
    let outcomes = law x.aerodrome x.flights x.third here.0.outcomes there.0.outcomes here.0.are there.0.are in
    (here.0.prints ∙ ap outcomes_text outcomes ∙ sym there.0.prints, here.1 ∙ sym there.1)
