-- From the clauses of what these commands print to how long it is.
use Rattle.std.proofs.Common.{◌≡◌, ℕ, ◌+◌, ◌*◌, ◌<◌, ◌≤◌, List, [], ◌∷◌, ◌++◌, length, Option, Some, None, refl, sym}
use Rattle.std.proofs.Common.{ap, subst, ◌∙◌, arith, inl, inr}
use Rattle.std.specs.Prelude.{⊤, All, MatchOption, decimal}
use Rattle.std.proofs.Math.Nat.{mul-le-mul_left, mul-le-mul_right}
use Rattle.std.proofs.lemmas.Fmt.{length-decimal-le}
use Rattle.std.proofs.lemmas.List.{length-append, length-map}
use Rattle.std.proofs.lemmas.List.Elements.{All-nil, All-cons, All-head, All-tail}
use Rattle.std.proofs.lemmas.List.Sums.{sum_by-cons}
use Rattle.landing_rules.specs.Events as rules
use Rattle.landing_rules.specs.Events.{Refusal, Run, State, Step}
use Rattle.landing_rules.specs.Flights.{Situation}
use Rattle.cps_base.specs.Limits.{greatest_value}
use Rattle.landing_rules.specs.Problem.{Problem}
use Rattle.landing_rules.specs.Sound.{IsGoodEvent}
use Rattle.landing_rules.specs.Text.{ShownPlan, plan_shown}
use Rattle.landing_joint.specs.StepLaws.{StepKeepsSoundLaw}
use Rattle.plan_file.specs.Printed.{IsReadable, ShownPlanIsReadableLaw}
use Rattle.arrivals.specs.Aerodromes.{IsClock}
use Rattle.arrivals.specs.Seen.{event_of}
use Rattle.replan.specs.Bound.{most_steps}
use Rattle.replays.specs.Efforts.{ArePlanned, Planned, answer_line, answer_lines, answers_of, begun_line, steps_of}
use Rattle.replays.specs.Efforts.{effort_lines, effort_text, total_line}
use Rattle.text_bounds.specs.Blocks.{BlockIsBoundedLaw, block_bound}
use Rattle.text_bounds.specs.Counts.{count_in, event_count}
use Rattle.text_bounds.specs.Replays.{HasShortName, IsInDays, IsTellable, ReplayIsBoundedLaw, answer_bound, most_active}
use Rattle.text_bounds.specs.Replays.{replay_bound}
use Rattle.text_bounds.specs.Trials.{TrialIsBoundedLaw}
use Rattle.text_bounds.specs.shared.Events.{log_named, refusal_short}
use Rattle.text_bounds.specs.shared.Lengths.{number_short}
use Rattle.text_bounds.specs.shared.Replays.{next_tellable, refused_short}
use Rattle.openings.specs.shared.OpenedFlights.{as_many}
use Rattle.planning_commands.specs.Replay.{IsBegun}
use Rattle.planning_commands.specs.TextLengths.{EffortTextIsBoundedLaw, PlanTextIsBoundedLaw, ReplayTextIsBoundedLaw}
use Rattle.planning_commands.specs.TextLengths.{TrialTextIsBoundedLaw, effort_bound}

-- ---- the plan and the summary of a trial

pub plan_text_short : BlockIsBoundedLaw → PlanTextIsBoundedLaw
plan_text_short law a f text answer x =
    let active = as_many x.aerodrome x.flights x.holds.state.situation x.holds.opened.opens.situation in
    subst (λ r. length text ≤ block_bound (count_in r)) (sym x.flights_read)
    (omega (arith, law x.holds.state x.holds.opened.sound, active, ap length x.holds.prints))

has_value : (plan : Option ShownPlan) → ((p : ShownPlan) → plan ≡ Some p → IsReadable p)
    → MatchOption plan ⊤ (λ p. p.value ≤ greatest_value)
has_value None h = tt
has_value (Some p) h = (h p refl).value

pub trial_text_short : TrialIsBoundedLaw → ShownPlanIsReadableLaw → TrialTextIsBoundedLaw
trial_text_short law shown seed n k text answer few near x =
    let value = has_value (plan_shown x.state) (λ p e. shown x.state p x.sound e) in
    let short = law n k x.nodes x.state.situation.aerodrome.objective (plan_shown x.state) few near
    (omega (arith, x.few)) value in
    omega (arith, short, ap length x.prints)

-- ---- what was begun

All-first : {X : Type 0} (P : X → Type 0) (xs ys : List X) → All P (xs ++ ys) → All P xs
All-first P [] ys h = All-nil P
All-first P (x ∷ xs) ys h = All-cons P x xs (All-head P x (xs ++ ys) h) (All-first P xs ys (All-tail P x (xs ++ ys) h))

clock_in_days : (clock : Option ℕ) → IsClock clock → IsInDays clock
clock_in_days None h = tt
clock_in_days (Some now) h = h

-- the first events of a log that a run began with
module _ (a f l : List ℕ) (state : State) (events done rest : List rules.Event) (begun : IsBegun a f l state events)
    (split : done ++ rest ≡ events) where
  tellable : IsTellable state
  tellable = record {
    sound = begun.holds.sound;
    clock = subst (λ (s : Situation). IsInDays s.clock) (sym begun.holds.opens.situation)
        (clock_in_days begun.aerodrome.clock begun.holds.range.clock);
  }

  good : All IsGoodEvent done
  good = All-first IsGoodEvent done rest (subst (All IsGoodEvent) (sym split) begun.holds.in_range)

  named : All HasShortName done
  named = All-first HasShortName done rest
      (subst (All HasShortName) (sym begun.holds.events_are ∙ sym split) (log_named l begun.third begun.third_read))

  few : length done ≤ length begun.third
  few =
      let same = ap length begun.holds.events_are in
      omega (arith, length-append done rest, ap length split, same, length-map begun.third event_of)

  counted : event_count l ≡ length begun.third
  counted = ap count_in begun.third_read

-- ---- replays

rises : (n d e : ℕ) → d ≤ e → replay_bound n d ≤ replay_bound n e
rises n d e le =
    let less : answer_bound (most_active n d) ≤ answer_bound (most_active n e) = omega (arith, le) in
    let more : d + 1 ≤ e + 1 = omega (arith, le) in
    omega (arith, mul-le-mul_right (answer_bound (most_active n d)) more, mul-le-mul_left (e + 1) less)

pub replay_text_short : ReplayIsBoundedLaw → ReplayTextIsBoundedLaw
replay_text_short law a f l puts text x =
    let begun = x.begun in
    let first = x.stands in
    let fits = few a f l x.state x.events first.done first.rest begun first.split in
    let log = begun.holds.few in
    let run : length text ≤ replay_bound (length x.state.situation.active) (length first.done) =
    rw first.prints
    (law x.state first.done first.answers (tellable a f l x.state x.events first.done first.rest begun first.split)
    (good a f l x.state x.events first.done first.rest begun first.split)
    (named a f l x.state x.events first.done first.rest begun first.split) (omega (arith, fits, log)) first.run) in
    let active = as_many begun.aerodrome begun.flights x.state.situation begun.holds.opens.situation in
    let by_file : length text ≤ replay_bound (length begun.flights) (length first.done) =
    subst (λ (n : ℕ). length text ≤ replay_bound n (length first.done)) active run in
    let more = rises (length begun.flights) (length first.done) (length begun.third) fits in
    let whole : length text ≤ replay_bound (length begun.flights) (length begun.third) = omega (arith, by_file, more) in
    subst (λ r. length text ≤ replay_bound (count_in r) (event_count l)) (sym begun.flights_read)
    (subst (λ (n : ℕ). length text ≤ replay_bound (length begun.flights) n)
    (sym (counted a f l x.state x.events first.done first.rest begun first.split)) whole)

-- ---- efforts

steps_short : (n : ℕ) → n ≤ most_steps → length (decimal n) ≤ 8
steps_short n le = length-decimal-le 8 n (omega arith) (omega arith) (omega arith)

total_short : (n : ℕ) → n < 99999999999 → length (decimal n) ≤ 11
total_short n lt = length-decimal-le 11 n (omega arith) (omega arith) (omega arith)

accepted_short : (i steps : ℕ) → i < 10000 → steps ≤ most_steps → length (answer_line i None steps) ≤ 50
accepted_short i steps few small = simp length-append (omega (arith, number_short i few, steps_short steps small))

module _ (law : BlockIsBoundedLaw) (keeps : StepKeepsSoundLaw) where
  line_short : (old new : State) (e : rules.Event) (answer : Option Refusal) (i steps : ℕ) → IsTellable old
      → IsGoodEvent e → HasShortName e
      → i < 10000 → steps ≤ most_steps → Step old e answer new → length (answer_line i answer steps) ≤ 50
  line_short old new e None i steps h own name few small step = accepted_short i steps few small
  line_short old new e (Some r) i steps h own name few small step =
      refused_short i r few (refusal_short old.situation h.sound.situation e r h.clock own name (sym step.answered))

  lines_short : (held : Problem) (old : State) (events : List rules.Event) (planned : List Planned) (i : ℕ)
      → IsTellable old → All IsGoodEvent events → All HasShortName events
      → i + length events < 10000 → Run old events (answers_of planned) → ArePlanned held planned
      → (length (answer_lines i planned) ≤ 50 * length events) × (steps_of planned ≤ most_steps * length events)
  lines_short held old [] [] i h own names few run are = (omega arith, omega arith)
  lines_short held old [] (a ∷ planned) i h own names few run are = absurd run
  lines_short held old (e ∷ events) [] i h own names few run are = absurd run
  lines_short held old (e ∷ events) (a ∷ planned) i h own names few run are =
      let state = a.answered.state in
      let here = All-head IsGoodEvent e events own in
      let small = are.0.few in
      let next = next_tellable law keeps old state e a.answered.answer h here run.0 in
      let one = line_short old state e a.answered.answer i a.steps h here (All-head HasShortName e events names)
      (omega (arith, few)) small run.0 in
      let rest = lines_short a.problem state events planned (i + 1) next.0 (All-tail IsGoodEvent e events own)
      (All-tail HasShortName e events names) (omega (arith, few)) run.1 are.1 in
      let both = length-append (answer_line i a.answered.answer a.steps) (answer_lines (i + 1) planned) in
      let more = sum_by-cons (λ (b : Planned). b.steps) a planned in
      (omega (arith, one, rest.0, both), omega (arith, small, rest.1, more))

  pub effort_text_short : EffortTextIsBoundedLaw
  effort_text_short a f l puts text x =
      let begun = x.begun in
      let first = x.stands in
      let effort = first.effort in
      let planned = effort.plannings.planned in
      let fits = few a f l x.state x.events first.done first.rest begun first.split in
      let log = begun.holds.few in
      let all = lines_short effort.problem x.state first.done planned 1
      (tellable a f l x.state x.events first.done first.rest begun first.split)
      (good a f l x.state x.events first.done first.rest begun first.split)
      (named a f l x.state x.events first.done first.rest begun first.split)
      (omega (arith, fits, log)) effort.plannings.run effort.plannings.steps in
      let begins = steps_short effort.opening effort.few in
      let total = total_short (effort.opening + steps_of planned) (omega (arith, fits, log, all.1, effort.few)) in
      let u = length-append (decimal effort.opening) (10 ∷ []) in
      let v = length-append (decimal (effort.opening + steps_of planned)) (10 ∷ []) in
      let y = length-append (begun_line effort.opening) (answer_lines 1 planned) in
      let z = length-append (effort_lines effort) (total_line (effort.opening + steps_of planned)) in
      let long : length text ≤ length (effort_text effort) = elim first.prints [
        | inl so_far ↦ let few = ap length so_far.1 in omega (arith, few, z)
        | inr whole ↦ let same = ap length whole.2 in omega (arith, same)
      ] in
      let whole : length text ≤ effort_bound (length begun.third) = omega
      (arith, fits, all.0, begins, total, u, v, y, z, long) in
      subst (λ (n : ℕ). length text ≤ effort_bound n) (sym
      (counted a f l x.state x.events first.done first.rest begun first.split)) whole
