-- How long the text of a run is, answer by answer.
use Rattle.std.proofs.Common.{ℕ, ◌+◌, ◌*◌, ◌<◌, ◌≤◌, List, [], ◌∷◌, length, Option, Some, None, arith}
use Rattle.std.specs.Prelude.{All, min}
use Rattle.std.proofs.lemmas.List.{length-append, length-map}
use Rattle.std.proofs.lemmas.List.Elements.{All-head, All-tail}
use Rattle.std.proofs.lemmas.List.Sums.{count_by-le-length, length-filter}
use Rattle.landing_rules.specs.Flights.{Situation, Schedule}
use Rattle.cps_base.specs.Limits.{most_flights}
use Rattle.landing_rules.specs.Events.{Answered, Event, Refusal, Run, State, Step}
use Rattle.landing_rules.specs.Events.{active_after_clock, situation_after}
use Rattle.landing_rules.specs.Sound.{IsGoodEvent, IsSoundState}
use Rattle.landing_rules.specs.Text.{accepted_words, answer_text, answers_text, begun_text, cause, line}
use Rattle.landing_rules.specs.Text.{refused_words}
use Rattle.landing_joint.specs.StepLaws.{StepKeepsSoundLaw}
use Rattle.plan_file.specs.shared.Landings.{length_landings}
use Rattle.text_bounds.specs.Blocks.{BlockIsBoundedLaw}
use Rattle.text_bounds.specs.Replays.{HasShortName, IsInDays, IsTellable, ReplayIsBoundedLaw, answer_bound}
use Rattle.text_bounds.specs.shared.Lengths.{number_short}
use Rattle.text_bounds.specs.shared.Events.{refusal_short}

accepted_short : (i : ℕ) → i < 10000 → length (line (accepted_words i)) ≤ 20
accepted_short i few = grind (arith, length-append, number_short)

pub refused_short : (i : ℕ) (r : Refusal) → i < 10000 → length (cause r) ≤ 30 → length (line (refused_words i r)) ≤ 50
refused_short i r few short = grind (arith, length-append, number_short)

module _ (law : BlockIsBoundedLaw) where
  answer_accepted : (i : ℕ) (state : State) → i < 10000 → IsSoundState state
      → length (answer_text i None state) ≤ answer_bound (length state.situation.active)
  answer_accepted i state few sound = grind (arith, length-append, accepted_short)

  answer_refused : (i : ℕ) (r : Refusal) (state : State) → i < 10000 → length (cause r) ≤ 30
      → length (answer_text i (Some r) state) ≤ 50
  answer_refused i r state few short = grind (arith, refused_short, length-append)

-- ---- at most one flight more for each event

length-clocked : (s : Situation) (plan : Option Schedule) (h : ℕ)
    → length (active_after_clock s.aerodrome h s.active plan) ≤ length s.active
length-clocked s plan h = grind (arith, length-map, length_landings)

one_more : (s : Situation) (plan : Option Schedule) (e : Event)
    → length (situation_after s plan e).active ≤ length s.active + 1
one_more s plan e = grind (arith, length-map, length-filter, count_by-le-length, length-append, length-clocked)

clock_kept : (s : Situation) (plan : Option Schedule) (e : Event) → IsInDays s.clock → IsGoodEvent e
    → IsInDays (situation_after s plan e).clock
clock_kept s plan e h good = grind arith

module _ (law : BlockIsBoundedLaw) (keeps : StepKeepsSoundLaw) where
  -- one step keeps it, and has a short answer
  step_short : (old new : State) (e : Event) (answer : Option Refusal) (i m : ℕ) → IsTellable old
      → IsGoodEvent e → HasShortName e → i < 10000 → Step old e answer new
      → length old.situation.active < m + 1 → length new.situation.active ≤ m
      → length (answer_text i answer new) ≤ answer_bound m
  step_short old new e None i m h good name few step before after =
      let text = answer_accepted law i new few (keeps old new e None h.sound good step) in
      omega (arith, text)
  step_short old new e (Some r) i m h good name few step before after =
      let text = answer_refused law i r new few (refusal_short _ h.sound.situation e r h.clock good name (cc)) in
      omega arith

  pub next_tellable : (old new : State) (e : Event) (answer : Option Refusal) → IsTellable old
      → IsGoodEvent e → Step old e answer new
      → IsTellable new × (length new.situation.active ≤ length old.situation.active + 1)
  next_tellable old new e answer h good step = grind (arith, clock_kept, one_more)

  answers_short : (old : State) (events : List Event) (answers : List Answered) (i m : ℕ) → IsTellable old
      → All IsGoodEvent events → All HasShortName events → i + length events < 10000
      → length old.situation.active + length events ≤ m → Run old events answers
      → length (answers_text i answers) ≤ length events * answer_bound (min most_flights m)
  answers_short old [] [] i m h good names few most run = omega arith
  answers_short old [] (a ∷ answers) i m h good names few most run = absurd run
  answers_short old (e ∷ events) [] i m h good names few most run = absurd run
  answers_short old (e ∷ events) (a ∷ answers) i m h good names few most run =
      let own = All-head IsGoodEvent e _ good in
      let next = next_tellable old _ e _ h own run.0 in
      let more = next.1 in
      let one = step_short old a.state e a.answer i (min most_flights m) h own (All-head HasShortName e events names)
      (omega (arith, few)) run.0 (omega (arith, most, h.sound.situation.few_active))
      (omega (arith, most, more, next.0.sound.situation.few_active)) in
      let rest = answers_short _ events _ (i + 1) m next.0 (All-tail IsGoodEvent e _ good)
      (All-tail HasShortName e _ names) (omega (arith, few)) (omega (arith, most, more)) run.1 in
      let both = length-append (answer_text i a.answer a.state) (answers_text (i + 1) answers) in
      omega (arith, one)

  pub replay_short : ReplayIsBoundedLaw
  replay_short opening events answers h good names few run =
      let n = length opening.situation.active in
      let answers_are = answers_short opening events answers 1 (n + length events) h good names (omega (arith, few))
      (omega arith) run in
      let both = length-append (begun_text opening) (answers_text 1 answers) in
      omega (arith, both)
