-- An effort goes on by one event, or stops there.
use Rattle.std.proofs.Common.{◌≡◌, ℕ, ◌+◌, ◌*◌, ◌^◌, ◌<◌, ◌≤◌, List, [], ◌∷◌, ◌++◌, length, Err, inl, inr, refl, sym}
use Rattle.std.proofs.Common.{ap, subst, ◌∙◌, arith, append_assoc, append-nil, length-append}
use Rattle.std.specs.Prelude.{None, Some, Option, MatchOption, ⊤}
use Rattle.cps_outside.specs.Puts.{Wrote, WrotePart, BreaksOff}
use Rattle.cps_outside.specs.SinkState.{SinkState}
use Rattle.landing_rules.specs.Events.{State, Event, Refusal, Step, Answered, Run}
use Rattle.landing_rules.specs.Problem.{Problem, IsProblemOf}
use Rattle.landing_rules.specs.Text.{Bytes}
use Rattle.cps_network.specs.Due.{IsDue}
use Rattle.replan.specs.Kept.{Holds}
use Rattle.replan.specs.declared.any_kept.AnyKept.{AnyKept}
use Rattle.replays.specs.Runs.{last_state}
use Rattle.replays.specs.Written.{PutsText}
use Rattle.replays.proofs.LongerRuns.{Run-push, last_state-push}
use Rattle.replays.proofs.Written.{wrote_nothing, wrote_after, part_after, failed_after}
use Rattle.replays.specs.declared.stops.Stop.{Stop}
use Rattle.replays.specs.declared.stops.Stop.TheVariants as stop
use Rattle.sequencer.specs.Standing.{Standing}
use Rattle.plan_text.specs.Refused.{refused_text}
use Rattle.situations.specs.Answers.{refusal_of}
use Rattle.situations.specs.declared.refusal.Refusal as refusals
use Rattle.situations.specs.declared.refusal.Refusal.TheVariants as refusal
use Rattle.replan.specs.Bound.{most_steps}
use Rattle.replays.specs.Efforts.{Planned, TakesSteps, IsPlanned, Plannings, Effort, answers_of, steps_of, last_problem}
use Rattle.replays.specs.Efforts.{begun_line, answer_line, answer_lines, total_line}
use Rattle.replays.specs.Ends.{Plans, PlansWith, StepPlans, AllPlan, LinesStand, EventsPlan, EffortStands, EffortTells}
use Rattle.replays.specs.Ends.{EffortEnds}
use Rattle.replays.proofs.Chains.{answers-push, planned-push, last_problem-push, steps-push, lines-push}

-- what was done of the events, and what is left
pub record Done (old : Standing AnyKept) (events : List Event) (from : SinkState) (i : ℕ) (now : Standing AnyKept)
    (rest : List Event) (to : SinkState) (total : ℕ) : Type 0 where
  pub done : List Event
  pub split : done ++ rest ≡ events
  pub plannings : Plannings old.problem old.state done
  pub state : now.state ≡ last_state old.state (answers_of plannings.planned)
  pub problem : now.problem ≡ last_problem old.problem plannings.planned
  pub held : Holds now.planner now.problem
  pub number : i ≡ 1 + length plannings.planned
  pub as_many : length plannings.planned ≡ length done
  pub total_is : total ≡ steps_of plannings.planned
  pub few : total ≤ length done * most_steps
  pub written : Wrote (length done) from to (answer_lines 1 plannings.planned)

pub begins : (old : Standing AnyKept) (events : List Event) (from : SinkState)
    → Holds old.planner old.problem → from.puts < 2 ^ 64 → Done old events from 1 old events from 0
begins old events from held fits = record {
  done = [];
  split = refl;
  plannings = record { planned = []; run = tt; steps = tt };
  state = refl;
  problem = refl;
  held = held;
  number = omega arith;
  as_many = refl;
  total_is = refl;
  few = omega arith;
  written = wrote_nothing from fits;
}

-- ---- one event more

abbrev pub one_more : (new : Standing AnyKept) (i : ℕ) (e : Event) (now : Standing AnyKept) (steps : ℕ) (P : Bytes
    → Type 0) → PlansWith now new i e steps P → Planned
one_more new i e now steps P a = record {
  answered = record { answer = a.answer; state = new.state };
  problem = new.problem;
  steps = steps;
}

pub longer : (old now new : Standing AnyKept) (events : List Event) (from to : SinkState) (i total : ℕ)
    (e : Event) (rest : List Event) (steps : ℕ) (P : Bytes → Type 0)
    (d : Done old events from i now (e ∷ rest) to total) (a : PlansWith now new i e steps P)
    → Plannings old.problem old.state (d.done ++ e ∷ [])
longer old now new events from to i total e rest steps P d a =
    let one : Planned = one_more new i e now steps P a in
    let step : Step (last_state old.state (answers_of d.plannings.planned)) e a.answer new.state =
    subst (λ (s : State). Step s e a.answer new.state) d.state a.plans.step in
    let is : IsPlanned (last_problem old.problem d.plannings.planned) one = record {
      problem_of = a.plans.problem_of;
      steps = subst (λ (q : Problem). TakesSteps q a.answer new.problem steps) d.problem a.plans.takes;
      few = a.plans.few;
    } in
    record {
      planned = d.plannings.planned ++ one ∷ [];
      run = subst (λ (all : List Answered). Run old.state (d.done ++ e ∷ []) all)
          (sym (answers-push d.plannings.planned one))
          (Run-push old.state d.done (answers_of d.plannings.planned) e one.answered d.plannings.run step);
      steps = planned-push old.problem d.plannings.planned one d.plannings.steps is;
    }

lines_longer : (i : ℕ) (planned : List Planned) (a : Planned) → i ≡ 1 + length planned →
    answer_lines 1 planned ++ answer_line i a.answered.answer a.steps ≡ answer_lines 1 (planned ++ a ∷ [])
lines_longer i planned a e = ap (λ (n : ℕ). answer_lines 1 planned ++ answer_line n a.answered.answer a.steps) e
    ∙ sym (lines-push 1 planned a)

pub goes_on : (old now new : Standing AnyKept) (events : List Event) (from to to2 : SinkState)
    (i total : ℕ) (e : Event) (rest : List Event) (steps : ℕ) → Done old events from i now (e ∷ rest) to total
    → PlansWith now new i e steps (Wrote 1 to to2) → Done old events from (i + 1) new rest to2 (total + steps)
unfolding longer
goes_on old now new events from to to2 i total e rest steps d a =
    let one : Planned = one_more new i e now steps (Wrote 1 to to2) a in
    let done_more : length (d.done ++ e ∷ []) ≡ length d.done + 1 = length-append d.done (e ∷ []) in
    let planned_more : length (d.plannings.planned ++ one ∷ []) ≡ length d.plannings.planned + 1 =
    length-append d.plannings.planned (one ∷ []) in
    let sum_more : steps_of (d.plannings.planned ++ one ∷ []) ≡ steps_of d.plannings.planned + steps =
    steps-push d.plannings.planned one in
    record {
      done = d.done ++ e ∷ [];
      split = append_assoc d.done (e ∷ []) rest ∙ d.split;
      plannings = longer old now new events from to i total e rest steps (Wrote 1 to to2) d a;
      state = sym (ap (last_state old.state) (answers-push d.plannings.planned one)
          ∙ last_state-push old.state (answers_of d.plannings.planned) one.answered);
      problem = sym (last_problem-push old.problem d.plannings.planned one);
      held = a.plans.held;
      number = omega (arith, d.number, planned_more);
      as_many = omega (arith, d.as_many, planned_more, done_more);
      total_is = omega (arith, d.total_is, sum_more);
      few = rw done_more (omega (arith, d.few, a.plans.few));
      written = subst (λ (n : ℕ). Wrote n from to2 (answer_lines 1 (d.plannings.planned ++ one ∷ []))) (sym done_more)
          (subst (λ (t : Bytes). Wrote (length d.done + 1) from to2 t) (lines_longer i d.plannings.planned one d.number)
          (wrote_after (length d.done) 1 from to to2 (answer_lines 1 d.plannings.planned)
          (answer_line i a.answer steps) d.written a.written));
    }

-- a step that stopped the effort
module _ (old now : Standing AnyKept) (events : List Event) (from to : SinkState) (i total : ℕ) (e : Event)
    (rest : List Event) (d : Done old events from i now (e ∷ rest) to total) where
  -- the lines of the answers before stand
  stands : LinesStand old events (length d.done) (answer_lines 1 d.plannings.planned)
  stands = record {
    done = d.done;
    rest = e ∷ rest;
    split = d.split;
    count = refl;
    plannings = d.plannings;
    prints = refl;
  }

  stops_unwritten : (new : Standing AnyKept) (to2 : SinkState) (steps : ℕ)
      → PlansWith now new i e steps (WrotePart 0 to to2 []) → BreaksOff (LinesStand old events) from to2
  unfolding longer
  stops_unwritten new to2 steps a =
      let one : Planned = one_more new i e now steps (WrotePart 0 to to2 []) a in
      record {
        puts = length d.done;
        whole = answer_lines 1 d.plannings.planned;
        last = answer_line i a.answer steps;
        stood = inr stands;
        begun = record {
          done = d.done ++ e ∷ [];
          rest = rest;
          split = append_assoc d.done (e ∷ []) rest ∙ d.split;
          count = omega (arith, length-append d.done (e ∷ []));
          plannings = longer old now new events from to i total e rest steps (WrotePart 0 to to2 []) d a;
          prints = lines_longer i d.plannings.planned one d.number;
        };
        written = failed_after (length d.done) from to to2 (answer_lines 1 d.plannings.planned)
            (answer_line i a.answer steps) d.written a.written;
      }

  pub stops : (s : Stop) (new : Standing AnyKept) (to2 : SinkState) → StepPlans now new i e to to2 (Err s)
      → EventsPlan old new events from to2 (Err s)
  stops stop.NotWritten new to2 a = stops_unwritten new to2 a.0 a.1
  stops stop.NoMemory new to2 a = (
    length d.done,
    answer_lines 1 d.plannings.planned,
    stands,
    subst (λ (x : SinkState). Wrote (length d.done) from x (answer_lines 1 d.plannings.planned)) (sym a) d.written,
  )

pub ends : (old now : Standing AnyKept) (events : List Event) (from to : SinkState) (i total : ℕ) →
    Done old events from i now [] to total → AllPlan old now events total from to
ends old now events from to i total d =
    let all : d.done ≡ events = sym (append-nil d.done) ∙ d.split in
    record {
      plannings = record {
        planned = d.plannings.planned;
        run = subst (λ (es : List Event). Run old.state es (answers_of d.plannings.planned)) all d.plannings.run;
        steps = d.plannings.steps;
      };
      last = d.state;
      total_is = d.total_is;
      few = subst (λ (es : List Event). total ≤ length es * most_steps) all d.few;
      written = subst (λ (es : List Event). Wrote (length es) from to (answer_lines 1 d.plannings.planned))
          all d.written;
    }

-- ---- a refused event

refused_by : (o : Option Refusal) (old new : Standing AnyKept) (i : ℕ) (e : Event) (P : Bytes → Type 0) → (o ≡ None → ⊥)
    → MatchOption o ⊤ (λ answer. Plans old new e (Some answer) 0) → P (refused_text i o) → PlansWith old new i e 0 P
refused_by None old new i e P never plans written = absurd (never refl)
refused_by (Some answer) old new i e P never plans written =
    record { answer = Some answer; plans = plans; written = written }

none_is_memory : (fault : refusals.Refusal) → refusal_of fault ≡ None → fault ≡ refusal.Memory
none_is_memory refusal.Memory e = refl
none_is_memory fault e = cc

-- what was written of the line of a refused event
pub refused_step : (fault : refusals.Refusal) (old new : Standing AnyKept) (i : ℕ) (e : Event) (P : Bytes
    → Type 0) (text : Bytes) → (fault ≡ refusal.Memory → ⊥) →
    MatchOption (refusal_of fault) ⊤ (λ answer. Plans old new e (Some answer) 0)
    → text ≡ refused_text i (refusal_of fault) → P text → PlansWith old new i e 0 P
refused_step fault old new i e P text never plans is written =
    refused_by (refusal_of fault) old new i e P (λ none. never (none_is_memory fault none)) plans (subst P is written)

-- ---- with the opening's line before, and the total's behind

abbrev pub effort_of : (old : Standing AnyKept) (events : List Event) (opening : ℕ)
    → IsProblemOf old.state.situation old.problem → IsDue None old.problem opening →
    opening ≤ most_steps → Plannings old.problem old.state events → Effort old.state events
effort_of old events opening of opened few plannings =
    record {
      problem = old.problem;
      problem_of = of;
      opening = opening;
      opened = opened;
      few = few;
      plannings = plannings;
    }

module _ (old : Standing AnyKept) (events : List Event) (opening : ℕ) (of : IsProblemOf old.state.situation old.problem)
    (opened : IsDue None old.problem opening) (few : opening ≤ most_steps) where
  -- the opening's line, and those of the first events
  counts : (puts : ℕ) (text : Bytes) → LinesStand old events puts text
      → EffortStands old.state events (1 + puts) (begun_line opening ++ text)
  counts puts text lines = record {
    done = lines.done;
    rest = lines.rest;
    split = lines.split;
    effort = effort_of old lines.done opening of opened few lines.plannings;
    prints = inl (ap (λ n. 1 + n) lines.count, ap (λ (t : Bytes). begun_line opening ++ t) lines.prints);
  }

  none_yet : (puts : ℕ) (text : Bytes) → puts ≡ 0 → text ≡ [] → LinesStand old events puts text
  none_yet puts text none empty = record {
    done = [];
    rest = events;
    split = refl;
    count = none;
    plannings = record { planned = []; run = tt; steps = tt };
    prints = empty;
  }

  -- it was not written whole
  pub stops_at_once : (s : Stop) (new : Standing AnyKept) (from to : SinkState)
      → PutsText (begun_line opening) from to (Err s) → EffortEnds old.state new.state events from to (Err s)
  stops_at_once stop.NotWritten new from to w = record {
    puts = 0;
    whole = [];
    last = begun_line opening;
    stood = inl (refl, refl);
    begun = subst
        (EffortStands old.state events 1) (append-nil (begun_line opening)) (counts 0 [] (none_yet 0 [] refl refl));
    written = w;
  }
  stops_at_once stop.NoMemory new from to w = inl w

  -- it was, and an event's line was not
  pub stops_after : (s : Stop) (new : Standing AnyKept) (from mid to : SinkState)
      → Wrote 1 from mid (begun_line opening) → EventsPlan old new events mid to (Err s) →
      EffortEnds old.state new.state events from to (Err s)
  stops_after stop.NotWritten new from mid to w some = record {
    puts = 1 + some.puts;
    whole = begun_line opening ++ some.whole;
    last = some.last;
    stood = inr (counts some.puts some.whole (elim some.stood [
      | inl none ↦ none_yet some.puts some.whole none.0 none.1
      | inr stood ↦ stood
    ]));
    begun = subst (λ n. EffortStands old.state events n ((begun_line opening ++ some.whole) ++ some.last)) (omega arith)
        (subst (EffortStands old.state events (1 + (some.puts + 1)))
        (sym (append_assoc (begun_line opening) some.whole some.last))
        (counts (some.puts + 1) (some.whole ++ some.last) some.begun));
    written = part_after 1 some.puts from mid to (begun_line opening) some.whole some.last w some.written;
  }
  stops_after stop.NoMemory new from mid to w (puts, text, lines, some) = inr (record {
    puts = 1 + puts;
    text = begun_line opening ++ text;
    few = omega (arith, ap length lines.split, length-append lines.done lines.rest, lines.count);
    stood = counts puts text lines;
    written = wrote_after 1 puts from mid to (begun_line opening) text w some;
  })

  -- and the last line was not
  pub stops_last : (s : Stop) (new : Standing AnyKept) (total : ℕ) (from mid late to : SinkState)
      → Wrote 1 from mid (begun_line opening) → AllPlan old new events total mid late
      → PutsText (total_line (opening + total)) late to (Err s) → EffortEnds old.state new.state events from to (Err s)
  stops_last s new total from mid late to w all last = go s last
    where
      lines : Bytes
      lines = begun_line opening ++ answer_lines 1 all.plannings.planned

      wrote : Wrote (1 + length events) from late lines
      wrote = wrote_after 1 (length events) from mid late (begun_line opening)
          (answer_lines 1 all.plannings.planned) w all.written

      stood : EffortStands old.state events (1 + length events) lines
      stood = counts (length events) (answer_lines 1 all.plannings.planned) (record {
        done = events;
        rest = [];
        split = append-nil events;
        count = refl;
        plannings = all.plannings;
        prints = refl;
      })

      go : (s : Stop) → PutsText (total_line (opening + total)) late to (Err s)
          → EffortEnds old.state new.state events from to (Err s)
      go stop.NotWritten last = record {
        puts = 1 + length events;
        whole = lines;
        last = total_line (opening + total);
        stood = inr stood;
        begun = record {
          done = events;
          rest = [];
          split = append-nil events;
          effort = effort_of old events opening of opened few all.plannings;
          prints = inr (refl, omega arith, ap (λ n. lines ++ total_line (opening + n)) all.total_is);
        };
        written = failed_after (1 + length events) from late to lines (total_line (opening + total)) wrote last;
      }
      go stop.NoMemory last = inr (record {
        puts = 1 + length events;
        text = lines;
        few = omega arith;
        stood = stood;
        written = subst (λ (x : SinkState). Wrote (1 + length events) from x lines) (sym last) wrote;
      })

  -- all was written
  pub ends_whole : (new : Standing AnyKept) (total : ℕ) (from mid late to : SinkState)
      → Wrote 1 from mid (begun_line opening) → AllPlan old new events total mid late
      → Wrote 1 late to (total_line (opening + total)) → EffortTells old.state events new.state from to
  ends_whole new total from mid late to w all last =
      let planned = all.plannings.planned in
      let lines = begun_line opening ++ answer_lines 1 planned in
      let told = subst (λ (n : ℕ). Wrote 1 late to (total_line (opening + n))) all.total_is last in
      let puts : (1 + length events) + 1 ≡ 2 + length events = omega arith in
      record {
        effort = effort_of old events opening of opened few all.plannings;
        last = all.last;
        written = subst (λ (n : ℕ). Wrote n from to (lines ++ total_line (opening + steps_of planned))) puts
            (wrote_after (1 + length events) 1 from late to lines (total_line (opening + steps_of planned))
            (wrote_after 1 (length events) from mid late (begun_line opening) (answer_lines 1 planned) w all.written)
            told);
      }
