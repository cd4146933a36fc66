-- A replay goes on by one event, or stops there.
use Rattle.std.specs.Prelude.{⊤, Bool, is_some}
use Rattle.std.proofs.Common.{◌≡◌, ◌⊎◌, ℕ, ◌+◌, List, [], ◌∷◌, ◌++◌, length, Option, Some, None, MatchOption, Result}
use Rattle.std.proofs.Common.{Ok, Err, OnOk, IfErr, inl, inr, refl, sym, ap, subst, ◌∙◌, arith, append_assoc}
use Rattle.std.proofs.lemmas.List.{append-nil, length-append}
use Rattle.cps_outside.specs.Puts.{Wrote, WrotePart, BreaksOff, StopsShort}
use Rattle.cps_outside.specs.SinkState.{SinkState}
use Rattle.landing_rules.specs.Events.{State, Event, Refusal, Step, Answered, Run}
use Rattle.landing_rules.specs.Text.{Bytes, answer_text, answers_text, replay_text, begun_text}
use Rattle.situations.specs.declared.refusal.Refusal as code
use Rattle.situations.specs.Answers.{refusal_of}
use Rattle.replays.proofs.LongerRuns.{Run-push, answers_text-push, last_state-push}
use Rattle.replays.proofs.Written.{wrote_after, failed_after}
use Rattle.replays.specs.declared.stops.Stop.{Stop}
use Rattle.replays.specs.declared.stops.Stop.TheVariants as stop
use Rattle.replays.specs.Runs.{PutsAnswer, ReplayEnds, ReplayStands, last_state}
use Rattle.replays.specs.Written.{PutsText}

-- one event: its step, and its text
pub record Answers (old new : State) (i : ℕ) (e : Event) (P : Bytes → Type 0) : Type 0 where
  pub answer : Option Refusal
  pub step : Step old e answer new
  pub written : P (answer_text i answer new)

-- a step and the put of its text, or memory ran out before it had one
abbrev pub StepWrites : State → State → ℕ → Event → SinkState → SinkState → Result (Unit {0}) Stop → Type 0
StepWrites old new i e from to r = Answers old new i e (λ text. PutsText text from to r)
    ⊎ ((to ≡ from) × (r ≡ Err stop.NoMemory))

-- an event was refused, or memory ran out
refused : (old new : State) (i : ℕ) (e : Event) (from to : SinkState)
    (r : Result (Unit {0}) Stop) (found : Option Refusal) → MatchOption found ⊤ (λ a. Step old e (Some a) new)
    → MatchOption found ((to ≡ from) × (r ≡ Err stop.NoMemory)) (λ a. PutsText (answer_text i (Some a) new) from to r)
    → StepWrites old new i e from to r
refused old new i e from to r None step put = inr put
refused old new i e from to r (Some a) step put = inl (record { answer = Some a; step = step; written = put })

-- an event was tried, and what came of it is put
pub tried : (old new : State) (i : ℕ) (e : Event) (from to : SinkState)
    (r : Result (Unit {0}) Stop) (outcome : Result (Unit {0}) code.Refusal) → OnOk outcome (Step old e None new)
    → IfErr outcome (λ fault. MatchOption (refusal_of fault) ⊤ (λ a. Step old e (Some a) new))
    → PutsAnswer new i outcome from to r → StepWrites old new i e from to r
tried old new i e from to r (Ok u) accepted fault put = inl (record { answer = None; step = accepted; written = put })
tried old new i e from to r (Err found) accepted fault put = refused old new i e from to r (refusal_of found) fault put

-- what was done of the events, and what is left
pub record Done (old : State) (events : List Event) (from : SinkState) (i : ℕ) (state : State)
    (rest : List Event) (to : SinkState) : Type 0 where
  pub done : List Event
  pub split : done ++ rest ≡ events
  pub answers : List Answered
  pub run : Run old done answers
  pub as_many : length answers ≡ length done
  pub last : state ≡ last_state old answers
  pub number : i ≡ 1 + length answers
  pub written : Wrote (1 + length done) from to (replay_text old answers)

-- the opening plan was written
pub begins : (old : State) (events : List Event) (from to : SinkState) → Wrote 1 from to (begun_text old)
    → Done old events from 1 old events to
begins old events from to w = record {
  done = [];
  split = refl;
  answers = [];
  run = tt;
  as_many = refl;
  last = refl;
  number = omega arith;
  written = subst (λ (t : Bytes). Wrote 1 from to t) (sym (append-nil (begun_text old))) w;
}

text_longer : (old : State) (i : ℕ) (answers : List Answered) (a : Answered) → i ≡ 1 + length answers
    → replay_text old answers ++ answer_text i a.answer a.state ≡ replay_text old (answers ++ a ∷ [])
text_longer old i answers a e = append_assoc (begun_text old) (answers_text 1 answers) (answer_text i a.answer a.state)
    ∙ ap (λ (t : Bytes). begun_text old ++ t)
    (ap (λ (n : ℕ). answers_text 1 answers ++ answer_text n a.answer a.state) e ∙ sym (answers_text-push 1 answers a))

-- the run with one more event
longer : (old state new : State) (events : List Event) (from to : SinkState) (i : ℕ) (e : Event) (rest : List Event)
    (P : Bytes → Type 0) (d : Done old events from i state (e ∷ rest) to) (a : Answers state new i e P)
    → ReplayStands old events ((1 + length d.done) + 1) (replay_text old d.answers ++ answer_text i a.answer new)
longer old state new events from to i e rest P d a =
    let one : Answered = record { answer = a.answer; state = new } in
    record {
      done = d.done ++ e ∷ [];
      rest = rest;
      split = append_assoc d.done (e ∷ []) rest ∙ d.split;
      count = omega (arith, length-append d.done (e ∷ []));
      answers = d.answers ++ one ∷ [];
      run = Run-push old d.done d.answers e one d.run (subst (λ (s : State). Step s e a.answer new) d.last a.step);
      prints = text_longer old i d.answers one d.number;
    }

pub goes_on : (old state new : State) (events : List Event) (from to to2 : SinkState)
    (i : ℕ) (e : Event) (rest : List Event) (u : Unit {0}) → Done old events from i state (e ∷ rest) to
    → StepWrites state new i e to to2 (Ok u) → Done old events from (i + 1) new rest to2
unfolding longer
goes_on old state new events from to to2 i e rest u d (inr none) = absurd (cc none.1)
goes_on old state new events from to to2 i e rest u d (inl a) =
    let one : Answered = record { answer = a.answer; state = new } in
    let more = longer old state new events from to i e rest (Wrote 1 to to2) d a in
    let answered = length-append d.answers (one ∷ []) in
    record {
      done = more.done;
      split = more.split;
      answers = more.answers;
      run = more.run;
      as_many = omega (arith, d.as_many, answered, more.count);
      last = sym (last_state-push old d.answers one);
      number = omega (arith, d.number, answered);
      written = subst (λ (n : ℕ). Wrote n from to2 (replay_text old more.answers)) more.count
          (subst (λ (t : Bytes). Wrote ((1 + length d.done) + 1) from to2 t) more.prints
          (wrote_after (1 + length d.done) 1 from to to2 (replay_text old d.answers)
          (answer_text i a.answer new) d.written a.written));
    }

-- where memory ran out nothing was put
unput : (old new : State) (i : ℕ) (e : Event) (from to : SinkState) → StepWrites old new i e from to (Err stop.NoMemory)
    → to ≡ from
unput old new i e from to (inl a) = a.written
unput old new i e from to (inr none) = none.0

-- a step that stopped the replay
module _ (old state : State) (events : List Event) (from to : SinkState) (i : ℕ) (e : Event) (rest : List Event)
    (d : Done old events from i state (e ∷ rest) to) where
  -- what was done before stands
  stands : ReplayStands old events (1 + length d.done) (replay_text old d.answers)
  stands = record {
    done = d.done;
    rest = e ∷ rest;
    split = d.split;
    count = refl;
    answers = d.answers;
    run = d.run;
    prints = refl;
  }

  -- an answer was not written whole
  stops_unwritten : (new : State) (to2 : SinkState) → Answers state new i e (WrotePart 0 to to2 [])
      → BreaksOff (ReplayStands old events) from to2
  stops_unwritten new to2 a = record {
    puts = 1 + length d.done;
    whole = replay_text old d.answers;
    last = answer_text i a.answer new;
    stood = inr stands;
    begun = longer old state new events from to i e rest (WrotePart 0 to to2 []) d a;
    written = failed_after (1 + length d.done) from to to2 (replay_text old d.answers)
        (answer_text i a.answer new) d.written a.written;
  }

  -- memory ran out before one
  stops_short : StopsShort (1 + length events) (ReplayStands old events) from to
  stops_short = record {
    puts = 1 + length d.done;
    text = replay_text old d.answers;
    few = omega (arith, ap length d.split, length-append d.done (e ∷ rest));
    stood = stands;
    written = d.written;
  }

  pub stops : (s : Stop) (new : State) (to2 : SinkState) → StepWrites state new i e to to2 (Err s)
      → ReplayEnds old new events from to2 (Err s)
  stops stop.NotWritten new to2 (inl a) = stops_unwritten new to2 a
  stops stop.NotWritten new to2 (inr none) = absurd (cc none.1)
  stops stop.NoMemory new to2 a =
      inr (subst (λ (x : SinkState). StopsShort (1 + length events) (ReplayStands old events) from x)
      (sym (unput state new i e to to2 a)) stops_short)

-- the opening plan was not written
pub stops_at_once : (s : Stop) (old new : State) (events : List Event) (from to : SinkState)
    → PutsText (begun_text old) from to (Err s) → ReplayEnds old new events from to (Err s)
stops_at_once stop.NotWritten old new events from to a = record {
  puts = 0;
  whole = [];
  last = begun_text old;
  stood = inl (refl, refl);
  begun = record {
    done = [];
    rest = events;
    split = refl;
    count = refl;
    answers = [];
    run = tt;
    prints = sym (append-nil (begun_text old));
  };
  written = a;
}
stops_at_once stop.NoMemory old new events from to a = inl a

-- all was written
pub ends_well : (old state : State) (events rest : List Event) (from to : SinkState) (i : ℕ) (planned : Bool)
    → Done old events from i state rest to → rest ≡ []
    → planned ≡ is_some state.plan → ReplayEnds old state events from to (Ok planned)
ends_well old state events rest from to i planned d none shown =
    let all : d.done ≡ events =
    sym (append-nil d.done) ∙ ap (λ (es : List Event). d.done ++ es) (sym none) ∙ d.split in (
      shown,
      record {
        answers = d.answers;
        run = subst (λ (es : List Event). Run old es d.answers) all d.run;
        last = d.last;
        written = subst (λ (es : List Event). Wrote (1 + length es) from to (replay_text old d.answers)) all d.written;
      },
    )
