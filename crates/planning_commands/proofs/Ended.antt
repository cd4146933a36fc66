-- From what a replay or an effort did to what the command says of its files.
use Rattle.std.proofs.Common.{◌≡◌, ℕ, ◌+◌, ◌<◌, List, Bool, Ok, Err, Result, length, map, refl, sym, subst, ap, ◌∙◌}
use Rattle.std.proofs.Common.{inl, inr}
use Rattle.std.specs.Prelude.{is_some, All}
use Rattle.std.proofs.lemmas.List.{length-map}
use Rattle.std.proofs.lemmas.List.Elements.{All-map}
use Rattle.cps_outside.specs.Puts.{Wrote, BreaksOff, StopsShort}
use Rattle.cps_outside.specs.SinkState.{SinkState}
use Rattle.landing_rules.specs.Events as rules
use Rattle.landing_rules.specs.Events.{State}
use Rattle.landing_rules.specs.Sound.{IsGoodEvent}
use Rattle.landing_rules.specs.Text.{replay_text}
use Rattle.arrivals.specs.declared.event.Event.{Event}
use Rattle.arrivals.specs.Seen.{event_of, IsGood}
use Rattle.replays.specs.Efforts.{effort_text}
use Rattle.replays.specs.Ends.{EffortEnds, EffortStands}
use Rattle.replays.specs.Runs.{ReplayEnds, ReplayStands}
use Rattle.replays.specs.declared.stops.Stop.{Stop}
use Rattle.replays.specs.declared.stops.Stop.TheVariants as stop
use Rattle.openings.specs.Plan.{answer_by}
use Rattle.event_log.specs.Reading.{events_of}
use Rattle.planning_commands.specs.Effort.{FollowsEffort}
use Rattle.planning_commands.specs.Replay.{FollowsReplay, IsBegun, StandsBy, count_of, ending_of}

module _ (a f e : List ℕ) (state : State) (events : List rules.Event) (old new : SinkState)
    (begun : IsBegun a f e state events) where
  -- as many events as the log has
  counted : length events ≡ count_of (events_of e)
  counted = ap length begun.holds.events_are ∙ length-map begun.third event_of ∙ sym (ap count_of begun.third_read)

  module _ (Stands : State → List rules.Event → ℕ → List ℕ → Type 0) where
    by_files : (puts : ℕ) (text : List ℕ) → Stands state events puts text → StandsBy Stands a f e puts text
    by_files puts text stands = record { state = state; events = events; begun = begun; stands = stands }

    breaks_off : BreaksOff (Stands state events) old new → BreaksOff (StandsBy Stands a f e) old new
    breaks_off ends = record {
      puts = ends.puts;
      whole = ends.whole;
      last = ends.last;
      stood = elim ends.stood [ inl none ↦ inl none | inr stood ↦ inr (by_files _ _ stood) ];
      begun = by_files _ _ ends.begun;
      written = ends.written;
    }

    stops_short : (more : ℕ) → StopsShort (more + length events) (Stands state events) old new
        → StopsShort (more + count_of (events_of e)) (StandsBy Stands a f e) old new
    stops_short more ends = record {
      puts = ends.puts;
      text = ends.text;
      few = subst (λ (n : ℕ). ends.puts < more + n) counted ends.few;
      stood = by_files _ _ ends.stood;
      written = ends.written;
    }

  pub replayed : (last : State) (r : Result Bool Stop) → ReplayEnds state last events old new r
      → FollowsReplay a f e old new (ending_of r)
  replayed last (Ok planned) ends = record {
    text = replay_text state ends.1.answers;
    admitted = record {
      state = state;
      events = events;
      begun = begun;
      answers = ends.1.answers;
      run = ends.1.run;
      prints = refl;
      answered = ap answer_by (ends.0 ∙ ap (λ (s : State). is_some s.plan) ends.1.last);
    };
    written = subst (λ (n : ℕ). Wrote (1 + n) old new (replay_text state ends.1.answers)) counted ends.1.written;
  }
  replayed last (Err stop.NotWritten) ends = breaks_off ReplayStands ends
  replayed last (Err stop.NoMemory) (inl same) = inl same
  replayed last (Err stop.NoMemory) (inr ends) = inr (stops_short ReplayStands 1 ends)

  pub effort_ended : (last : State) (r : Result Bool Stop) → EffortEnds state last events old new r
      → FollowsEffort a f e old new (ending_of r)
  effort_ended last (Ok planned) ends = record {
    text = effort_text ends.1.effort;
    admitted = record {
      state = state;
      events = events;
      begun = begun;
      effort = ends.1.effort;
      prints = refl;
      answered = ap answer_by (ends.0 ∙ ap (λ (s : State). is_some s.plan) ends.1.last);
    };
    written = subst (λ (n : ℕ). Wrote (2 + n) old new (effort_text ends.1.effort)) counted ends.1.written;
  }
  effort_ended last (Err stop.NotWritten) ends = breaks_off EffortStands ends
  effort_ended last (Err stop.NoMemory) (inl same) = inl same
  effort_ended last (Err stop.NoMemory) (inr ends) = inr (stops_short EffortStands 2 ends)

-- the events of a log with their numbers in range, as the rules see them
pub events_in_range : (log : List Event) → All IsGood log → All IsGoodEvent (map event_of log)
events_in_range log good = All-map IsGoodEvent event_of log good
