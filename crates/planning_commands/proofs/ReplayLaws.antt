-- From the clause of a printed replay to the laws of its text.
use Rattle.std.proofs.Common.{◌≡◌, List, [], ◌∷◌, map, length, sym, subst, ◌∙◌}
use Rattle.std.specs.Prelude.{All}
use Rattle.std.proofs.lemmas.List.Elements.{All-head, All-tail}
use Rattle.std.proofs.Math.Seq.{take-length}
use Rattle.landing_rules.specs.Events.{State, Event, Answered, Opening, IsOpeningState, Run, Step}
use Rattle.landing_rules.specs.Flights.{Flight}
use Rattle.landing_rules.specs.Sound.{IsSound, IsSoundState, IsGoodEvent}
use Rattle.landing_joint.specs.ClockLaws.{ClockShowsPlanLaw}
use Rattle.landing_joint.specs.PassedOver.{FewPassLaw}
use Rattle.landing_joint.specs.StepLaws.{StepKeepsSoundLaw, RunKeepsSoundLaw}
use Rattle.replay_law.specs.Runs.{IsRunOf, TextLaw}
use Rattle.arrivals.specs.Seen.{flight_of}
use Rattle.sequencer.specs.Opened.{opening_of}
use Rattle.endings.specs.shared.Files.{same_three}
use Rattle.planning_commands.specs.Replay.{Starts}
use Rattle.planning_commands.specs.ReplayLaws.{TextFixesReplayLaw, ReplayIsSoundLaw, ClockIsNoDearerLaw}
use Rattle.planning_commands.specs.ReplayLaws.{FewPassReplayLaw, EachStep, IsNoDearerAfterClock}

-- a whole run is one over as many events as there are
whole_run : (o : Opening) (flights : List Flight) (events : List Event) (s : State) (xs : List Answered)
    → IsOpeningState o flights s → Run s events xs → IsRunOf o flights events (length events) s xs
whole_run o flights events s xs opens run =
    record { opened = opens; steps = subst (λ es. Run s es xs) (sym (take-length events)) run }

pub printed_same : TextLaw → TextFixesReplayLaw
printed_same law a f l text x y p q =
    let here = p.begun.holds in
    let there = same_three _ a f l _ p.begun _ q.begun (Starts q.state q.events) q.begun.holds in
    let events : p.events ≡ q.events = here.events_are ∙ sym there.events_are in
    law (opening_of p.begun.aerodrome) (map flight_of p.begun.flights) p.events (length p.events)
    (length p.events) p.state q.state p.answers q.answers
    (subst IsSound here.opens.situation here.sound.situation) here.in_range
    (whole_run _ _ p.events p.state p.answers here.opens p.run)
    (whole_run _ _ p.events q.state q.answers there.opens (subst (λ es. Run q.state es q.answers) (sym events) q.run))
    (sym p.prints ∙ q.prints)

pub printed_sound : RunKeepsSoundLaw → ReplayIsSoundLaw
printed_sound law a f l text x p =
    let begun = p.begun.holds in (begun.sound, law p.state p.events p.answers begun.sound begun.in_range p.run)

-- one step
no_dearer : ClockShowsPlanLaw → (old : State) (e : Event) (a : Answered) → IsSoundState old
    → Step old e a.answer a.state → IsNoDearerAfterClock old e a
no_dearer law old e a sound step now t is accepted shown =
    let by = rw (is, accepted) at step in law old a.state now t sound shown (sym by.answered) by.effect

-- each step of a run from a sound state
steps_no_dearer : ClockShowsPlanLaw → StepKeepsSoundLaw → (old : State) (events : List Event) (answers : List Answered)
    → IsSoundState old → All IsGoodEvent events → Run old events answers →
    EachStep IsNoDearerAfterClock old events answers
steps_no_dearer law keeps old [] [] sound good run = tt
steps_no_dearer law keeps old (e ∷ events) [] sound good run = absurd run
steps_no_dearer law keeps old [] (a ∷ answers) sound good run = absurd run
steps_no_dearer law keeps old (e ∷ events) (a ∷ answers) sound good run = (
  no_dearer law old e a sound run.0,
  steps_no_dearer law keeps a.state events answers (keeps old a.state e a.answer sound
      (All-head IsGoodEvent e events good) run.0) (All-tail IsGoodEvent e events good) run.1,
)

pub printed_no_dearer : ClockShowsPlanLaw → StepKeepsSoundLaw → ClockIsNoDearerLaw
printed_no_dearer law keeps a f l text x p =
    steps_no_dearer law keeps p.state p.events p.answers p.begun.holds.sound p.begun.holds.in_range p.run

pub printed_few_pass : FewPassLaw → FewPassReplayLaw
printed_few_pass law a f l text x p c carry waits stays =
    law p.state p.events p.answers c p.begun.holds.sound carry p.begun.holds.in_range p.run waits stays
