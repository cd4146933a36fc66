-- From what was begun and written to what is said of traffic.
use Rattle.std.proofs.Common.{◌≡◌, ℕ, List, None, Some, map, sym, ap, ◌∙◌}
use Rattle.std.specs.Prelude.{option_map, IsSome}
use Rattle.std.proofs.lemmas.Option.{none-some}
use Rattle.landing_rules.specs.Events.{IsOpeningState}
use Rattle.landing_rules.specs.Text.{plan_shown}
use Rattle.cps_network.specs.shared.DueSteps.{all_due}
use Rattle.replan.specs.declared.any_kept.AnyKept.{AnyKept}
use Rattle.sequencer.specs.Standing.{Standing}
use Rattle.arrivals.specs.declared.aerodrome.Aerodrome.{Aerodrome}
use Rattle.arrivals.specs.declared.flight.Flight.{Flight}
use Rattle.arrivals.specs.Seen.{flight_of}
use Rattle.sequencer.specs.Opened.{opening_of}
use Rattle.traffic_gen.specs.Made.{Made}
use Rattle.traffic_lands.specs.Landing.{ShowsPlan}
use Rattle.plan_text.specs.Trial.{trial_text}
use Rattle.endings.specs.declared.ending.Answer.{Answer}
use Rattle.endings.specs.declared.ending.Ending.{Ending}
use Rattle.endings.specs.Refusing.{opening_refusal, StopsOpened}
use Rattle.endings.specs.shared.Refusing.{stops_by}
use Rattle.openings.specs.Plan.{answer_by, answer_of, IsOpened, IsPlannedAnew}
use Rattle.endings.specs.declared.ending.FilesFault.TheVariants.{Opening}
use Rattle.situations.specs.Refused.{opening_fault}
use Rattle.planning_commands.specs.Trial.{Sums, StopsTrial}

pub sums : (made : Made) (n k nodes : ℕ)
    (aerodrome : Aerodrome) (flights : List Flight) (s : Standing AnyKept) (text : List ℕ) (answer : Answer)
    → aerodrome ≡ made.aerodrome → flights ≡ made.flights → IsOpened aerodrome flights s.state
    → IsPlannedAnew s nodes → text ≡ trial_text n k nodes s.state.situation.aerodrome.objective (plan_shown s.state)
    → answer ≡ answer_of s.state.plan → ShowsPlan made → Sums made n k text answer
sums made n k nodes aerodrome flights s text answer a_is f_is opened planned prints answers shows =
    let opens : IsOpeningState (opening_of made.aerodrome) (map flight_of made.flights) s.state =
    rw (← a_is, ← f_is) opened.opens in
    let shown : IsSome s.state.plan = shows s.state opens in
    record {
      state = s.state;
      opens = opens;
      planned = shown;
      problem = s.problem;
      problem_of = planned.problem_of;
      sound = opened.sound;
      nodes = nodes;
      few = planned.few;
      candidates = all_due s.problem nodes planned.due;
      prints = prints;
      answers = answers ∙ ap answer_by shown;
    }

-- files that open are stopped by memory alone
pub stops_short : (aerodrome : Aerodrome) (flights : List Flight) (ending : Ending)
    → opening_fault aerodrome flights ≡ None → StopsOpened aerodrome flights ending → StopsTrial ending
stops_short aerodrome flights ending opens = stops_by (λ cause. opening_refusal aerodrome flights ≡ Some cause)
    (λ cause. ⊥) ending (λ cause refused. none-some _ (sym (ap (option_map Opening) opens) ∙ refused))
