-- What an event leaves is in step again.
use Rattle.std.proofs.Common.{◌≡◌, ℕ, Option, None, Some, sym, ap, subst, ◌∙◌}
use Rattle.std.specs.Prelude.{option_map}
use Rattle.std.proofs.lemmas.Option.{same_Some}
use Rattle.landing_rules.specs.Flights.{Situation, Schedule}
use Rattle.landing_rules.specs.Rules.{IsFeasible}
use Rattle.landing_rules.specs.Events.{Event, State, IsPlanShown, refusal, situation_after}
use Rattle.landing_rules.specs.Problem.{Problem, IsProblemOf}
use Rattle.landing_rules.specs.Sound.{IsSound, IsSoundState, IsGoodEvent}
use Rattle.landing_rules.specs.Text.{ShownPlan, plan_shown, shown_plan}
use Rattle.landing_joint.specs.ClockLaws.{ClockKeepsPlanLaw}
use Rattle.landing_joint.specs.StepLaws.{EventKeepsSoundLaw}
use Rattle.landing_joint.specs.shared.Events.{aerodrome_stays}
use Rattle.sequencer.specs.Frozen.{BeginsWithFrozen}
use Rattle.sequencer.specs.Standing.{IsInStep}
use Rattle.sequencer.proofs.Fronts.{next_begins}

feasible_shown : (s : Situation) (plan : Option Schedule) → IsPlanShown s plan → (t : Schedule)
    → plan ≡ Some t → IsFeasible s t
feasible_shown s None h t e = let w : None ≡ Some t = e in absurd (cc)
feasible_shown s (Some u) h t e = rw (same_Some u t e) at h.0.feasible

pub next_sound : EventKeepsSoundLaw → (old : State) (e : Event) (next : Situation) → IsSoundState old
    → IsGoodEvent e → refusal old.situation e ≡ None → next ≡ situation_after old.situation old.plan e → IsSound next
next_sound law old e next sound good accepted is = rw is
    (law old.situation old.plan e sound.situation good (feasible_shown old.situation old.plan sound.shown) accepted)

pub next_in_step : EventKeepsSoundLaw → (old : State) (plan : Option ShownPlan) (p : Problem) (k : ℕ) (e : Event)
    (next : Situation) (schedule : Option Schedule) (shown : Option ShownPlan) (q : Problem) (j : ℕ) → IsInStep old plan
    p k → IsGoodEvent e → refusal old.situation e ≡ None → next ≡ situation_after old.situation old.plan e → IsProblemOf
    next q → IsPlanShown next schedule → shown ≡ plan_shown (record { situation = next; plan = schedule }) → j ≡ k
    → IsInStep (record { situation = next; plan = schedule }) shown q j
next_in_step law old plan p k e next schedule shown q j h good accepted is of best seen same =
    let a : next.aerodrome ≡ old.situation.aerodrome = ap (λ s. s.aerodrome) is
    ∙ aerodrome_stays old.situation old.plan e in
    record {
      sound = record { situation = next_sound law old e next h.sound good accepted is; shown = best };
      shown = seen;
      problem_of = of;
      same_k = rw a (h.same_k ∙ sym same);
      plannable = rw a h.plannable;
    }

-- the plan shown begins with the frozen landings of the next situation
pub next_front : ClockKeepsPlanLaw → (old : State) (shown : Option ShownPlan) (p : Problem) (k : ℕ) (e : Event)
    (next : Situation) (plan : ShownPlan) → IsInStep old shown p k → refusal old.situation e ≡ None → next
    ≡ situation_after old.situation old.plan e → IsSound next → shown ≡ Some plan → BeginsWithFrozen next plan
next_front law old shown p k e next plan h accepted is sound seen =
    rw is (front old.plan h.sound.shown (sym h.shown ∙ seen) (rw is at sound))
  where
    front : (t : Option Schedule) → IsPlanShown old.situation t → option_map (shown_plan old.situation) t ≡ Some plan
        → IsSound (situation_after old.situation t e) → BeginsWithFrozen (situation_after old.situation t e) plan
    front None best e sound = let w : None ≡ Some plan = e in absurd (cc)
    front (Some t) best q sound = subst
        (BeginsWithFrozen (situation_after old.situation (Some t) e)) (same_Some (shown_plan old.situation t) plan q)
        (next_begins law old.situation t e h.sound.situation best.0.feasible accepted sound)
