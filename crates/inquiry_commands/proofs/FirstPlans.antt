-- The value of the plan that is shown is the least of the problem, and the first list joined is a first plan.
use Rattle.std.proofs.Common.{◌≡◌, Option, Some, None, sym, ap, subst, ◌∙◌, arith}
use Rattle.std.specs.Prelude.{option_map}
use Rattle.landing_rules.specs.Flights.{Schedule}
use Rattle.landing_rules.specs.Rules.{objective, IsBest}
use Rattle.landing_rules.specs.Events.{IsPlanShown, State}
use Rattle.landing_rules.specs.Problem.{joined, IsProblemOf, Problem}
use Rattle.landing_rules.specs.FirstBest.{IsFirstBestList}
use Rattle.landing_rules.specs.Sound.{IsSound}
use Rattle.landing_rules.specs.Text.{plan_shown, shown_plan, ShownPlan}
use Rattle.landing_joint.specs.CompletingPairs.{IsLeastObjective}
use Rattle.landing_joint.specs.FirstBestLaws.{FirstBestListLaw, FirstBestObjectiveLaw}
use Rattle.landing_joint.specs.ProblemLaws.{ListGivesScheduleLaw, SameObjectiveLaw, ScheduleGivesListLaw}
use Rattle.inquiry_commands.specs.FirstShown.{value_of, IsFirstShown}

module _ (gives : ListGivesScheduleLaw) (every : ScheduleGivesListLaw) (same : SameObjectiveLaw)
    (state : State) (p : Problem) (sound : IsSound state.situation) (of : IsProblemOf state.situation p) where
  -- the value that is shown is the least objective of a list
  pub shown_least : IsPlanShown state.situation state.plan → (plan : ShownPlan) → Some plan ≡ plan_shown state
      → IsLeastObjective p plan.value
  shown_least shown plan e = go state.plan shown e
    where
      best_least : (t : Schedule) → IsBest state.situation t → IsLeastObjective p (objective state.situation t)
      best_least t b =
          let g = every state.situation p t sound of b.feasible in
          record {
            attained =
                (g.0, g.1, sym (same state.situation p g.0 sound of g.1) ∙ ap (objective state.situation) (sym g.2));
            least = λ u f. (let le = b.least (joined state.situation u) (gives state.situation p u sound of f) in
                let o = same state.situation p u sound of f in omega (arith, le, o));
          }

      value_is : (t : Schedule) → Some plan ≡ Some (shown_plan state.situation t)
          → plan.value ≡ objective state.situation t
      value_is t f = (let g : plan ≡ shown_plan state.situation t = cc in ap (λ (q : ShownPlan). q.value) g)

      go : (q : Option Schedule) → IsPlanShown state.situation q → Some plan ≡ option_map (shown_plan state.situation) q
          → IsLeastObjective p plan.value
      go None s f = absurd (let x : ⊥ = cc in x)
      go (Some t) s f = subst (IsLeastObjective p) (sym (value_is t f)) (best_least t s.0)

  -- the first list joined is shown of a first plan
  pub first_shown : FirstBestListLaw → (t : Schedule) → IsFirstBestList p t → (plan : ShownPlan)
      → plan ≡ shown_plan state.situation (joined state.situation t) → IsFirstShown state.situation (Some plan)
  first_shown law t f plan e =
      record { schedule = Some (joined state.situation t); first = law state.situation p t sound of f; is = ap Some e }

  -- which costs the same
  pub first_value : FirstBestListLaw → FirstBestObjectiveLaw → IsPlanShown state.situation state.plan → (t : Schedule)
      → IsFirstBestList p t → (first plan : ShownPlan) → first ≡ shown_plan state.situation (joined state.situation t)
      → Some plan ≡ plan_shown state → value_of (Some first) ≡ value_of (plan_shown state)
  first_value law costs shown t f first plan e is = go state.plan shown is
    where
      go : (q : Option Schedule) → IsPlanShown state.situation q → Some plan ≡ option_map (shown_plan state.situation) q
          → value_of (Some first) ≡ value_of (option_map (shown_plan state.situation) q)
      go None s g = absurd (let x : ⊥ = cc in x)
      go (Some u) s g = ap Some (ap (λ (q : ShownPlan). q.value) e
          ∙ costs state.situation (joined state.situation t) u (law state.situation p t sound of f) s.0)
