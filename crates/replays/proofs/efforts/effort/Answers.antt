use Rattle.std.proofs.Common.{◌≡◌, ℕ, ◌≤◌, refl, subst, sym, arith}
use Rattle.std.specs.Prelude.{None}
use Rattle.std.proofs.lemmas.List.{length-map}
use Rattle.std.proofs.lemmas.Result.{err_from_is_err_and}
use Rattle.landing_rules.specs.Problem.{Problem}
use Rattle.cps_network.specs.Due.{IsDue}
use Rattle.arrivals.specs.Seen.{event_of}
use Rattle.replan.specs.Bound.{DueIsSmall, most_steps}
use Rattle.replays.proofs.EffortLemmas.{stops_at_once, stops_after, stops_last, ends_whole}
use Rattle.replays.proofs.efforts.effort.Goals as goal

opening_few : {p q : Problem} (opening : ℕ) → p ≡ q → IsDue None q opening → DueIsSmall p → opening ≤ most_steps
opening_few opening is due small = small None opening (subst (λ (r : Problem). IsDue None r opening) (sym is) due)

pub returns-in_err-open : goal.returns-in_err-open
returns-in_err-open g c =
    let p = err_from_is_err_and c.from_residual.result c.from_residual.ensures.1 in
    let few = opening_few _ c.problem.ensures.value c.requires.planned c.due_is_small.ensures in
    record {
      outcome = rw (p.1, p.2)
          (stops_at_once c.args.opened.now.sequencer _ _ c.problem.ensures.problem c.requires.planned few
          c.in_err-open.field-0.0 c.args.opened.now.sequencer _ _ c.in_err-open.ensures);
      kept = refl;
    }

pub returns-in_err-steps : goal.returns-in_err-steps
returns-in_err-steps g c =
    let p = err_from_is_err_and c.from_residual-in_err-steps.result c.from_residual-in_err-steps.ensures.1 in
    let few = opening_few _ c.problem.ensures.value c.requires.planned c.due_is_small.ensures in
    record {
      outcome = rw (p.1, p.2)
          (stops_after c.args.opened.now.sequencer _ _ c.problem.ensures.problem c.requires.planned few
          c.in_err-steps.field-0.0 c.plan_events.new.sequencer _ _ _ c.in_ok-open.ensures c.in_err-steps.ensures);
      kept = refl;
    }

pub overflow_add-opened : goal.overflow_add-opened
overflow_add-opened g c =
    let few = opening_few _ c.problem.ensures.value c.requires.planned c.due_is_small.ensures in
    let many = length-map c.args.events.now event_of in
    omega (arith, few, c.in_ok-steps.ensures.few, many, c.requires.few)

pub returns-in_err-close : goal.returns-in_err-close
returns-in_err-close g c =
    let p = err_from_is_err_and c.from_residual-in_err-close.result c.from_residual-in_err-close.ensures.1 in
    let few = opening_few _ c.problem.ensures.value c.requires.planned c.due_is_small.ensures in
    record {
      outcome = rw (p.1, p.2)
          (stops_last c.args.opened.now.sequencer _ _ c.problem.ensures.problem c.requires.planned few
          c.in_err-close.field-0.0 c.plan_events.new.sequencer c.in_ok-steps.steps _ _ _ _
          c.in_ok-open.ensures c.in_ok-steps.ensures c.in_err-close.ensures);
      kept = refl;
    }

pub returns : goal.returns
returns g c =
    let few = opening_few _ c.problem.ensures.value c.requires.planned c.due_is_small.ensures in
    record {
      outcome = (
        c.is_planned.ensures,
        ends_whole c.args.opened.now.sequencer _ _ c.problem.ensures.problem c.requires.planned few
            c.plan_events.new.sequencer c.in_ok-steps.steps _ _ _ _ c.in_ok-open.ensures c.in_ok-steps.ensures
            c.in_ok-close.ensures,
      );
      kept = refl;
    }
