use Rattle.std.proofs.Common.{sym, ap, ◌∙◌}
use Rattle.std.specs.Prelude.{option_map}
use Rattle.landing_rules.specs.Events.{refusal, situation_after}
use Rattle.arrivals.specs.Seen.{event_of}
use Rattle.sequencer.specs.declared.sequencer.Shown.{Shown}
use Rattle.sequencer.proofs.Kept.{next_sound, next_front, next_in_step}
use Rattle.sequencer.proofs.sequencer.Sequencer+AnyKept.advance.Goals as goal

pub planned-requires-clause-sound : goal.planned-requires-clause-sound
planned-requires-clause-sound g c = λ lives within.
    let e = event_of c.args.event.now in
    next_sound c.every_step_keeps_soundness.ensures.situation _ e c.in_ok-next.next c.self.invariant.sound
    c.requires.good (ap (λ v. refusal v.state.situation e) c.self.view_is ∙ c.requires.accepted)
    (c.in_ok-next.ensures ∙ ap (λ p. situation_after c.self.inside.situation p e) c.seconds_of.ensures)

pub planned-requires-clause-front : goal.planned-requires-clause-front
planned-requires-clause-front g c = λ lives within plan is.
    let e = event_of c.args.event.now in
    let accepted = ap (λ v. refusal v.state.situation e) c.self.view_is ∙ c.requires.accepted in
    let after = c.in_ok-next.ensures ∙ ap (λ p. situation_after c.self.inside.situation p e) c.seconds_of.ensures in
    next_front c.clock_keeps_plans.ensures.keeps _ _ c.self.inside.problem _ e c.in_ok-next.next
    plan.now c.self.invariant accepted after
    (next_sound c.every_step_keeps_soundness.ensures.situation _ e c.in_ok-next.next
    c.self.invariant.sound c.requires.good accepted after)
    (sym c.plan_in-front.ensures ∙ ap (option_map (λ p. p.now)) is)

pub invariant_of-self-2 : goal.invariant_of-self-2
invariant_of-self-2 g c =
    let e = event_of c.args.event.now in
    let plan = option_map (λ (p : Shown). p.seconds.items) c.in_ok-problem.shown in
    let shown = option_map (λ (p : Shown). p.plan) c.in_ok-problem.shown in
    next_in_step c.every_step_keeps_soundness.ensures.situation _ _ c.self.inside.problem
    _ e c.in_ok-next.next plan shown c.in_ok-problem.problem _ c.self.invariant c.requires.good
    (ap (λ v. refusal v.state.situation e) c.self.view_is ∙ c.requires.accepted)
    (c.in_ok-next.ensures ∙ ap (λ p. situation_after c.self.inside.situation p e) c.seconds_of.ensures)
    c.in_ok-problem.ensures.problem c.in_ok-problem.ensures.shown c.in_ok-problem.ensures.plan c.planned.ensures.k

pub returns-clause-step : goal.returns-clause-step
returns-clause-step g c =
    let e = event_of c.args.event.now in
    record {
      changed = c.in_ok-next.ensures ∙ ap (λ p. situation_after c.self.inside.situation p e) c.seconds_of.ensures
          ∙ ap (λ v. situation_after v.state.situation v.state.plan e) c.self.view_is;
      shown = c.in_ok-problem.ensures.shown;
    }
