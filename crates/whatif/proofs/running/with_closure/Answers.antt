use Rattle.std.proofs.Common.{None, sym, subst, ◌∙◌}
use Rattle.landing_rules.specs.Events.{Close}
use Rattle.landing_rules.specs.Sound.{IsSound}
use Rattle.whatif.proofs.OutcomeLemmas.{event_accepted}
use Rattle.whatif.proofs.running.with_closure.Goals as goal

pub least_of-requires-clause-sound : goal.least_of-requires-clause-sound
least_of-requires-clause-sound c =
    subst IsSound (sym c.in_ok-closed.ensures)
    (c.every_step_keeps_soundness.ensures.situation c.in_ok-situation.situation None (Close (c.args.from, c.args.to))
    (c.in_ok-situation.ensures.sound c.requires.opens.1) c.requires.span (λ t e. absurd (cc e))
    (event_accepted c.in_ok-situation.situation (c.args.from, c.args.to) (sym c.closure_refusal.ensures
    ∙ c.in_default.is)))
