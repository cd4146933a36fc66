use Rattle.std.proofs.Common.{sym, ap, ◌∙◌}
use Rattle.std.specs.Prelude.{sum_by}
use Rattle.landing_rules.specs.Events.{frozen_landings}
use Rattle.landing_rules.specs.Problem.{frozen_cost}
use Rattle.sequencer.specs.Frozen.{delay_of}
use Rattle.sequencer.proofs.FrozenLeft.{delay_is, small_delays}
use Rattle.sequencer.proofs.problem.base.Goals as goal

pub frozen_delay-requires-clause-small : goal.frozen_delay-requires-clause-small
frozen_delay-requires-clause-small c =
    let s = c.args.situation.now in
    rw c.requires.flights (small_delays s.closures s.active c.requires.sound.flights c.requires.sound.frozen_open)

pub returns-in-Delay : goal.returns-in-Delay
returns-in-Delay c =
    let s = c.args.situation.now in
    c.frozen_delay.ensures ∙ ap (sum_by delay_of) c.requires.flights ∙ delay_is s.active
    ∙ ap (λ o. frozen_cost o (frozen_landings s)) (sym (ap (λ a. a.objective) c.fixed.ensures.value ∙ c.in-Delay.is))
