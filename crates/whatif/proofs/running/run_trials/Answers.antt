use Rattle.std.proofs.Common.{arith}
use Rattle.whatif.proofs.OutcomeLemmas.{outcomes_are}
use Rattle.whatif.proofs.running.run_trials.Goals as goal

pub returns-clause-value : goal.returns-clause-value
returns-clause-value g c = outcomes_are c.args.aerodrome.now c.args.flights.now c.args.trials.now
    c.in_ok-outcomes.outcomes.items (omega (arith, c.in_ok-outcomes.ensures.len))
    (λ i d lt. c.in_ok-outcomes.ensures.each i d lt)

pub returns-clause-few : goal.returns-clause-few
returns-clause-few g c = omega (arith, c.in_ok-outcomes.ensures.len, c.requires.few)
