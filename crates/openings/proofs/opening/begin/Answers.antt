use Rattle.std.proofs.Common.{◌≡◌, ℕ, ◌+◌, ◌-◌, ◌^◌, ◌≤◌, Option, None, Some, sym, subst, arith}
use Rattle.std.specs.Prelude.{min}
use Rattle.cps_base.specs.Tally.{raised_by}
use Rattle.landing_rules.specs.Problem.{Problem}
use Rattle.cps_network.specs.Due.{IsDue}
use Rattle.replan.specs.Bound.{most_steps}
use Rattle.std.proofs.lemmas.Result.{err_from_is_err_and}
use Rattle.endings.specs.shared.Refusing.{stops_opened}
use Rattle.openings.proofs.opening.begin.Goals as goal

pub returns-clause-planned : goal.returns-clause-planned
returns-clause-planned g c =
    let steps = c.in_ok-sequencer.ensures.steps in
    let problem : Problem = c.in_ok-sequencer.sequencer.problem in
    let due : IsDue None problem steps.0 =
    subst (λ (held : Option Problem). IsDue held problem steps.0) c.fresh-planner.ensures.none steps.1 in
    let few : steps.0 ≤ most_steps = c.due_is_small.ensures None steps.0
    (subst (λ (q : Problem). IsDue None q steps.0) (sym c.problem.ensures.value) due) in
    let rose = steps.2 in
    let raised : Some c.value.result ≡ raised_by steps.0 (Some 0) = cc in
    let value : c.value.result ≡ min (0 + steps.0) (2 ^ 64 - 1) = cc in
    let same : c.value.result ≡ steps.0 = omega (arith, value, few) in
    record {
      problem_of = c.problem.ensures.problem;
      held = c.in_ok-sequencer.ensures.holds;
      due = subst (λ (n : ℕ). IsDue None problem n) (sym same) due;
      few = omega (arith, same, few);
    }

pub returns-in_err-sequencer-clause-opened : goal.returns-in_err-sequencer-clause-opened
returns-in_err-sequencer-clause-opened g c =
    let p = err_from_is_err_and c.from_residual.result c.from_residual.ensures.1 in
    rw p.1 (stops_opened c.args.aerodrome c.args.flights.items c.in_err-sequencer.field-0.0
    p.0 c.in_err-sequencer.ensures.refused p.2)
