use Rattle.std.proofs.Common.{◌≤◌, ℕ, rules, sym, subst}
use Rattle.cps_base.specs.Limits.{greatest_value}
use Rattle.cert_check.specs.Landings.{Landings}
use Rattle.cert_check.specs.Meaning.{IsShownOptimal}
use Rattle.cert_check.specs.WholeLaws.{landings_in}
use Rattle.cert_check.specs.shared.Values.{objective_low}
use Rattle.cert_writer.proofs.answer.answer_of.Goals as goal

pub returns-in_ok-landings-in-Some-clause-answered : goal.returns-in_ok-landings-in-Some-clause-answered
returns-in_ok-landings-in-Some-clause-answered c =
    let p = c.args.problem.now in
    let t = c.in-Some.schedule.now in
    let a = c.in_ok-landings-in-Some.ensures.listed in
    subst (λ (ls : Landings). IsShownOptimal p ls c.value_of-value.result) (sym a.listed)
    (subst (λ (v : ℕ). IsShownOptimal p (landings_in p t a.order) v) (sym c.value_of-value.ensures)
    (c.best_lists_are_shown.ensures p t a.order c.head-well_formed.ensures.well_formed (search rules)
    a.whole.whole a.whole.ranks a.whole.distinct))

pub returns-in_ok-landings-in-Some-clause-claim : goal.returns-in_ok-landings-in-Some-clause-claim
returns-in_ok-landings-in-Some-clause-claim c =
    subst (λ (v : ℕ). v ≤ greatest_value) (sym c.value_of-value.ensures) (objective_low
    c.args.problem.now c.in-Some.schedule.now c.head-well_formed.ensures.well_formed c.seconds_are_in_days.ensures)
