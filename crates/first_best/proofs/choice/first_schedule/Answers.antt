use Rattle.std.proofs.Common.{ℕ, ◌≤◌, length, ap, ◌∙◌, arith}
use Rattle.landing_joint.specs.CompletingPairs.{CanChoose, IsCompletingPair}
use Rattle.first_best.proofs.choice.first_schedule.Goals.{After-least_choice-rank}
use Rattle.std.specs.Prelude.{replicate}
use Rattle.std.proofs.lemmas.List.{length-replicate}
use Rattle.first_best.proofs.ChoiceLemmas.{chosen_by, no_order, one_landing, whole_order}
use Rattle.first_best.proofs.choice.first_schedule.Goals as goal

pub loop-done-init : goal.loop-done-init
loop-done-init c =
    let p = c.args.problem.now in
    let blank = c.in_ok-schedule.ensures in
    no_order p c.window_laws.ensures.well_formed _ _ _ c.requires.ahead _
    (blank ∙ ap (λ n. replicate n 0) c.len.ensures.value)
    (ap length (blank ∙ ap (λ n. replicate n 0) c.len.ensures.value) ∙ length-replicate _ 0)

-- the least choice, which comes next
least : (c : goal.After-least_choice-rank) → CanChoose c.args.problem.now c.args.value
    (IsCompletingPair c.args.problem.now c.args.value) c.loop-done.invariant.landings c.least_choice-rank.result.0
    c.least_choice-rank.result.1
    × ((r t : ℕ) → CanChoose c.args.problem.now c.args.value (IsCompletingPair c.args.problem.now c.args.value)
    c.loop-done.invariant.landings r t → c.least_choice-rank.result.0 ≤ r)
least c =
    let whole = (c.stages-done-end.ensures.held c.args.problem.now c.requires.held).whole in
    chosen_by _ c.window_laws.ensures.well_formed _ _ _ c.requires.ahead c.requires.value _ _ _ _ c.loop-done.invariant
    (omega arith) _ _ c.budget_of-budget.ensures _ c.stage.ensures c.least_choice-rank.ensures.least

pub set-requires : goal.set-requires
set-requires c =
    let chosen = least (goal.at.set-requires c).After-least_choice-rank in
    let fits = chosen.0.legal.0.fits in
    let high = fits.to_count in
    let room = c.loop-done.invariant.room in
    (fits.from_one, omega arith)

pub cost-requires-clause-rank : goal.cost-requires-clause-rank
cost-requires-clause-rank c =
    let chosen = least (goal.at.cost-requires-clause-rank c).After-least_choice-rank in
    let fits = chosen.0.legal.0.fits in
    (fits.from_one, fits.to_count)

pub cost-requires-clause-second : goal.cost-requires-clause-second
cost-requires-clause-second c = c.least_choice-rank.ensures.in_days

pub with_rank-before-requires : goal.with_rank-before-requires
with_rank-before-requires c =
    let chosen = least (goal.at.with_rank-before-requires c).After-least_choice-rank in
    let high = chosen.0.legal.0.fits.to_count in
    let few = c.window_laws.ensures.well_formed.few_flights in
    omega arith

pub loop-done-preserved : goal.loop-done-preserved
loop-done-preserved c =
    let chosen = least (goal.at.loop-done-preserved c).After-least_choice-rank in
    let p = c.args.problem.now in
    let v = c.args.value in
    let stages = c.args.ahead.now in
    let done = c.loop-done.done in
    let after = c.with_rank-before in
    let days = c.least_choice-rank.ensures.in_days in
    let price = c.from-cost.result in
    let made = one_landing p c.window_laws.ensures.well_formed v _ stages c.requires.ahead c.requires.value done _ _ _
    c.loop-done.invariant c.least_choice-rank.result.0 c.least_choice-rank.result.1 chosen.0 chosen.1 days after.result
    after.ensures.placed after.ensures.last after.ensures.earliest price (c.from-cost.ensures ∙ c.cost.ensures.value)
    (omega arith) in
    rw c.set.ensures made

pub returns : goal.returns
returns c =
    let p = c.args.problem.now in
    let whole = (c.stages-done-end.ensures.held p c.requires.held).whole in
    whole_order p c.window_laws.ensures.well_formed _ _ _ c.requires.ahead c.requires.value _ _ _ _
    c.loop-done.invariant (omega arith)
