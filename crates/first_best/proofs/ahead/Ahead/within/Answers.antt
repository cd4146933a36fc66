use Rattle.std.proofs.Common.{Some}
use Rattle.std.proofs.lemmas.Result.{IfOk-weaker}
use Rattle.replan.specs.Kept.{held_of}
use Rattle.first_best.specs.Stages.{HasEachList, IsAheadBy, IsAheadWithin, ListsAllOfUse}
use Rattle.first_best.proofs.AheadLemmas.{all_of_use, each_listed}
use Rattle.first_best.proofs.ahead.Ahead.within.Goals as goal

pub returns-clause-made : goal.returns-clause-made
returns-clause-made c = rw c.budget_of-budget.ensures at c.stages_ahead.ensures

pub returns-clause-lists : goal.returns-clause-lists
returns-clause-lists c =
    let p = c.args.problem.now in
    let held = held_of c.args.kept.now in
    IfOk-weaker c.stages_ahead.result (IsAheadBy p c.args.value (Some c.budget_of-budget.result) held)
    (HasEachList p held) (each_listed p _ (Some c.budget_of-budget.result) held) c.stages_ahead.ensures

pub returns-clause-useful : goal.returns-clause-useful
returns-clause-useful c =
    let p = c.args.problem.now in
    let held = held_of c.args.kept.now in
    let made = rw c.budget_of-budget.ensures at c.stages_ahead.ensures in
    IfOk-weaker c.stages_ahead.result (IsAheadWithin p c.args.value held) (ListsAllOfUse p c.args.value held)
    (λ s a. all_of_use p _ held s a c.window_laws.ensures.network c.window_laws.ensures.tell
    (c.stages-held.ensures.held p c.requires)) made
