use Rattle.std.specs.Prelude.{None}
use Rattle.std.proofs.lemmas.Result.{IfOk-weaker}
use Rattle.replan.specs.Kept.{held_of}
use Rattle.first_best.specs.Stages.{IsAheadOf, IsAheadWithin, HasEachList, ListsAllCompleting}
use Rattle.first_best.proofs.AheadLemmas.{all_exact, all_within, each_listed}
use Rattle.first_best.proofs.ahead.Ahead.of.Goals as goal

pub returns-clause-lists : goal.returns-clause-lists
returns-clause-lists c =
    let p = c.args.problem.now in
    let held = held_of c.args.kept.now in
    IfOk-weaker c.stages_ahead.result (IsAheadOf p c.args.value held) (HasEachList p held)
    (each_listed p _ None held) c.stages_ahead.ensures

pub returns-clause-exact : goal.returns-clause-exact
returns-clause-exact c =
    let p = c.args.problem.now in
    let held = held_of c.args.kept.now in
    IfOk-weaker c.stages_ahead.result (IsAheadOf p c.args.value held) (ListsAllCompleting p c.args.value held)
    (λ s a. all_exact p _ held s a c.window_laws.ensures.network c.window_laws.ensures.tell
    (c.stages-held.ensures.held p c.requires)) c.stages_ahead.ensures

pub returns-clause-within : goal.returns-clause-within
returns-clause-within c =
    let p = c.args.problem.now in
    let held = held_of c.args.kept.now in
    IfOk-weaker c.stages_ahead.result (IsAheadOf p c.args.value held) (IsAheadWithin p c.args.value held)
    (all_within p _ held) c.stages_ahead.ensures
