use Rattle.std.proofs.Common.{◌<◌, ◌≤◌, length, arith, rules, tests}
use Rattle.landing_rules.specs.Rules.{last_second}
use Rattle.cps_network.specs.Pairs.{list_at}
use Rattle.first_best.specs.Nodes.{node_at}
use Rattle.first_best.specs.Choices.{IsLesserBy}
use Rattle.first_best.proofs.ChoiceLemmas.{LeastUpto, least_upto, none_upto, one_upto}
use Rattle.cps_base.specs.laws.Folds.{kept_by_fold_of_range}
use Rattle.cps_base.specs.laws.FoldCalls.{fold_of_range_may_call}
use Rattle.first_best.proofs.choice.least_choice.Goals as goal

pub fold-requires-clause-callable : goal.fold-requires-clause-callable
fold-requires-clause-callable c =
    fold_of_range_may_call _ _ (search (rules, tests)) (λ a x b q k. search (rules, tests)) (λ k a lt.
    let rank = c.requires.ranks k lt in
    let rises = c.requires.rising k in
    let listed : k < length c.args.stage.now.lists = omega arith in
    search (rules, tests))

-- the least choice of all nodes, which is in the two days
kept : (c : goal.After-fold) → LeastUpto c.args.prefix.now.problem.now c.args.prefix.now.budget c.args.prefix.now.node
    c.args.prefix.now.cost c.args.stage.now.nodes c.args.stage.now.lists c.len.result c.fold.result
    × (c.fold.result.1 ≤ last_second)
kept c =
    let p = c.args.prefix.now.problem.now in
    let nodes = c.args.stage.now.nodes in
    let lists = c.args.stage.now.lists in
    kept_by_fold_of_range _ 0 _
    (λ j least. LeastUpto p c.args.prefix.now.budget c.args.prefix.now.node c.args.prefix.now.cost nodes lists j least
    × (least.1 ≤ last_second)) (omega arith) (search (rules, tests)) c.fold.ensures.ran
    (none_upto p _ _ _ nodes lists, omega arith) (λ j least made q from below held called.
    let lesser : IsLesserBy p c.args.prefix.now.budget c.args.prefix.now.node c.args.prefix.now.cost (node_at nodes j)
    (list_at lists j) least made = search (rules, tests) in
    let days : least.1 ≤ last_second → made.1 ≤ last_second = search (rules, tests) in
    let one = one_upto p _ _ _ nodes lists j least lesser.0 (omega arith) held.0 lesser.1 in
    (search (rules, tests), (rw lesser.2 one, days held.1)))

pub returns-clause-least : goal.returns-clause-least
returns-clause-least c = least_upto _ _ _ _ _ _ _ _ c.len.ensures (λ i lt.
    let r = (c.requires.ranks i lt).1 in let few = c.len-few.ensures.well_formed.few_flights in omega arith) (kept c).0

pub returns-clause-in_days : goal.returns-clause-in_days
returns-clause-in_days c = (kept c).1
