use Rattle.std.proofs.Common.{sym, ◌∙◌}
use Rattle.std.proofs.lemmas.Bool.{and_parts}
use Rattle.landing_joint.specs.RankedProblem.{ranked}
use Rattle.landing_joint.specs.CompletingPairs.{is_low}
use Rattle.first_best.proofs.WayLemmas.{end_pair, not_allowed}
use Rattle.first_best.proofs.complete.cost_of.Goals as goal

pub returns-then-is_allowed-clause-least : goal.returns-then-is_allowed-clause-least
returns-then-is_allowed-clause-least c =
    let p = c.args.wanted.now.problem.now in
    let parts = and_parts (is_low p _ _) ((ranked p).is_open c.args.node.last c.args.second)
    (sym c.is_allowed.ensures ∙ c.if-is_allowed.true) in
    end_pair p _ _ _ _ _ parts.1 c.requires.second.0 parts.0 _ c.least_cost.ensures.least

pub returns-else-is_allowed-clause-least : goal.returns-else-is_allowed-clause-least
returns-else-is_allowed-clause-least c =
    let p = c.args.wanted.now.problem.now in not_allowed p _ _ _ _ _ (sym c.is_allowed.ensures ∙ c.if-is_allowed.false)
