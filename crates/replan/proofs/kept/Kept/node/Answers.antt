use Rattle.std.proofs.Common.{rules, sym, ap, ◌∙◌}
use Rattle.replan.proofs.StageLemmas.{read_held}
use Rattle.replan.proofs.kept.Kept.node.Goals as goal

pub node-requires : goal.node-requires
node-requires g c = search (rules, read_held)

pub returns-in-Some-clause-placed : goal.returns-in-Some-clause-placed
returns-in-Some-clause-placed g c =
    let at = (read_held _ _ _ _ _ _ (sym c.self.view_is ∙ c.in-Some.is)
    (sym (ap (λ h. h.stages) c.held.view_is)) c.labelled.view_is c.index-labelled.ensures c.requires.stage).0 in
    rw (← at, ← c.node.ensures.value) c.placed_node.ensures.placed
