use Rattle.first_best.proofs.AheadLemmas.{held_nodes}
use Rattle.first_best.proofs.CompletingLemmas.{behind_ranges, lists_complete}
use Rattle.first_best.proofs.NodeLemmas.{rank_of}
use Rattle.first_best.proofs.ahead.stage_before.Goals as goal

pub complete-requires-clause-nodes : goal.complete-requires-clause-nodes
complete-requires-clause-nodes c =
    let p = c.args.wanted.now.problem.now in
    let found = c.in_ok-found.found in
    let are = held_nodes p _ c.window_laws.ensures.network c.window_laws.ensures.tell
    (c.stages-held.ensures.held p c.requires.held) _ c.requires.stage.1 found.items _ c.in_ok-found.ensures in
    rw c.as_slice-nodes.ensures.value (λ j lt. rank_of p _ _ c.requires.stage.0 (are.reached j lt))

pub complete-requires-clause-next : goal.complete-requires-clause-next
complete-requires-clause-next c = behind_ranges _ _ _ _ _ c.requires.next

pub returns-clause-completed : goal.returns-clause-completed
returns-clause-completed c =
    let p = c.args.wanted.now.problem.now in
    let found = c.in_ok-found.found in
    let next = c.args.next.now in
    let are = held_nodes p _ c.window_laws.ensures.network c.window_laws.ensures.tell
    (c.stages-held.ensures.held p c.requires.held) _ c.requires.stage.1 found.items _ c.in_ok-found.ensures in
    lists_complete p c.window_laws.ensures.well_formed _ _ _ found.items _ next are c.requires.next
    (rw c.as_slice-nodes.ensures.value at c.in_ok-lists.ensures)
