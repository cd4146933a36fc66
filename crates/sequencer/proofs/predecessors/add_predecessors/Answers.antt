use Rattle.std.proofs.Common.{rules}
use Rattle.std.proofs.Common.{◌≤◌, length, map, sym, ap, ◌∙◌, arith}
use Rattle.std.specs.Prelude.{◌↔◌, IsTrue}
use Rattle.std.proofs.lemmas.Bool.{false≢true}
use Rattle.std.proofs.lemmas.List.{length-map}
use Rattle.landing_rules.specs.Rules.{lists}
use Rattle.sequencer.specs.Predecessors.{IsListed}
use Rattle.sequencer.proofs.Listed.{none_added, one_added, none_more, all_added, listed_by}
use Rattle.sequencer.proofs.predecessors.add_predecessors.Goals as goal
use Rattle.sequencer.proofs.predecessors.add_predecessors.Goals.{then-lists, else-lists}

pub loop-first-init : goal.loop-first-init
loop-first-init c = none_added _ _ _

pub loop-first-preserved : goal.loop-first-preserved
loop-first-preserved c =
    let items = c.args.ranked.now.items in
    let all = map (λ a. a.now) items in
    let first = c.loop-first.first in
    let next = c.args.next in
    let low : 1 ≤ first = c.loop-first.auto.first in
    let high : first ≤ length items = let e = c.len.ensures in omega (arith, c.args.ranked.now.ok.0) in
    let listed : IsListed all first next
    ↔ IsTrue (lists c.index-follower.result.now.now.flight c.index-leader.result.now.now.flight.callsign) =
    listed_by (λ a. a.now) items first next c.index-leader.result.now c.index-follower.result.now
    (low, high) c.requires.next c.index-leader.ensures c.index-follower.ensures in
    let same = ap (λ a. lists c.index-follower.result.now.now.flight a.flight.callsign) c.leader.view_is in
    elim c.if-lists.branch [
      | then-lists w ↦ rw w.pairs-is (one_added all c.args.pairs.now c.loop-first.pairs w.add.new.self
          next first c.loop-first.invariant (listed.1 (sym same ∙ sym c.lists.ensures ∙ w.if-lists.true)) w.add.ensures)
      | else-lists w ↦ rw w.pairs-is (none_more all c.args.pairs.now c.loop-first.pairs next
          first c.loop-first.invariant (λ l. false≢true (sym w.if-lists.false ∙ c.lists.ensures ∙ same ∙ listed.0 l)))
    ]

pub returns : goal.returns
returns c = search (rules, length-map, all_added)
