use Rattle.std.proofs.Common.{◌≡◌, ℕ, ◌+◌, List, true, sym, subst, arith}
use Rattle.first_best.specs.Nodes.{node_at, LeadsTo}
use Rattle.first_best.proofs.WayLemmas.{WaysUpto, one_way, no_way, all_ways}
use Rattle.first_best.proofs.ways.ways_of.Goals.{then-leads_to+in_ok-push, else-leads_to}
use Rattle.first_best.proofs.ways.ways_of.Goals as goal

pub loop-j-preserved : goal.loop-j-preserved
loop-j-preserved c =
    let nodes = c.args.next.now.nodes in
    let j = c.loop-j.j in
    elim c.if-leads_to.branch [
      | then-leads_to+in_ok-push w ↦
          let leads = subst (LeadsTo c.args.node) c.node.ensures (c.leads_to.ensures.0 w.if-leads_to.true) in
          subst (λ v. WaysUpto c.args.node nodes (j + 1) v.items) (sym w.ways-is)
          (subst (λ (l : List ℕ). WaysUpto c.args.node nodes (j + 1) l) (sym w.in_ok-push.ensures.items)
          (one_way _ nodes j _ c.loop-j.invariant leads))
      | else-leads_to w ↦
          let none =
          λ (l : LeadsTo c.args.node (node_at nodes j)). (let t : c.leads_to.result ≡ true = c.leads_to.ensures.1
          (subst (LeadsTo c.args.node) (sym c.node.ensures) l) in let f = w.if-leads_to.false in let x : ⊥ = cc in x) in
          subst (λ v. WaysUpto c.args.node nodes (j + 1) v.items) (sym w.ways-is)
          (no_way _ nodes j _ c.loop-j.invariant none)
    ]

pub returns : goal.returns
returns c = all_ways _ _ _ _ (omega arith) c.loop-j.invariant
