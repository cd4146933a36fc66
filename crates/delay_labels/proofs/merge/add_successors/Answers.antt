use Rattle.std.proofs.Common.{◌≡◌, Option, ◌++◌, ◌∷◌, [], sym, subst, ◌∙◌}
use Rattle.std.specs.Prelude.{All, IfSome}
use Rattle.std.proofs.lemmas.List.Elements.{All-push}
use Rattle.cps_theory.specs.Labels.{Pair}
use Rattle.cps_network.specs.Pairs.{pair_at, successor}
use Rattle.delay_labels.specs.Bounds.{IsInDays}
use Rattle.delay_labels.proofs.ListLemmas.{one_more, none_more}
use Rattle.delay_labels.proofs.merge.add_successors.Goals as goal
use Rattle.delay_labels.proofs.merge.add_successors.Goals.{in-Some+in_ok-push-in-Some, in-None}

pub loop-pair-preserved : goal.loop-pair-preserved
loop-pair-preserved c =
    let inv = c.loop-pair.invariant in
    let value : c.successor_of.result ≡ successor c.args.landings.now.problem c.args.last
    (pair_at c.args.pairs.now c.loop-pair.pair-index) c.args.rank = c.successor_of.ensures.value in
    elim c.match-successor_of.branch [
      | in-Some+in_ok-push-in-Some w ↦ (
          let put : c.match-successor_of.into.items ≡ c.loop-pair.into.items ++ w.in-Some.next ∷ [] =
          cc (w.into-is, w.in_ok-push-in-Some.ensures.items) in
          let in_days : IsInDays w.in-Some.next =
          subst (λ (o : Option Pair). IfSome o IsInDays) w.in-Some.is c.successor_of.ensures.in_days in (
            one_more c.args.landings.now.problem c.args.last c.args.rank c.args.pairs.now c.loop-pair.into.items
                c.match-successor_of.into.items _ c.loop-pair.pair-index w.in-Some.next c.loop-pair-test.true
                (sym value ∙ w.in-Some.is) put inv.0,
            λ old. subst (All IsInDays) (sym put) (All-push IsInDays c.loop-pair.into.items w.in-Some.next
                (inv.1 old) in_days),
          )
          )
      | in-None w ↦ (
          let put : c.match-successor_of.into.items ≡ c.loop-pair.into.items = cc w.into-is in (
            none_more c.args.landings.now.problem c.args.last c.args.rank c.args.pairs.now c.loop-pair.into.items
                c.match-successor_of.into.items _ c.loop-pair.pair-index c.loop-pair-test.true
                (sym value ∙ w.in-None.is) put inv.0,
            λ old. subst (All IsInDays) (sym put) (inv.1 old),
          )
          )
    ]
