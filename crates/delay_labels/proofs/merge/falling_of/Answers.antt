use Rattle.std.proofs.Common.{◌≡◌, ℕ, ◌+◌, List, ◌++◌, ◌∷◌, [], drop, ap, ap₂, sym, subst, ◌∙◌}
use Rattle.std.specs.Prelude.{All}
use Rattle.std.proofs.lemmas.List.Elements.{All-push}
use Rattle.cps_theory.specs.Labels.{Pair}
use Rattle.cps_theory.specs.UndominatedPairs.{sweep}
use Rattle.cps_network.specs.Pairs.{pair_at}
use Rattle.delay_labels.specs.Bounds.{IsInDays}
use Rattle.delay_labels.proofs.ListLemmas.{sweep_more, sweep_past}
use Rattle.delay_labels.proofs.merge.falling_of.Goals as goal
use Rattle.delay_labels.proofs.merge.falling_of.Goals.{then-pair-least+in_ok-push, else-pair-least}

pub loop-pair-preserved : goal.loop-pair-preserved
loop-pair-preserved c =
    let inv = c.loop-pair.invariant in
    elim c.if-pair-least.branch [
      | then-pair-least+in_ok-push w ↦ (
          let put : c.if-pair-least.kept.items ≡ c.loop-pair.kept.items
          ++ pair_at c.args.sorted.now c.loop-pair.pair-index ∷ [] = cc (w.kept-is, w.in_ok-push.ensures.items) in (
            ap (λ (n : ℕ). c.if-pair-least.kept.items ++ sweep n (drop (c.loop-pair.pair-index + 1) c.args.sorted.now))
                w.least-is ∙ sweep_more c.args.sorted.now c.loop-pair.kept.items c.if-pair-least.kept.items
                _ c.loop-pair.pair-index c.loop-pair.least c.loop-pair-test.true w.if-pair-least.true put inv.0,
            λ days. subst (All IsInDays) (sym put)
                (All-push IsInDays c.loop-pair.kept.items (pair_at c.args.sorted.now c.loop-pair.pair-index)
                (inv.1 days) (days c.loop-pair.pair-index (0, 0) c.loop-pair-test.true)),
          )
          )
      | else-pair-least w ↦ (
          let put : c.if-pair-least.kept.items ≡ c.loop-pair.kept.items = cc w.kept-is in (
            ap₂ (λ (l : List Pair) (n : ℕ). l ++ sweep n (drop (c.loop-pair.pair-index + 1) c.args.sorted.now))
                put w.least-is ∙ sweep_past c.args.sorted.now c.loop-pair.kept.items
                _ c.loop-pair.pair-index c.loop-pair.least c.loop-pair-test.true w.if-pair-least.false inv.0,
            λ days. subst (All IsInDays) (sym put) (inv.1 days),
          )
          )
    ]
