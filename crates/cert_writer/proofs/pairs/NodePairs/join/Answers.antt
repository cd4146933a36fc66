use Rattle.std.proofs.Common.{ℕ, inl, inr, arith, sym, subst, refl}
use Rattle.std.proofs.lemmas.Bool.{cases_eq}
use Rattle.cps_theory.specs.Labels.{InPairs, NoWorse, Pair}
use Rattle.cps_theory.specs.laws.LabelDominance.{no_worse_trans}
use Rattle.cps_network.specs.Pairs.{list_at, pair_at}
use Rattle.cps_network.specs.shared.PairSteps.{at_in, in_at}
use Rattle.replan.specs.Kept.{held_of}
use Rattle.replan.specs.Readers.{lists_in}
use Rattle.cert_writer.proofs.PairLemmas.{itself}
use Rattle.cert_writer.proofs.pairs.NodePairs.join.Goals as goal

pub loop-j-init : goal.loop-j-init
loop-j-init c = (λ q i. inl i, λ q i. (q, i, itself q), λ m lt. absurd (omega (arith, lt)), λ h. h)

pub loop-j-preserved : goal.loop-j-preserved
loop-j-preserved c =
    let list = list_at (lists_in (held_of c.args.kept.now) c.args.stage) c.args.i in
    let inv = c.loop-j.invariant in
    let now = c.in_ok-keep.ensures in (
      λ q i. elim (now.found q i) [
        | inl old ↦ inv.0 q old
        | inr e ↦ inr (subst (λ (x : Pair). InPairs x list) (sym e)
            (at_in list c.loop-j.j c.label.result (omega (arith, c.loop-j-test.true, c.label_count-j-end.ensures))
            (sym c.label.ensures.value)))
      ],
      λ q i. (let o = inv.1 q i in let n = now.covers o.0 (inl o.1) in (n.0, n.1, no_worse_trans n.0 o.0 q n.2 o.2)),
      λ m less. elim (cases_eq m c.loop-j.j) [
        | inl e ↦
            let n = now.covers c.label.result (inr refl) in (
              n.0,
              n.1,
              subst (λ (k : ℕ). NoWorse n.0 (pair_at list k)) (sym e) (subst (NoWorse n.0) c.label.ensures.value n.2),
            )
        | inr ne ↦
            let o = inv.2 m (omega (arith, less, ne)) in
            let n = now.covers o.0 (inl o.1) in
            (n.0, n.1, no_worse_trans n.0 o.0 (pair_at list m) n.2 o.2)
      ],
      λ h. now.in_range (inv.3 h),
    )

pub returns-clause-covers : goal.returns-clause-covers
returns-clause-covers c = λ q h.
    let list = list_at (lists_in (held_of c.args.kept.now) c.args.stage) c.args.i in
    let inv = c.loop-j.invariant in
    elim h [
      | inl old ↦ inv.1 q old
      | inr i ↦
          let a = in_at q list i in
          let o = inv.2 a.0 (let lt = a.1 in omega (arith, lt, c.loop-j-test.false, c.label_count-j-end.ensures)) in
          (o.0, o.1, subst (NoWorse o.0) a.2 o.2)
    ]
