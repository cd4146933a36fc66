use Rattle.std.proofs.Common.{◌≡◌, ◌-◌, ◌<◌, [], ◌∷◌, length, arith, inl, inr, sym, subst, ◌∙◌}
use Rattle.cps_theory.specs.Labels.{InPairs, NoWorse}
use Rattle.cps_network.specs.shared.PairLists.{in_append, in_left, in_right}
use Rattle.cert_writer.proofs.PairLemmas.{itself, in_replaced, replaced_in, new_in, read_in, read_same}
use Rattle.cert_writer.proofs.pairs.NodePairs.keep.Goals as goal

pub returns-then-last-pair-2-clause-covers : goal.returns-then-last-pair-2-clause-covers
returns-then-last-pair-2-clause-covers c = λ q h.
    let xs = c.self.inside.pairs.items in
    let lt : c.len-len.result - 1 < length xs = omega (arith, c.len-len.ensures, c.if-len-gt0.true) in
    let last = subst (InPairs c.index-last.result.now) c.self.view_is
    (read_in xs (c.len-len.result - 1) c.index-last.result.now lt c.index-last.ensures) in
    elim h [
      | inl i ↦ (q, i, itself q)
      | inr e ↦ (
        c.index-last.result.now,
        last,
        subst (NoWorse c.index-last.result.now) (sym e) (c.if-last-pair.true, c.if-last-pair-2.true),
      )
    ]

pub returns-then-pair-last-2-clause-found : goal.returns-then-pair-last-2-clause-found
returns-then-pair-last-2-clause-found c = λ q h.
    elim (in_replaced c.self.inside.pairs.items (c.len-len.result - 1) c.args.pair q h) [
      | inl i ↦ inl (subst (InPairs q) c.self.view_is i)
      | inr e ↦ inr e
    ]

pub returns-then-pair-last-2-clause-covers : goal.returns-then-pair-last-2-clause-covers
returns-then-pair-last-2-clause-covers c = λ q h.
    let xs = c.self.inside.pairs.items in
    let lt : c.len-len.result - 1 < length xs = omega (arith, c.len-len.ensures, c.if-len-gt0.true) in
    let there = new_in xs (c.len-len.result - 1) c.args.pair lt in
    elim h [
      | inl i ↦ elim (replaced_in xs (c.len-len.result - 1) c.args.pair q (subst (InPairs q) (sym c.self.view_is) i)) [
        | inl a ↦ (q, a, itself q)
        | inr e ↦
            let is : q ≡ c.index-last.result.now =
            e ∙ read_same xs (c.len-len.result - 1) c.index-last.result.now lt c.index-last.ensures in
            (c.args.pair, there, subst (NoWorse c.args.pair) (sym is) (c.if-pair-last.true, c.if-pair-last-2.true))
      ]
      | inr e ↦ (c.args.pair, there, subst (NoWorse c.args.pair) (sym e) (itself c.args.pair))
    ]

pub returns-clause-found : goal.returns-clause-found
returns-clause-found c = λ q h.
    elim (in_append q c.self.inside.pairs.items (c.args.pair ∷ []) (subst (InPairs q) c.in_ok-push.ensures.items h)) [
      | inl i ↦ inl (subst (InPairs q) c.self.view_is i)
      | inr r ↦ elim r [ inl e ↦ inr e | inr none ↦ absurd none ]
    ]

pub returns-clause-covers : goal.returns-clause-covers
returns-clause-covers c = λ q h.
    let into = sym c.in_ok-push.ensures.items in
    elim h [
      | inl i ↦ (
        q,
        subst (InPairs q) into (in_left q c.self.inside.pairs.items (c.args.pair ∷ [])
            (subst (InPairs q) (sym c.self.view_is) i)),
        itself q,
      )
      | inr e ↦ (q, subst (InPairs q) into (in_right q c.self.inside.pairs.items (c.args.pair ∷ []) (inl e)), itself q)
    ]
