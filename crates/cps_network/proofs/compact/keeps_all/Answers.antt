use Rattle.std.proofs.Common.{◌≡◌, ◌+◌, List, Bool, true, length, take, get_or, ap, subst, ◌∙◌, arith}
use Rattle.std.specs.Prelude.{replicate, vec_len}
use Rattle.std.specs.Fn.{FnReturnsAt}
use Rattle.std.specs.List.{AllZip}
use Rattle.std.proofs.lemmas.Bool.{and_parts}
use Rattle.std.proofs.lemmas.List.{replicate_more, take_all}
use Rattle.cps_network.proofs.CompactLemmas.{zip_more}
use Rattle.cps_network.proofs.compact.keeps_all.Goals as goal

pub loop-label-preserved : goal.loop-label-preserved
loop-label-preserved g c = λ yes.
    let says : FnReturnsAt g.F.Fn c.args.accepts.now
    (get_or c.args.labels.now.items c.loop-label.label-index c.label-item.result) true =
    subst (λ (b : Bool). FnReturnsAt g.F.Fn c.args.accepts.now
    (get_or c.args.labels.now.items c.loop-label.label-index c.label-item.result) b) ((and_parts _ _ yes).1) (record {
      shown = _;
      shows = c.label-item.is ∙ ap (λ (xs : List _). get_or xs c.loop-label.label-index c.label-item.result)
          c.deref-label-items.ensures.value;
      says = record { met = c.accepts-all.ensures };
    }) in
    subst (AllZip (FnReturnsAt g.F.Fn c.args.accepts.now) (take (c.loop-label.label-index + 1) c.args.labels.now.items))
    (replicate_more c.loop-label.label-index true)
    (zip_more _ _ _ c.loop-label.label-index true c.label-item.result
    (omega (arith, c.loop-label-test.true, ap length c.deref-label-items.ensures.value))
    (c.loop-label.invariant ((and_parts _ _ yes).0)) says)

pub returns : goal.returns
returns g c = λ yes.
    let R = FnReturnsAt g.F.Fn c.args.accepts.now in
    let end : c.loop-label.label-index ≡ vec_len c.args.labels.now = omega (
      arith,
      c.loop-label-test.false,
      c.loop-label.auto.label-index-end,
      ap length c.deref-label-items.ensures.value,
    ) in
    subst (λ (zs : List _). AllZip R zs (replicate (vec_len c.args.labels.now) true))
    (take_all (vec_len c.args.labels.now) c.args.labels.now.items (omega arith))
    (subst (λ m. AllZip R (take m c.args.labels.now.items) (replicate m true)) end (c.loop-label.invariant yes))
