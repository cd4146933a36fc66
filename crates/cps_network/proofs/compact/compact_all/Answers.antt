use Rattle.std.proofs.Common.{[], get_or, arith, ◌∙◌, subst}
use Rattle.std.specs.Prelude.{Bool, true, false}
use Rattle.std.specs.Fn.{FnReturnsAt}
use Rattle.cps_network.proofs.CompactLemmas.{IsCompacting-start, next_same, zip_more, skipped, brought}
use Rattle.cps_network.proofs.compact.compact_all.Goals as goal

pub loop-i-init : goal.loop-i-init
loop-i-init g c = ([], tt, IsCompacting-start _, IsCompacting-start _)

pub loop-i-preserved-then-not-keep : goal.loop-i-preserved-then-not-keep
loop-i-preserved-then-not-keep g c =
    let says : FnReturnsAt g.F.Fn c.args.keep.now (get_or c.args.labels.now.items c.loop-i.i c.index.result.now) false =
    subst (λ (b : Bool). FnReturnsAt g.F.Fn c.args.keep.now
    (get_or c.args.labels.now.items c.loop-i.i c.index.result.now) b) c.if-not-keep.true (record {
      shown = c.index.result;
      shows = c.index.ensures ∙ next_same _ _ _ _ c.loop-i.i c.index.result.now c.loop-i.invariant.2;
      says = record { met = c.keep.ensures };
    }) in (
      _,
      zip_more _ _ _ c.loop-i.i false c.index.result.now (omega arith) c.loop-i.invariant.1 says,
      skipped _ _ _ _ _ c.index.result.now (omega arith) c.loop-i.invariant.2,
      skipped _ _ _ _ _ [] (omega arith) c.loop-i.invariant.3,
    )

pub loop-i-preserved : goal.loop-i-preserved
loop-i-preserved g c =
    let says : FnReturnsAt g.F.Fn c.args.keep.now (get_or c.args.labels.now.items c.loop-i.i c.index.result.now) true =
    subst (λ (b : Bool). FnReturnsAt g.F.Fn c.args.keep.now
    (get_or c.args.labels.now.items c.loop-i.i c.index.result.now) b) c.if-not-keep.false (record {
      shown = c.index.result;
      shows = c.index.ensures ∙ next_same _ _ _ _ c.loop-i.i c.index.result.now c.loop-i.invariant.2;
      says = record { met = c.keep.ensures };
    }) in (
      _,
      zip_more _ _ _ c.loop-i.i true c.index.result.now (omega arith) c.loop-i.invariant.1 says,
      brought _ _ _ _ _ _ c.index.result.now (omega arith) c.loop-i.invariant.2 c.swap.ensures.items,
      brought _ _ _ _ _ _ [] (omega arith) c.loop-i.invariant.3 c.swap-in-loop-i.ensures.items,
    )
