-- Each turn puts down what the next window and the next open span both hold, and is done with the one that ends first.
use Rattle.std.proofs.Common.{arith, rules}
use Rattle.std.proofs.lemmas.List.{take_rest}
use Rattle.std.specs.Prelude.{◌&&◌}
use Rattle.landing_windows.specs.Runs.{maximal_in_order}
use Rattle.landing_windows.specs.Spans.{opens, AreSecondsOf}
use Rattle.landing_windows.proofs.Sweep.{one_done, other_done, flight_seconds}
use Rattle.landing_windows.proofs.open_times.OpenTimes.within.Goals as goal

pub loop-windows_left-init : goal.loop-windows_left-init
loop-windows_left-init c = search (rules, maximal_in_order)

pub loop-windows_left-preserved-then-window-span : goal.loop-windows_left-preserved-then-window-span
loop-windows_left-preserved-then-window-span c =
    grind (
      arith,
      take_rest c.loop-windows_left.windows_left.now 1,
      one_done _ _ _ _ _ _ _
          c.loop-windows_left.invariant c.in-len1-up.len_at_least c.in-len1-up-open_left.len_at_least (rw
          (c.max.ensures, c.min.ensures) at c.in_ok-add_run.ensures) (omega arith),
    )

pub loop-windows_left-preserved : goal.loop-windows_left-preserved
loop-windows_left-preserved c =
    grind (
      arith,
      take_rest c.loop-windows_left.open_left.now 1,
      other_done _ _ _ _ _ _ _
          c.loop-windows_left.invariant c.in-len1-up.len_at_least c.in-len1-up-open_left.len_at_least (rw
          (c.max.ensures, c.min.ensures) at c.in_ok-add_run.ensures) c.if-window-span.false,
    )

pub returns : goal.returns
returns c =
    let both : AreSecondsOf (λ u. opens c.args.windows.now u
    && opens c.args.self.now u) c.loop-windows_left.spans.items = search rules in
    record {
      both = both;
      flight =
          λ closures runway. flight_seconds _ _ _ _ c.spans-windows_left.ensures.in_order both runway;
    }
