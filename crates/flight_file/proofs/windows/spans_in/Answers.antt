-- One window more.
use Rattle.std.proofs.Common.{◌≡◌, ◌+◌, ◌<◌, ◌∙◌, sym, arith, length, take, Ok}
use Rattle.std.proofs.lemmas.List.{take_more_set, length-set}
use Rattle.flight_file.specs.Windows.{window_in}
use Rattle.flight_file.proofs.Parts.{window_more, days_more}
use Rattle.flight_file.proofs.windows.spans_in.Goals as goal

pub loop-rest-preserved : goal.loop-rest-preserved
loop-rest-preserved c =
    let here = rw (c.in-Some.is, c.first_part.ensures.value) at c.loop-rest.invariant in
    let below : c.loop-rest.count < length c.loop-rest.spans = omega (arith, here.1, here.2) in
    let window : window_in (c.loop-rest.count + 1) c.first_part.result.0.now ≡ Ok c.in_ok-spans.field-0 =
    sym c.window_in.ensures.value ∙ c.in_ok-spans.was in (
      rw (take_more_set c.loop-rest.spans c.loop-rest.count c.in_ok-spans.field-0 below)
          (sym (window_more (c.loop-rest.count + 1) (take c.loop-rest.count c.loop-rest.spans)
          c.first_part.result.0.now _ c.in_ok-spans.field-0 window) ∙ here.0),
      omega (arith, here.1),
      length-set c.loop-rest.spans c.loop-rest.count c.in_ok-spans.field-0 ∙ here.2,
      rw (take_more_set c.loop-rest.spans c.loop-rest.count c.in_ok-spans.field-0 below)
          (days_more (take c.loop-rest.count c.loop-rest.spans) c.in_ok-spans.field-0 here.3
          c.in_ok-spans.ensures.range),
    )
