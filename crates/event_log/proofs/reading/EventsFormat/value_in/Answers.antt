-- One event more.
use Rattle.std.proofs.Common.{ℕ, ◌<◌, ◌++◌, ◌∷◌, [], List, length, Result, Ok, Err}
use Rattle.std.specs.Prelude.{All, IfOk}
use Rattle.std.proofs.lemmas.List.Elements.{All-push}
use Rattle.arrivals.specs.declared.event.Event.{Event}
use Rattle.arrivals.specs.Seen.{IsGood}
use Rattle.event_log.specs.declared.fault.LogCause.{LogCause}
use Rattle.event_log.proofs.reading.EventsFormat.value_in.Goals as goal

one_more : (most : ℕ) (before : List Event) (r : Result Event LogCause) → IfOk r IsGood
    → IfOk r (λ x. All IsGood before → length before < most → All IsGood (before ++ x ∷ []))
one_more most before (Ok x) here = λ all room. All-push IsGood before x all here
one_more most before (Err e) here = tt

pub returns-clause-holds : goal.returns-clause-holds
returns-clause-holds c = one_more _ c.args.arg2.now c.event_by.result c.event_by.ensures.good
