-- One trial more.
use Rattle.std.proofs.Common.{ℕ, ◌<◌, ◌++◌, ◌∷◌, [], List, length, Result, Ok, Err}
use Rattle.std.specs.Prelude.{All, IfOk}
use Rattle.std.proofs.lemmas.List.Elements.{All-push}
use Rattle.trial_file.specs.declared.trial.Trial.{Trial}
use Rattle.trial_file.specs.declared.fault.TrialCause.{TrialCause}
use Rattle.trial_file.specs.Trials.{IsGood}
use Rattle.trial_file.proofs.reading.TrialsFormat.value_in.Goals as goal

one_more : (most : ℕ) (before : List Trial) (r : Result Trial TrialCause) → IfOk r IsGood
    → IfOk r (λ x. All IsGood before → length before < most → All IsGood (before ++ x ∷ []))
one_more most before (Ok x) here = λ all room. All-push IsGood before x all here
one_more most before (Err e) here = tt

pub returns-clause-holds : goal.returns-clause-holds
returns-clause-holds c = one_more _ c.args.arg2.now c.trial_by.result c.trial_by.ensures.good
