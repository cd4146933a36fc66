use Rattle.std.proofs.Common.{rules, ◌≡◌, ◌∙◌}
use Rattle.std.proofs.lemmas.Result.{err_from_is_err_and}
use Rattle.situations.specs.declared.refusal.Refusal.TheVariants.{Memory}
use Rattle.cps_outside.specs.Puts.{Wrote, WrotePart}
use Rattle.replays.proofs.EffortLemmas.{refused_step}
use Rattle.replays.proofs.efforts.step.Goals as goal

pub returns-in_ok-put-in-Err : goal.returns-in_ok-put-in-Err
returns-in_ok-put-in-Err g c =
    let other : c.in-Err.refusal ≡ Memory → ⊥ = search rules in
    refused_step c.in-Err.refusal _ _ _ _ (Wrote 1 _ _) c.as_slice-in-Err.result.now other c.in-Err.ensures
    (c.as_slice-in-Err.ensures.value ∙ c.in_ok-text-in-Err.ensures) (search rules)

pub returns-in_err-put-in-Err : goal.returns-in_err-put-in-Err
returns-in_err-put-in-Err g c =
    let other : c.in-Err.refusal ≡ Memory → ⊥ = search rules in
    let p = err_from_is_err_and c.from_residual-in_err-put-in-Err.result c.from_residual-in_err-put-in-Err.ensures.1 in
    rw (p.1, p.2) (
      0,
      refused_step c.in-Err.refusal _ _ _ _ (WrotePart 0 _ _ _) c.as_slice-in-Err.result.now other c.in-Err.ensures
          (c.as_slice-in-Err.ensures.value ∙ c.in_ok-text-in-Err.ensures) (search rules),
    )
