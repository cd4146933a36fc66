-- From what was checked of a problem to what a verdict says of its situation.
use Rattle.std.proofs.Common.{◌≡◌, refl, ℕ, ◌∙◌}
use Rattle.landing_rules.specs.Flights.{Situation}
use Rattle.landing_rules.specs.Problem.{Problem, IsProblemOf}
use Rattle.landing_rules.specs.Sound.{IsSound}
use Rattle.landing_joint.specs.ProblemLaws.{BestListLaw, SameObjectiveLaw, NoListLaw}
use Rattle.cert_check.specs.Landings.{Landings, seconds}
use Rattle.cert_check.specs.Meaning.{IsShownOptimal, NothingIsFeasible}
use Rattle.certificate.specs.declared.certificate.Claim.{Claim}
use Rattle.certificate.specs.declared.certificate.Claim.TheVariants as claim
use Rattle.cert_check.specs.Whole.{IsAnswered}
use Rattle.cert_check.specs.WholeLaws.{claimed}
use Rattle.cert_check.specs.declared.verdict.Verdict.{Verdict}
use Rattle.cert_check.specs.declared.verdict.Verdict.TheVariants as verdict
use Rattle.certificate_commands.specs.Verdicts.{IsTrueOf}

module _ (s : Situation) (p : Problem) (ls : Landings) (best : BestListLaw) (same : SameObjectiveLaw) (none : NoListLaw)
    (sound : IsSound s) (of : IsProblemOf s p) where
  -- a claim with its answer is true of the situation
  pub claim_true : (c : Claim) → IsAnswered p c ls → IsTrueOf s p ls (claimed c)
  claim_true (claim.Optimal v) shown = record {
    best = best s p (seconds p ls) sound of shown.best;
    objective = same s p (seconds p ls) sound of shown.best.feasible ∙ shown.value;
  }
  claim_true claim.Infeasible answer = none s p sound of answer.1

  -- so is a verdict on its problem
  pub true_of : (v : Verdict) → ((n : ℕ) → v ≡ verdict.Optimal n → IsShownOptimal p ls n)
      → (v ≡ verdict.Infeasible → NothingIsFeasible p) → IsTrueOf s p ls v
  true_of (verdict.Optimal n) optimal infeasible = claim_true (claim.Optimal n) (optimal n refl)
  true_of verdict.Infeasible optimal infeasible = none s p sound of (infeasible refl)
  true_of (verdict.Rejected reason) optimal infeasible = tt
