-- A whole certificate is accepted.
use Rattle.std.proofs.Common.{rules, ◌≡◌, None, List}
use Rattle.landing_rules.specs.Problem.{Problem}
use Rattle.cps_problem.specs.WellFormed.{IsWellFormed}
use Rattle.certificate.specs.declared.certificate.Claim.{Claim}
use Rattle.certificate.specs.declared.certificate.Claim.TheVariants as claim
use Rattle.certificate.specs.States.{State}
use Rattle.certificate.specs.Reading.{Cert}
use Rattle.cert_check.specs.Landings.{Landings}
use Rattle.cert_check.specs.States.{successor_failure, final_failure}
use Rattle.cert_check.specs.Verdict.{flights_reason, claim_reason, state_reason, failure, verdict_of}
use Rattle.cert_check.specs.Whole.{AreWholeStates, IsAnswered, IsWhole}
use Rattle.cert_check.specs.WholeLaws.{claimed}
use Rattle.cert_check.proofs.WholeStates.{none_misshapen, start_misses_none, states_miss_none}
use Rattle.cert_check.proofs.WholeFinal.{optimal_final, infeasible_final}
use Rattle.cert_check.proofs.WholeLandings.{no_reason}

module _ (p : Problem) (well : IsWellFormed p) where
  none_missed : (ss : List State) → AreWholeStates p ss → successor_failure p ss ≡ None
  none_missed ss h = search (rules, start_misses_none, states_miss_none)

  final_none : (c : Claim) (ls : Landings) (ss : List State) → IsAnswered p c ls → AreWholeStates p ss
      → final_failure p c ss ≡ None
  final_none c ls ss a h = search (rules, optimal_final, infeasible_final)

  states_pass : (c : Claim) (ls : Landings) (ss : List State) → IsAnswered p c ls → AreWholeStates p ss
      → state_reason p c ss ≡ None
  unfolding state_reason
  states_pass c ls ss a h = search (rules, none_misshapen, none_missed, final_none)

  landings_pass : (c : Claim) (ls : Landings) → IsAnswered p c ls → (flights_reason p c ls ≡ None)
      × (claim_reason p c ls ≡ None)
  landings_pass (claim.Optimal v) ls a = no_reason p ls v a
  landings_pass claim.Infeasible ls a = search rules

  none_fails : (c : Cert) → IsWhole p c → failure p c ≡ None
  unfolding failure
  none_fails c h = search (rules, landings_pass, states_pass)

  pub whole_accepted : (c : Cert) → IsWhole p c → verdict_of p c ≡ claimed c.claim
  unfolding verdict_of
  whole_accepted c h = simp none_fails
