-- When a certificate holds for a problem, which condition fails first, and the verdict.
use Rattle.std.specs.Prelude.{ℕ, ◌==◌, List, Option, Some, None, option_map, if◌then◌else◌}
use Rattle.std.specs.Option.{option_or}
use Rattle.landing_rules.specs.Problem.{Problem, list_objective}
use Rattle.cps_theory.specs.FirstFound.{first_from, first_pair_from}
use Rattle.certificate.specs.declared.certificate.Claim.{Claim}
use Rattle.certificate.specs.declared.certificate.Claim.TheVariants as claim
use Rattle.certificate.specs.States.{State}
use Rattle.certificate.specs.Reading.{Cert}
use Rattle.cert_check.specs.declared.verdict.Reason.{Reason}
use Rattle.cert_check.specs.declared.verdict.Reason.TheVariants.{Flights, Closed, Early, Separation, Precedence, Shift}
use Rattle.cert_check.specs.declared.verdict.Reason.TheVariants.{Value, Shape, Successor, Final}
use Rattle.cert_check.specs.declared.verdict.Verdict.{Verdict}
use Rattle.cert_check.specs.declared.verdict.Verdict.TheVariants as verdict
use Rattle.cert_check.specs.Landings.{Landings, count, seconds, are_not_flights, is_shut, is_early, first_too_close}
use Rattle.cert_check.specs.Landings.{first_out_of_order, is_shifted}
use Rattle.cert_check.specs.States.{shape_failure, successor_failure, final_failure}

abbrev pub with_pair : {A : Type 0} → (ℕ → ℕ → A) → Option (ℕ × ℕ) → Option A
with_pair f None = None
with_pair f (Some x) = Some (f x.0 x.1)

-- the landings are not those of the flights
abbrev pub flights_reason : Problem → Claim → Landings → Option Reason
flights_reason p c ls = if are_not_flights p c ls then Some Flights else None

-- their objective is not the claimed one
abbrev pub value_reason : Problem → ℕ → Landings → Option Reason
value_reason p v ls = if list_objective p (seconds p ls) == v then None
    else Some (Value (list_objective p (seconds p ls)))

-- the first rule that the landings break, for a claimed optimum
unfoldable pub landing_reason : Problem → ℕ → Landings → Option Reason
landing_reason p v ls =
    option_or (option_map Closed (first_from (is_shut p ls) 1 (count p)))
    (option_or (option_map Early (first_from (is_early p ls) 1 (count p)))
    (option_or (with_pair Separation (first_pair_from (first_too_close p ls) 1 (count p)))
    (option_or (with_pair Precedence (first_pair_from (first_out_of_order p ls) 1 (count p)))
    (option_or (option_map Shift (first_from (is_shifted p ls) 1 (count p)))
    (value_reason p v ls)))))

abbrev pub claim_reason : Problem → Claim → Landings → Option Reason
claim_reason p (claim.Optimal v) ls = landing_reason p v ls
claim_reason p claim.Infeasible ls = None

-- the first state that is misshapen, or misses a successor, or contradicts the claim
unfoldable pub state_reason : Problem → Claim → List State → Option Reason
state_reason p c ss =
    option_or (option_map Shape (shape_failure p ss))
    (option_or (with_pair Successor (successor_failure p ss))
    (option_map Final (final_failure p c ss)))

-- the first condition that fails
unfoldable pub failure : Problem → Cert → Option Reason
failure p c = option_or (flights_reason p c.claim c.landings)
    (option_or (claim_reason p c.claim c.landings) (state_reason p c.claim c.states))

-- what is claimed, where none fails
abbrev pub verdict_by : Claim → Option Reason → Verdict
verdict_by (claim.Optimal v) None = verdict.Optimal v
verdict_by claim.Infeasible None = verdict.Infeasible
verdict_by c (Some r) = verdict.Rejected r

unfoldable pub verdict_of : Problem → Cert → Verdict
verdict_of p c = verdict_by c.claim (failure p c)
