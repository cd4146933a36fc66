-- The verdict on a certificate is one for a situation.
use Rattle.std.proofs.Common.{arith}
use Rattle.std.proofs.lemmas.Grind.{common_steps}
use Rattle.std.proofs.Common.{rules, ◌≡◌, ℕ, List, [], ◌∷◌, Option, Some, None, Bool, not, ◌&&◌}
use Rattle.std.proofs.Common.{ap₂}
use Rattle.std.specs.Prelude.{◌==◌, nat_lt, option_map, if◌then◌else◌}
use Rattle.std.specs.Option.{option_or}
use Rattle.precedence.specs.Pairs.{must_precede}
use Rattle.landing_rules.specs.declared.objective.Objective.{Objective}
use Rattle.landing_rules.specs.Flights.{Schedule}
use Rattle.landing_rules.specs.Problem.{Problem, list_cost}
use Rattle.cps_theory.specs.FirstFound.{first_from, first_pair_from, with_number}
use Rattle.cps_theory.specs.LegalPrefix.{OrderRules}
use Rattle.cps_theory.specs.Patterns.{pattern_node}
use Rattle.cps_theory.specs.CertificateClosure as closure
use Rattle.landing_joint.specs.RankedProblem.{first_at, cost_at}
use Rattle.certificate.specs.declared.certificate.Claim.{Claim}
use Rattle.certificate.specs.States.{State}
use Rattle.certificate.specs.Reading.{Cert}
use Rattle.cert_check.specs.declared.verdict.Reason.{Reason}
use Rattle.cert_check.specs.declared.verdict.Reason.TheVariants.{Closed, Early, Separation, Precedence, Shift, Value}
use Rattle.cert_check.specs.declared.verdict.Reason.TheVariants.{Shape, Successor, Final}
use Rattle.cert_check.specs.Landings.{Landings, count, second, seconds, is_shut, is_early, first_too_close, is_shifted}
use Rattle.cert_check.specs.Situations.{OneVerdictLaw}
use Rattle.cert_check.specs.States.{node_of, pairs_of, ready, shape_failure, final_failure}
use Rattle.cert_check.specs.Verdict.{with_pair, claim_reason, landing_reason, state_reason, failure}
use Rattle.cert_check.specs.Verdict.{verdict_of}
use Rattle.cps_problem.specs.shared.OneProblem.{same_but_pairs, same_order, with_pairs}

-- a verdict looks at the pairs by whether a rank must land before another, and in no other way
module _ (p : Problem) (xs : List ℕ) (same : must_precede xs ≡ must_precede p.pairs) where
  abbrev q : Problem
  q = with_pairs p xs

  same_cost : (o : Objective) (t : Schedule) → list_cost o q t ≡ list_cost o p t
  same_cost o t = grind (arith, common_steps)

  -- what the landings break first, by that test and by their objective
  abbrev landing_by : ℕ → Landings → (ℕ → ℕ → Bool) → ℕ → Option Reason
  landing_by v ls before n =
      option_or (option_map Closed (first_from (is_shut p ls) 1 (count p)))
      (option_or (option_map Early (first_from (is_early p ls) 1 (count p)))
      (option_or (with_pair Separation (first_pair_from (first_too_close p ls) 1 (count p)))
      (option_or (with_pair Precedence
      (first_pair_from (λ r. first_from (λ o. before r o && not (nat_lt (second p ls r) (second p ls o))) 1
      (count p)) 1 (count p)))
      (option_or (option_map Shift (first_from (is_shifted p ls) 1 (count p)))
      (if n == v then None else Some (Value n))))))

  same_landings : (v : ℕ) (ls : Landings) → landing_reason q v ls ≡ landing_reason p v ls
  unfolding landing_reason
  same_landings v ls = ap₂ (landing_by v ls) same (same_cost p.objective (seconds p ls))

  same_claims : (c : Claim) (ls : Landings) → claim_reason q c ls ≡ claim_reason p c ls
  same_claims c ls = search (rules, same_landings)

  same_final : (c : Claim) (ss : List State) → final_failure q c ss ≡ final_failure p c ss
  same_final c ss = grind (arith, common_steps)

  -- which states fail first, by these rules
  abbrev state_by : List State → OrderRules → Option ℕ → Option Reason
  state_by ss g final =
      option_or (option_map Shape (shape_failure p ss))
      (option_or (with_pair Successor (option_or
      (with_number 0 (closure.first_missed node_of pairs_of g (first_at p) (ready p) (cost_at p) ss
      (pattern_node g []) ((0, 0) ∷ [])))
      (closure.missed_from node_of pairs_of g (first_at p) (ready p) (cost_at p) ss 1 ss)))
      (option_map Final final))

  same_states : (c : Claim) (ss : List State) → state_reason q c ss ≡ state_reason p c ss
  unfolding state_reason
  same_states c ss = cc (same_final c ss)

  same_failure : (c : Cert) → failure q c ≡ failure p c
  unfolding failure
  same_failure c = simp (same_claims, same_states)

  pub same_verdict : (c : Cert) → verdict_of q c ≡ verdict_of p c
  unfolding verdict_of
  same_verdict c = cc (same_failure c)

pub one_verdict : OneVerdictLaw
one_verdict s p q c h k = search (rules, same_but_pairs, same_verdict, same_order)
