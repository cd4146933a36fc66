-- What an accepted certificate means.
use Rattle.std.proofs.Common.{arith}
use Rattle.std.proofs.lemmas.Grind.{common_steps}
use Rattle.std.proofs.Common.{rules, ◌≡◌, ℕ, ◌≤◌, Bool, true, false, cond, List, [], ◌∷◌, Option, Some, None}
use Rattle.std.proofs.Common.{refl, subst}
use Rattle.std.specs.Prelude.{◌==◌}
use Rattle.std.specs.Option.{option_or}
use Rattle.std.proofs.lemmas.List.{length-map}
use Rattle.landing_rules.specs.Flights.{Schedule}
use Rattle.landing_rules.specs.Problem.{Problem, IsFeasibleList, list_objective}
use Rattle.cps_theory.specs.FirstFound.{first_from, first_pair_from, element_from}
use Rattle.cps_theory.specs.laws.FirstFound.{or_none}
use Rattle.landing_joint.specs.shared.RankedLists.{list_feasible, feasible_list}
use Rattle.landing_joint.specs.shared.BestLists.{list_value}
use Rattle.cps_problem.specs.WellFormed.{IsWellFormed}
use Rattle.certificate.specs.declared.certificate.Claim.{Claim}
use Rattle.certificate.specs.declared.certificate.Claim.TheVariants as claim
use Rattle.certificate.specs.States.{State}
use Rattle.certificate.specs.Reading.{Cert}
use Rattle.cert_check.specs.declared.verdict.Reason.{Reason}
use Rattle.cert_check.specs.declared.verdict.Verdict.TheVariants as verdict
use Rattle.cert_check.specs.Landings.{Landings, count, second_of, seconds, is_shut, is_early, first_too_close}
use Rattle.cert_check.specs.Landings.{first_out_of_order, is_shifted}
use Rattle.cert_check.specs.States.{first_missed, missed_from, start_node, is_final, final_failure}
use Rattle.cert_check.specs.Verdict.{with_pair, flights_reason, landing_reason, claim_reason, state_reason, failure}
use Rattle.cert_check.specs.Verdict.{verdict_by, verdict_of}
use Rattle.cert_check.specs.Meaning.{IsShownOptimal, NothingIsFeasible}
use Rattle.cert_check.proofs.Bounds.{none_below, none_at_all}
use Rattle.cert_check.proofs.Sound.{are_its_landings, are_feasible, passed_low}

pair_none : {A : Type 0} (f : ℕ → ℕ → A) (o : Option (ℕ × ℕ)) → with_pair f o ≡ None → o ≡ None
pair_none f o e = grind (arith, common_steps)

unless_none : {A : Type 0} (b : Bool) (x : A) → cond b (Some x) None ≡ None → b ≡ false
unless_none b x e = grind (arith, common_steps)

-- what the states leave
record StatesHold (p : Problem) (c : Claim) (ss : List State) : Type 0 where
  from_start : first_missed p ss (start_node p) ((0, 0) ∷ []) ≡ None
  from_states : missed_from p ss 1 ss ≡ None
  final : final_failure p c ss ≡ None

states_hold : (p : Problem) (c : Claim) (ss : List State) → state_reason p c ss ≡ None → StatesHold p c ss
unfolding state_reason
states_hold p c ss e = search rules

-- what the landings leave
record LandingsHold (p : Problem) (v : ℕ) (ls : Landings) : Type 0 where
  shut : first_from (is_shut p ls) 1 (count p) ≡ None
  early : first_from (is_early p ls) 1 (count p) ≡ None
  close : first_pair_from (first_too_close p ls) 1 (count p) ≡ None
  order : first_pair_from (first_out_of_order p ls) 1 (count p) ≡ None
  shifted : first_from (is_shifted p ls) 1 (count p) ≡ None
  value : list_objective p (seconds p ls) ≡ v

landings_hold : (p : Problem) (v : ℕ) (ls : Landings) → landing_reason p v ls ≡ None → LandingsHold p v ls
unfolding landing_reason
landings_hold p v ls e = search rules

no_smaller : (p : Problem) (v : ℕ) (ls : Landings) (ss : List State) → IsWellFormed p
    → StatesHold p (claim.Optimal v) ss → list_objective p (seconds p ls) ≡ v → (u : Schedule)
    → IsFeasibleList p u → list_objective p (seconds p ls) ≤ list_objective p u
no_smaller p v ls ss h s value u f = search (rules, none_below, list_feasible, list_value)

optimal : (p : Problem) (v : ℕ) (ls : Landings) (ss : List State) → IsWellFormed p
    → failure p (record { claim = claim.Optimal v; landings = ls; states = ss }) ≡ None → IsShownOptimal p ls v
unfolding failure
optimal p v ls ss h e =
    let a = or_none (flights_reason p (claim.Optimal v) ls)
    (option_or (claim_reason p (claim.Optimal v) ls) (state_reason p (claim.Optimal v) ss)) e in
    let b = or_none (claim_reason p (claim.Optimal v) ls) (state_reason p (claim.Optimal v) ss) a.1 in
    let k = landings_hold p v ls b.0 in
    let s = states_hold p (claim.Optimal v) ss b.1 in
    let long = length-map p.flights (λ w. second_of ls w.callsign) in search
    (rules, are_its_landings, unless_none, feasible_list, passed_low, are_feasible, no_smaller)

infeasible : (p : Problem) (ls : Landings) (ss : List State) → IsWellFormed p
    → failure p (record { claim = claim.Infeasible; landings = ls; states = ss }) ≡ None → NothingIsFeasible p
unfolding failure
infeasible p ls ss h e t f =
    let b = or_none (claim_reason p claim.Infeasible ls) (state_reason p claim.Infeasible ss)
    (or_none _ _ e).1 in
    let s = states_hold p claim.Infeasible ss b.1 in
    go (count p == 0) refl s.final s
  where
    go : (b : Bool) → (count p == 0) ≡ b → cond b (Some 0) (element_from (is_final p) 1 ss) ≡ None
        → StatesHold p claim.Infeasible ss → ⊥
    go true z e s = absurd (cc)
    go false z e s = search (rules, none_at_all, list_feasible)

-- ---- by the verdict

by_optimal : (c : Claim) (o : Option Reason) (v : ℕ) → verdict_by c o ≡ verdict.Optimal v
    → (c ≡ claim.Optimal v) × (o ≡ None)
by_optimal c o v e = grind (arith, common_steps)

by_infeasible : (c : Claim) (o : Option Reason) → verdict_by c o ≡ verdict.Infeasible
    → (c ≡ claim.Infeasible) × (o ≡ None)
by_infeasible c o e = grind (arith, common_steps)

pub judged_optimal : (p : Problem) (c : Cert) → IsWellFormed p → (v : ℕ) → verdict_of p c ≡ verdict.Optimal v
    → IsShownOptimal p c.landings v
unfolding verdict_of
judged_optimal p c h v e =
    let b = by_optimal c.claim (failure p c) v e in
    optimal p v c.landings c.states h
    (subst (λ (x : Claim). failure p (record { claim = x; landings = c.landings; states = c.states }) ≡ None) b.0 b.1)

pub judged_infeasible : (p : Problem) (c : Cert) → IsWellFormed p → verdict_of p c ≡ verdict.Infeasible
    → NothingIsFeasible p
unfolding verdict_of
judged_infeasible p c h e =
    let b = by_infeasible c.claim (failure p c) e in
    infeasible p c.landings c.states h
    (subst (λ (x : Claim). failure p (record { claim = x; landings = c.landings; states = c.states }) ≡ None) b.0 b.1)
