-- The numbers of a verdict are small: ranks, numbers of states, and the objective of a list of seconds.
use Rattle.std.proofs.Common.{rules, ℕ, zero, suc, inl, inr, ◌+◌, ◌<◌, ◌≤◌, List, [], ◌∷◌, length, map, Bool}
use Rattle.std.proofs.Common.{Option, Some, None, arith}
use Rattle.std.specs.Prelude.{⊤, All, bytes_eq, option_map, ◌==◌}
use Rattle.std.specs.Option.{option_or}
use Rattle.std.proofs.lemmas.Bool.{cases_Bool}
use Rattle.std.proofs.lemmas.List.Elements.{All-nil, All-cons}
use Rattle.cps_base.specs.Limits.{greatest_value, most_waiting}
use Rattle.landing_rules.specs.Rules.{last_second}
use Rattle.landing_rules.specs.Problem.{Problem, Waiting}
use Rattle.cps_theory.specs.FirstFound.{element_from, first_from, first_pair_from, with_number}
use Rattle.cps_theory.specs.CertificateClosure as closure
use Rattle.cps_problem.specs.WellFormed.{IsWellFormed}
use Rattle.certificate.specs.declared.certificate.Claim.{Claim}
use Rattle.certificate.specs.declared.certificate.Claim.TheVariants as claim
use Rattle.certificate.specs.States.{State}
use Rattle.certificate.specs.Reading.{AreLandings, Cert, IsCertificate, IsClaim}
use Rattle.cert_check.specs.declared.verdict.Reason.{Reason}
use Rattle.cert_check.specs.declared.verdict.Reason.TheVariants.{Closed, Early, Final, Flights, Precedence, Separation}
use Rattle.cert_check.specs.declared.verdict.Reason.TheVariants.{Shape, Shift, Successor, Value}
use Rattle.cert_check.specs.declared.verdict.Verdict.{Verdict}
use Rattle.cert_check.specs.declared.verdict.Verdict.TheVariants as verdict
use Rattle.cert_check.specs.Landings.{Landings, count, first_out_of_order, first_too_close, second_of}
use Rattle.cert_check.specs.States.{final_failure, missed_from, successor_failure}
use Rattle.cert_check.specs.Verdict.{claim_reason, failure, flights_reason, landing_reason, state_reason, value_reason}
use Rattle.cert_check.specs.Verdict.{verdict_by, verdict_of, with_pair}
use Rattle.cert_check.specs.shared.Values.{objective_low}

-- the greatest number that a state of a certificate can have
abbrev pub most_states : ℕ
most_states = 4294967295

abbrev pub HasSmallNumbers : Reason → Type 0
HasSmallNumbers Flights = ⊤
HasSmallNumbers (Closed r) = r ≤ most_waiting
HasSmallNumbers (Early r) = r ≤ most_waiting
HasSmallNumbers (Separation r q) = (r ≤ most_waiting) × (q ≤ most_waiting)
HasSmallNumbers (Precedence r q) = (r ≤ most_waiting) × (q ≤ most_waiting)
HasSmallNumbers (Shift r) = r ≤ most_waiting
HasSmallNumbers (Value v) = v ≤ greatest_value
HasSmallNumbers (Shape i) = i ≤ most_states
HasSmallNumbers (Successor i r) = (i ≤ most_states) × (r ≤ most_waiting)
HasSmallNumbers (Final i) = i ≤ most_states

abbrev pub IsSmall : Verdict → Type 0
IsSmall (verdict.Optimal v) = v ≤ greatest_value
IsSmall verdict.Infeasible = ⊤
IsSmall (verdict.Rejected reason) = HasSmallNumbers reason

-- what is found, if anything is, has the property
abbrev IfFound : {A : Type 0} → (A → Type 0) → Option A → Type 0
IfFound P None = ⊤
IfFound P (Some x) = P x

or_found : {A : Type 0} (P : A → Type 0) (a b : Option A) → IfFound P a → IfFound P b → IfFound P (option_or a b)
or_found P a b p q = grind arith

map_found : {A B : Type 0} (P : A → Type 0) (Q : B → Type 0) (f : A → B) (o : Option A) → ((x : A) → P x → Q (f x))
    → IfFound P o → IfFound Q (option_map f o)
map_found P Q f o h p = grind arith

pair_found : {B : Type 0} (P : ℕ × ℕ → Type 0) (Q : B → Type 0) (f : ℕ → ℕ → B) (o : Option (ℕ × ℕ))
    → ((x : ℕ × ℕ) → P x → Q (f x.0 x.1)) → IfFound P o → IfFound Q (with_pair f o)
pair_found P Q f o h p = grind arith

first_found : (test : ℕ → Bool) (x m most : ℕ) → x + m ≤ most + 1 → IfFound (λ y. y ≤ most) (first_from test x m)
first_found test x zero most le = tt
first_found test x (suc m) most le = elim (cases_Bool (test x)) [
  | inl here ↦ rw here (omega (arith, le))
  | inr later ↦ rw later (first_found test _ m _ (omega (arith, le)))
]

abbrev AreBelow : ℕ → ℕ → ℕ × ℕ → Type 0
AreBelow a b x = (x.0 ≤ a) × (x.1 ≤ b)

number_found : (i : ℕ) (o : Option ℕ) (a b : ℕ) → i ≤ a → IfFound (λ y. y ≤ b) o
    → IfFound (AreBelow a b) (with_number i o)
number_found i o a b le h = grind arith

pairs_found : (find : ℕ → Option ℕ) (x m a b : ℕ) → x + m ≤ a + 1 → ((y : ℕ) → IfFound (λ z. z ≤ b) (find y))
    → IfFound (AreBelow a b) (first_pair_from find x m)
pairs_found find x zero a b le h = tt
pairs_found find x (suc m) a b le h = search (rules, pairs_found _ (suc x) m a b (omega (arith, le)) h)

element_found : {S : Type 0} (test : S → Bool) (i most : ℕ) (ss : List S) → i + length ss ≤ most + 1
    → IfFound (λ y. y ≤ most) (element_from test i ss)
unfolding element_from
element_found test i most [] le = tt
element_found test i most (s ∷ ss) le = elim (cases_Bool (test s)) [
  | inl here ↦ rw here (omega (arith, le))
  | inr later ↦ rw later (element_found _ (i + 1) _ ss (omega (arith, le)))
]

-- ---- the seconds of the landings

second_low : (ls : Landings) (name : List ℕ) → AreLandings ls → second_of ls name ≤ last_second
second_low [] name h = omega arith
second_low (l ∷ ls) name h = elim (cases_Bool (bytes_eq l.0 name)) [
  | inl here ↦ rw here h.1
  | inr later ↦ rw later (second_low ls _ h.2)
]

seconds_low : (fs : List Waiting) (ls : Landings) → AreLandings ls
    → All (λ t. t ≤ last_second) (map (λ f. second_of ls f.callsign) fs)
seconds_low [] ls h = All-nil _
seconds_low (f ∷ fs) ls h = All-cons (λ t. t ≤ last_second) _ _ (second_low ls _ h) (seconds_low fs ls h)

module _ (p : Problem) (well : IsWellFormed p) where
  abbrev Few : ℕ → Type 0
  Few y = y ≤ most_waiting

  ranks_found : (test : ℕ → Bool) → IfFound Few (first_from test 1 (count p))
  ranks_found test = first_found test 1 _ _ (omega arith)

  value_found : (v : ℕ) (ls : Landings) → AreLandings ls → IfFound HasSmallNumbers (value_reason p v ls)
  value_found v ls h = grind (arith, objective_low, seconds_low)

  landing_found : (v : ℕ) (ls : Landings) → AreLandings ls → IfFound HasSmallNumbers (landing_reason p v ls)
  unfolding landing_reason
  landing_found v ls h =
      or_found HasSmallNumbers _ _ (map_found Few _ _ _ (λ r le. le) (ranks_found _))
      (or_found HasSmallNumbers _ _ (map_found Few _ _ _ (λ r le. le) (ranks_found _))
      (or_found HasSmallNumbers _ _ (pair_found _ _ _ (first_pair_from (first_too_close p ls) 1 (count p)) (λ x le. le)
      (pairs_found _ 1 _ _ _ (omega arith) (λ r. ranks_found _))) (or_found HasSmallNumbers _ _ (pair_found _ _ _
      (first_pair_from (first_out_of_order p ls) 1 (count p)) (λ x le. le)
      (pairs_found _ 1 _ _ _ (omega arith) (λ r. ranks_found _)))
      (or_found HasSmallNumbers _ _ (map_found Few _ _ _ (λ r le. le) (ranks_found _)) (value_found v ls h)))))

  module _ (c : Claim) (ss : List State) (few : length ss < most_states) where
    missed_found : (i : ℕ) (rest : List State) → i + length rest ≤ most_states + 1
        → IfFound (AreBelow most_states most_waiting) (missed_from p ss i rest)
    unfolding closure.missed_from closure.first_missed
    missed_found i [] le = tt
    missed_found i (s ∷ rest) le =
        or_found _ _ (missed_from p ss (i + 1) rest) (number_found i _ _ _
        (omega (arith, le)) (ranks_found _)) (missed_found (i + 1) rest (omega (arith, le)))

    successor_found : IfFound (AreBelow most_states most_waiting) (successor_failure p ss)
    unfolding closure.first_missed
    successor_found =
        or_found _ _ (missed_from p ss 1 ss) (number_found 0 _ _ _
        (omega arith) (ranks_found _)) (missed_found 1 ss (omega (arith, few)))

    final_found : (d : Claim) → IfFound (λ y. y ≤ most_states) (final_failure p d ss)
    final_found (claim.Optimal v) = element_found _ 1 _ ss (omega (arith, few))
    final_found claim.Infeasible = elim (cases_Bool (count p == 0)) [
      | inl none ↦ rw none (omega arith)
      | inr some ↦ rw some (element_found _ 1 _ ss (omega (arith, few)))
    ]

    state_found : IfFound HasSmallNumbers (state_reason p c ss)
    unfolding state_reason
    state_found =
        or_found HasSmallNumbers _ _ (map_found (λ y. y ≤ most_states) _ _ _
        (λ i le. le) (element_found _ 1 _ ss (omega (arith, few)))) (or_found HasSmallNumbers _ _ (pair_found _ _ _
        (successor_failure p ss) (λ x le. le) successor_found)
        (map_found (λ y. y ≤ most_states) _ _ _ (λ i le. le) (final_found c)))

  claim_found : (c : Claim) (ls : Landings) → AreLandings ls → IfFound HasSmallNumbers (claim_reason p c ls)
  claim_found c ls h = grind (arith, landing_found)

  flights_found : (c : Claim) (ls : Landings) → IfFound HasSmallNumbers (flights_reason p c ls)
  flights_found c ls = grind arith

  verdict_small : (c : Claim) (o : Option Reason) → IsClaim c → IfFound HasSmallNumbers o → IsSmall (verdict_by c o)
  verdict_small c o h f = grind arith

  pub verdict_has_small_numbers : (c : Cert) → IsCertificate c → IsSmall (verdict_of p c)
  unfolding verdict_of failure
  verdict_has_small_numbers c h =
      verdict_small _ _ h.claim (or_found HasSmallNumbers _ _ (flights_found c.claim _)
      (or_found HasSmallNumbers _ _ (claim_found _ _ h.landings) (state_found _ c.states h.few)))
