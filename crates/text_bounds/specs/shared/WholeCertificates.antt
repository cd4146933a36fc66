-- How long a certificate is that leaves nothing out: by its landings, its states and their pairs.
use Rattle.std.proofs.Common.{rules, ◌≡◌, ℕ, zero, suc, ◌≤◌, inl, inr, List, [], ◌∷◌, length, true, refl, arith}
use Rattle.std.specs.Prelude.{All, IsPermutation}
use Rattle.std.specs.List.{AllZip, list_any}
use Rattle.std.proofs.Math.Nat.{mul-le-mul_right}
use Rattle.std.proofs.lemmas.Bool.{cases_lt}
use Rattle.std.proofs.lemmas.List.Elements.{All-cons, All-filter, All-head, All-tail}
use Rattle.std.proofs.lemmas.List.{get_or_past}
use Rattle.std.proofs.lemmas.List.Sums.{sum_by-le}
use Rattle.landing_rules.specs.declared.objective.Objective.{Objective}
use Rattle.landing_rules.specs.declared.objective.Objective.TheVariants.{Makespan, Delay}
use Rattle.landing_rules.specs.Flights.{Active, Situation, Span, waiting}
use Rattle.cps_base.specs.Limits.{most_open_seconds}
use Rattle.landing_rules.specs.Rules.{is_within}
use Rattle.landing_rules.specs.Problem.{IsWaitingOf, Problem, Waiting, by_rank, insert_by_rank}
use Rattle.landing_rules.specs.Sound.{IsSound}
use Rattle.landing_rules.specs.shared.Members.{all_at, all_from, member_permutation}
use Rattle.std.proofs.lemmas.List.Sorted.{IsPermutation-sym}
use Rattle.landing_joint.specs.shared.Insertion.{sort_moves}
use Rattle.landing_joint.specs.RankedProblem.{no_waiting}
use Rattle.cps_theory.specs.Labels.{InPairs, Pair}
use Rattle.cps_theory.specs.RankLists.{of_rank}
use Rattle.certificate.specs.declared.certificate.Claim.{Claim}
use Rattle.certificate.specs.States.{State, rises}
use Rattle.cert_check.specs.Landings.{Landings, count}
use Rattle.cert_check.specs.Whole.{IsAnswered, IsWholeState}
use Rattle.cert_check.specs.WholeSizes.{MakespanPairsLaw, PairsAreOpenLaw, WholeStatesAreFewLaw}
use Rattle.text_bounds.specs.Certificates.{CertificateIsBoundedLaw}
use Rattle.text_bounds.specs.WholeCertificates.{LoadableIsShortLaw, WholeCertificateIsBoundedLaw, most_pairs}
use Rattle.text_bounds.specs.shared.OpenSeconds.{pairs_few, seconds_of}

as_many_landings : (p : Problem) (claimed : Claim) (ls : Landings) → IsAnswered p claimed ls → length ls ≤ count p
as_many_landings p claimed ls h = grind arith

-- ---- the open seconds of each waiting flight

-- a waiting flight's windows hold few seconds
abbrev HasFewSeconds : Active → Type 0
HasFewSeconds a = seconds_of a.flight.windows ≤ most_open_seconds

rank_permutes : (active : List Active) → IsPermutation active (by_rank active)
rank_permutes active = sort_moves _ insert_by_rank (λ a. refl) (λ a b bs. refl) by_rank refl (λ a rest. refl) _

few_by_rank : (s : Situation) → IsSound s → All HasFewSeconds (by_rank (waiting s))
few_by_rank s sound =
    all_from _ _ (λ a m. all_at HasFewSeconds _ (All-filter _ HasFewSeconds _
    (λ i a lt. (sound.flights i a lt).windows.seconds)) a
    (member_permutation _ _ a (IsPermutation-sym (waiting s) (by_rank (waiting s)) (rank_permutes _)) m))

-- pairs at such seconds are few
abbrev HasFewPairs : Waiting → Type 0
HasFewPairs w = (ps : List Pair) → rises ps ≡ true
    → ((q : Pair) → InPairs q ps → list_any (is_within q.0) w.open_spans ≡ true) → length ps ≤ most_open_seconds

module _ (closures : List Span) where
  few_pairs : (a : Active) (w : Waiting) → IsWaitingOf closures a w → HasFewSeconds a → HasFewPairs w
  few_pairs a w of few ps up each = search (rules, pairs_few)

  few_each : (active : List Active) (ws : List Waiting) → AllZip (IsWaitingOf closures) active ws
      → All HasFewSeconds active → All HasFewPairs ws
  few_each [] [] z h = omega arith
  few_each [] (w ∷ ws) z h = absurd z
  few_each (a ∷ active) [] z h = absurd z
  few_each (a ∷ active) (w ∷ ws) z h =
      All-cons HasFewPairs w ws (few_pairs a w z.0 (All-head HasFewSeconds a _ h))
      (few_each active ws z.1 (All-tail HasFewSeconds a _ h))

no_pairs : HasFewPairs no_waiting
no_pairs [] up each = omega arith
no_pairs (p ∷ ps) up each = absurd (cc (each p (inl refl)))

few_at : (ws : List Waiting) (r : ℕ) → All HasFewPairs ws → HasFewPairs (of_rank no_waiting ws r)
few_at ws zero h = no_pairs
few_at ws (suc i) h = elim (cases_lt i (length ws)) [
  | inl within ↦ h i no_waiting within
  | inr past ↦ rw (get_or_past ws i _ past) no_pairs
]

-- ---- all states

pairs_by : (o : Objective) (p : Problem) (s : State) → p.objective ≡ o → MakespanPairsLaw → PairsAreOpenLaw
    → All HasFewPairs p.flights → IsWholeState p s → length s.pairs ≤ most_pairs o
pairs_by Makespan p s e single seconds few h = single p s e h
pairs_by Delay p s e single seconds few h = few_at _ _ few s.pairs h.rising (λ q i. seconds p s q h i)

pub whole_short : CertificateIsBoundedLaw → WholeStatesAreFewLaw → MakespanPairsLaw → PairsAreOpenLaw
    → WholeCertificateIsBoundedLaw
whole_short bound states single seconds s p c sound of well form whole =
    let m = most_pairs p.objective in
    let few = few_each _ _ _ of.flights (few_by_rank s sound) in
    let count = states p c.states well whole.states in
    let pairs = sum_by-le (λ (x : State). length x.pairs) m _
    (λ i x lt. pairs_by _ p _ refl single seconds few (whole.states.each i x lt)) in
    let text = bound c form in
    omega (arith, as_many_landings p c.claim c.landings whole.answer, mul-le-mul_right m count)

pub loadable_short : LoadableIsShortLaw
loadable_short Makespan zero n h = omega arith
loadable_short Makespan (suc zero) n h = omega arith
loadable_short Makespan (suc (suc zero)) n h = omega arith
loadable_short Makespan (suc (suc (suc k))) n h = omega arith
loadable_short Delay zero n h = omega arith
loadable_short Delay (suc zero) n h = omega arith
loadable_short Delay (suc (suc zero)) n h = omega arith
loadable_short Delay (suc (suc (suc k))) n h = absurd h
