-- From the clauses of printed certificates and verdicts to the laws of their texts.
use Rattle.std.proofs.Common.{◌≡◌, ℕ, ◌+◌, ◌≤◌, inl, inr, List, [], ◌∷◌, ◌++◌, length, map, refl, sym, ap, ap₂, subst}
use Rattle.std.proofs.Common.{◌∙◌, arith}
use Rattle.std.specs.Prelude.{decimal, min}
use Rattle.std.specs.Ordering.{is_lt}
use Rattle.std.proofs.Math.Nat.{mul-le-mul_right}
use Rattle.std.proofs.lemmas.Bool.{cases_Bool}
use Rattle.std.proofs.lemmas.List.{length-append, length-map}
use Rattle.std.proofs.lemmas.List.Sums.{count_by-le-length, length-filter}
use Rattle.std.proofs.lemmas.Slice.Zip.{AllZip-long}
use Rattle.landing_rules.specs.declared.objective.Objective.{Objective}
use Rattle.landing_rules.specs.Flights.{Active, Situation, is_waiting, waiting}
use Rattle.landing_rules.specs.Events.{opening_flight}
use Rattle.cps_base.specs.Limits.{most_waiting}
use Rattle.landing_rules.specs.Rules.{arrival_cmp}
use Rattle.landing_rules.specs.Problem.{IsProblemOf, IsWaitingOf, Problem, by_rank, insert_by_rank}
use Rattle.arrivals.specs.declared.aerodrome.Aerodrome.{Aerodrome}
use Rattle.arrivals.specs.declared.flight.Flight.{Flight}
use Rattle.arrivals.specs.Seen.{flight_of}
use Rattle.certificate.specs.declared.certificate.Claim.{Claim}
use Rattle.certificate.specs.declared.certificate.Claim.TheVariants as claim
use Rattle.certificate.specs.States.{State}
use Rattle.certificate.specs.Reading.{Cert}
use Rattle.certificate.specs.Spelling.{certificate_text}
use Rattle.cert_check.specs.Landings.{Landings}
use Rattle.cert_check.specs.Situations.{OneStatesLaw}
use Rattle.cert_check.specs.Whole.{IsAnswered}
use Rattle.cert_check.specs.WholeLaws.{claimed}
use Rattle.cert_check.specs.WholeSizes.{most_nodes}
use Rattle.cert_check.specs.declared.verdict.Reason.{Reason}
use Rattle.cert_check.specs.declared.verdict.Reason.TheVariants.{Closed, Early, Final, Flights, Precedence, Separation}
use Rattle.cert_check.specs.declared.verdict.Reason.TheVariants.{Shape, Shift, Successor, Value}
use Rattle.cert_check.specs.declared.verdict.Verdict.{Verdict}
use Rattle.cert_check.specs.declared.verdict.Verdict.TheVariants as verdict
use Rattle.text_bounds.specs.Counts.{count_in}
use Rattle.text_bounds.specs.WholeCertificates.{LoadableIsShortLaw, WholeCertificateIsBoundedLaw, most_pairs}
use Rattle.text_bounds.specs.WholeCertificates.{whole_bound}
use Rattle.text_bounds.specs.shared.Lengths.{rank_short, value_short}
use Rattle.text_bounds.specs.shared.Reasons.{HasSmallNumbers, IsSmall, verdict_has_small_numbers}
use Rattle.sequencer.specs.Opened.{opened, opening_of}
use Rattle.endings.specs.declared.ending.Answer.{Answer}
use Rattle.endings.specs.shared.Files.{of_two, same_two}
use Rattle.certificate_commands.specs.Certify.{AdmitsCertify, Certifies, IsCertified}
use Rattle.certificate_commands.specs.TextLaws.{CertifyIsBoundedLaw, CertifyIsLoadableLaw, CertifyTextsLaw}
use Rattle.certificate_commands.specs.TextLaws.{CheckIsBoundedLaw, DifferInLandingsAlone, certify_bound_of}
use Rattle.certificate_commands.specs.Verdicts.{IsTrueOf, verdict_text}

-- ---- two certificates of one situation

-- what is true of a situation is claimed in one way
one_claim : (s : Situation) (p q : Problem) (ls ms : Landings) (c d : Claim) → IsTrueOf s p ls (claimed c)
    → IsTrueOf s q ms (claimed d) → c ≡ d
one_claim s p q ls ms (claim.Optimal v) (claim.Optimal w) h k =
    let low = h.best.least _ k.best.feasible in
    let high = k.best.least _ h.best.feasible in
    ap claim.Optimal (omega (arith, low, high, h.objective, k.objective))
one_claim s p q ls ms (claim.Optimal v) claim.Infeasible h k = absurd (k _ h.best.feasible)
one_claim s p q ls ms claim.Infeasible (claim.Optimal w) h k = absurd (h _ k.best.feasible)
one_claim s p q ls ms claim.Infeasible claim.Infeasible h k = refl

no_landings : (p : Problem) (c : Claim) (ls : Landings) → c ≡ claim.Infeasible → IsAnswered p c ls → ls ≡ []
no_landings p c ls none h = (subst (λ (d : Claim). IsAnswered p d ls) none h).0

differ : OneStatesLaw → (aerodrome : Aerodrome) (flights : List Flight) (c d : Cert) (text other : List ℕ)
    → IsCertified aerodrome flights c → IsCertified aerodrome flights d
    → text ≡ certificate_text c → other ≡ certificate_text d → DifferInLandingsAlone text other
differ law aerodrome flights c d text other x y first second =
    let s = opened aerodrome flights in
    let claims : c.claim ≡ d.claim = one_claim s x.judged.problem y.judged.problem c.landings
    d.landings c.claim d.claim x.judged.true_of y.judged.true_of in
    let states : c.states ≡ d.states = law s x.judged.problem y.judged.problem c.states d.states
    x.judged.problem_of y.judged.problem_of x.whole.states y.whole.states in
    let with_landings : Landings → Claim → List State → List ℕ =
    λ ls e ss. certificate_text (record { claim = e; landings = ls; states = ss }) in
    let again : other ≡ with_landings d.landings c.claim c.states =
    second ∙ ap₂ (with_landings d.landings) (sym claims) (sym states) in
    record {
      claim = c.claim;
      states = c.states;
      landings = c.landings;
      others = d.landings;
      first = first;
      second = again;
      none = λ e. (let left = no_landings x.judged.problem c.claim c.landings e x.whole.answer in
          let right = no_landings y.judged.problem d.claim d.landings (sym claims ∙ e) y.whole.answer in
          first ∙ ap (λ (ls : Landings). with_landings ls c.claim c.states) (left ∙ sym right) ∙ sym again);
    }

pub certify_texts : OneStatesLaw → CertifyTextsLaw
certify_texts law a f text other answer another x y =
    let there = same_two a f _ x _ y (λ b fs. Certifies b fs other another) y.holds in (
      differ law x.aerodrome x.flights x.holds.certificate there.certificate text other
          x.holds.certified there.certified x.holds.prints there.prints,
      x.holds.answers ∙ sym there.answers,
    )

-- ---- how long a certificate is

length_insert : (a : Active) (as' : List Active) → length (insert_by_rank a as') ≡ length as' + 1
length_insert a [] = refl
length_insert a (b ∷ rest) = elim (cases_Bool (is_lt (arrival_cmp b.flight a.flight))) [
  | inl before ↦ rw before (omega (arith, length_insert a rest))
  | inr behind ↦ rw behind (omega arith)
]

length_by_rank : (all : List Active) → length (by_rank all) ≡ length all
length_by_rank [] = refl
length_by_rank (a ∷ all) = omega (arith, length_insert a (by_rank all), length_by_rank all)

-- a problem has at most the situation's flights
few_waiting : (s : Situation) (p : Problem) → IsProblemOf s p → length p.flights ≤ length s.active
few_waiting s p h =
    let long = AllZip-long (IsWaitingOf s.closures) (by_rank (waiting s)) p.flights h.flights in
    omega (arith, length_by_rank (waiting s), length-filter is_waiting s.active, count_by-le-length is_waiting s.active)

bound_rises : (o : Objective) (k n m : ℕ) → n ≤ m → whole_bound o k n ≤ whole_bound o k m
bound_rises o k n m le =
    let nodes = mul-le-mul_right (most_nodes k) le in omega (arith, mul-le-mul_right (most_pairs o) nodes)

module _ (law : WholeCertificateIsBoundedLaw) (a f text : List ℕ) (answer : Answer)
    (x : AdmitsCertify a f text answer) where
  short : length text ≤ whole_bound x.aerodrome.objective x.aerodrome.k (min most_waiting (length x.flights))
  short =
      let judged = x.holds.certified.judged in
      let s = opened x.aerodrome x.flights in
      let p = judged.problem in
      let whole = law s p x.holds.certificate judged.sound judged.problem_of judged.well_formed
      judged.in_form x.holds.certified.whole in
      let all = length-map (map flight_of x.flights) (opening_flight (opening_of x.aerodrome)) in
      let few : length p.flights ≤ min most_waiting (length x.flights) =
      omega
      (arith, few_waiting s p judged.problem_of, length-map x.flights flight_of, judged.well_formed.few_flights) in
      let rises = bound_rises x.aerodrome.objective x.aerodrome.k _ _ few in
      let named = rw (judged.problem_of.k, judged.problem_of.objective) at whole in
      omega (arith, named, rises, ap length x.holds.prints)

pub certify_short : WholeCertificateIsBoundedLaw → CertifyIsBoundedLaw
certify_short law a f text answer x =
    of_two a f _ x (λ r q. length text ≤ certify_bound_of r (count_in q)) (short law a f text answer x)

pub certify_loadable : WholeCertificateIsBoundedLaw → LoadableIsShortLaw → CertifyIsLoadableLaw
certify_loadable law loads a f text answer x few =
    let small = loads x.aerodrome.objective x.aerodrome.k (min most_waiting (length x.flights)) few in
    omega (arith, short law a f text answer x)

-- ---- how long a verdict's line is

-- a number and the end of the line, or two numbers
one_number : (n : ℕ) → length (decimal n ++ 10 ∷ []) ≡ length (decimal n) + 1
one_number n = length-append (decimal n) (10 ∷ [])

two_numbers : (n m : ℕ) → length (decimal n ++ 32 ∷ (decimal m ++ 10 ∷ [])) ≡ length (decimal n) + length
    (decimal m) + 2
two_numbers n m = simp length-append (omega arith)

reason_short : (r : Reason) → HasSmallNumbers r → length (verdict_text (verdict.Rejected r)) ≤ 33
reason_short Flights h = omega arith
reason_short (Closed r) h = omega (arith, rank_short r h, one_number r)
reason_short (Early r) h = omega (arith, rank_short r h, one_number r)
reason_short (Separation r q) h = omega (arith, rank_short r h.0, rank_short q h.1, two_numbers r q)
reason_short (Precedence r q) h = omega (arith, rank_short r h.0, rank_short q h.1, two_numbers r q)
reason_short (Shift r) h = omega (arith, rank_short r h, one_number r)
reason_short (Value v) h = omega (arith, value_short v (omega (arith, h)), one_number v)
reason_short (Shape i) h = omega (arith, value_short i (omega (arith, h)), one_number i)
reason_short (Successor i r) h = omega (arith, value_short i (omega (arith, h.0)), rank_short r h.1, two_numbers i r)
reason_short (Final i) h = omega (arith, value_short i (omega (arith, h)), one_number i)

verdict_short : (v : Verdict) → IsSmall v → length (verdict_text v) ≤ 33
verdict_short (verdict.Optimal v) h = omega (arith, value_short v (omega (arith, h)), one_number v)
verdict_short verdict.Infeasible h = omega arith
verdict_short (verdict.Rejected r) h = reason_short r h

pub check_short : CheckIsBoundedLaw
check_short a f c text answer x =
    let judged = x.judges.holds in
    let small = subst IsSmall (sym judged.verdict_is)
    (verdict_has_small_numbers judged.problem judged.well_formed x.judges.third judged.in_form) in
    omega (arith, verdict_short x.verdict small, ap length x.prints)
