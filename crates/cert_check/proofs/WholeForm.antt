-- States that leave nothing out keep the form of a certificate's, and are few.
use Rattle.std.proofs.Common.{rules, ◌≡◌, ℕ, suc, ◌+◌, ◌*◌, ◌<◌, ◌≤◌, inl, inr, Bool, true, false, List, [], ◌∷◌}
use Rattle.std.proofs.Common.{length, refl, arith}
use Rattle.std.proofs.lemmas.Grind.{common_steps}
use Rattle.std.specs.Prelude.{All}
use Rattle.std.specs.List.{list_all}
use Rattle.std.specs.Ordering.{bool_cmp}
use Rattle.std.specs.Cmp.Lexicographic.{slice_cmp}
use Rattle.std.specs.declared.cmp.Ordering.TheVariants.{Less, Equal}
use Rattle.std.proofs.Math.Nat.{pow-le-pow_right}
use Rattle.cps_base.specs.Limits.{greatest_word, most_waiting}
use Rattle.landing_rules.specs.Problem.{Problem}
use Rattle.cps_theory.specs.Separation.{Landing}
use Rattle.cps_theory.specs.LandingTrail.{ranks}
use Rattle.cps_theory.specs.Labels.{InPairs, Pair}
use Rattle.cps_theory.specs.LegalPrefix.{Legal}
use Rattle.cps_theory.specs.Patterns.{IsShaped, pattern_node}
use Rattle.cps_theory.specs.CertificateClosure.{node_cmp}
use Rattle.cps_theory.specs.laws.PatternShape.{legal_is_shaped}
use Rattle.cps_problem.specs.WellFormed.{IsWellFormed}
use Rattle.certificate.specs.Patterns.{number_of}
use Rattle.certificate.specs.States.{State, IsState, AreStates, is_pair}
use Rattle.certificate.specs.shared.PartsKept.{number_below}
use Rattle.cert_check.specs.Landings.{count}
use Rattle.cert_check.specs.States.{node_of, rules_of}
use Rattle.cert_check.specs.Whole.{IsWholeState, AreWholeStates}
use Rattle.landing_rules.specs.shared.Counting.{Member}
use Rattle.landing_rules.specs.shared.Members.{all_at}
use Rattle.landing_rules.specs.shared.OneList.{AscendBy}
use Rattle.cert_check.proofs.Sound.{sound_problem}
use Rattle.cert_check.proofs.WholeUnique.{ascending}

-- ---- each state

some_pair : (q : Pair) (ps : List Pair) → InPairs q ps → 1 ≤ length ps
some_pair q ps i = grind (arith, common_steps)

module _ (p : Problem) (well : IsWellFormed p) where
  shape_of : (s : State) (xs : List Landing) → 1 ≤ s.stage → Legal (rules_of p) (ranks xs)
      → pattern_node (rules_of p) (ranks xs) ≡ node_of s → IsShaped p.k (count p) (node_of s) × (1 ≤ s.last)
  shape_of s [] begun legal at = search rules
  shape_of s (x ∷ xs) begun legal at =
      let h = legal_is_shaped (rules_of p) (λ r. (sound_problem p well).low r) x.0 (ranks xs) legal in search rules

  pub shape : (s : State) → IsWholeState p s → IsShaped p.k (count p) (node_of s) × (1 ≤ s.last)
  shape s h = let a = h.landable.1 in shape_of s a.landings h.begun a.legal a.at

  in_form : (s : State) → IsWholeState p s → list_all is_pair s.pairs ≡ true → IsState s
  in_form s h pairs =
      let k = shape s h in
      let o = h.covers h.landable.0 h.landable.1 in grind (arith, common_steps)

  states_in_form : (ss : List State) → All (IsWholeState p) ss → All (λ s. list_all is_pair s.pairs ≡ true) ss
      → AreStates ss
  states_in_form [] h k = tt
  states_in_form (s ∷ ss) h k = (
    in_form s (h 0 s (omega arith)) (k 0 s (omega arith)),
    states_in_form ss (λ i d lt. h (suc i) d (omega arith)) (λ i d lt. k (suc i) d (omega arith)),
  )

-- ---- how many

pub number_rises : (xs ys : List Bool) → length xs ≡ length ys → slice_cmp bool_cmp xs ys ≡ Less
    → number_of xs < number_of ys
number_rises [] [] same e = absurd (cc)
number_rises [] (y ∷ ys) same e = cc
number_rises (x ∷ xs) [] same e = cc
number_rises (true ∷ xs) (true ∷ ys) same e = grind (arith, number_rises xs ys (omega arith) e)
number_rises (false ∷ xs) (false ∷ ys) same e = let more = number_rises xs ys (omega arith) e in omega arith
number_rises (true ∷ xs) (false ∷ ys) same e = absurd (cc)
number_rises (false ∷ xs) (true ∷ ys) same e = search (rules, number_below)

pub number_same : (xs ys : List Bool) → length xs ≡ length ys → slice_cmp bool_cmp xs ys ≡ Equal
    → number_of xs ≡ number_of ys
number_same [] [] same e = refl
number_same [] (y ∷ ys) same e = cc
number_same (x ∷ xs) [] same e = cc
number_same (true ∷ xs) (true ∷ ys) same e = cc (number_same xs ys (omega arith) e)
number_same (false ∷ xs) (false ∷ ys) same e = cc (number_same xs ys (omega arith) e)
number_same (true ∷ xs) (false ∷ ys) same e = absurd (cc)
number_same (false ∷ xs) (true ∷ ys) same e = absurd (cc)

number_small : (ds : List Bool) → length ds ≤ 6 → number_of ds < 64
number_small ds few = search (rules, number_below, pow-le-pow_right)

-- a state's stage, pattern and last rank as one number
code : State → ℕ
code s = (s.stage * 64 + number_of s.pattern) * 64 + s.last

-- what is asked of a state that has such a number
record IsCoded (width : ℕ) (s : State) : Type 0 where
  stage : s.stage ≤ most_waiting
  digits : length s.pattern ≡ width
  last : s.last ≤ most_waiting

module _ (width : ℕ) (narrow : width ≤ 6) where
  code_low : (s : State) → IsCoded width s → code s < 249856
  unfolding code
  code_low s h = search (rules, number_small)

  code_rises : (s t : State) → IsCoded width s → IsCoded width t → node_cmp (node_of s) (node_of t) ≡ Less
      → code s < code t
  unfolding code
  code_rises s t h k e = search (rules, number_small, number_rises, number_same)

  -- so many numbers are free from one on
  few_from : (ss : List State) (least : ℕ) → AscendBy (λ s t. node_cmp (node_of s) (node_of t) ≡ Less) ss
      → ((s : State) → Member s ss → IsCoded width s × (least ≤ code s)) → least ≤ 249856 → least + length ss ≤ 249856
  few_from [] least up h le = omega arith
  few_from (s ∷ ss) least up h le =
      let here = h s (inl refl) in
      let low = code_low s here.0 in
      let more = few_from ss (suc (code s)) up.1
      (λ t i. ((h t (inr i)).0, code_rises s t here.0 (h t (inr i)).0 (up.0 t i))) (omega arith) in
      omega arith

module _ (p : Problem) (well : IsWellFormed p) where
  coded : (s : State) → IsWholeState p s → IsCoded (2 * p.k) s
  coded s h = grind (arith, shape p well s h)

  pub whole_in_form : (ss : List State) → AreWholeStates p ss → All (λ s. list_all is_pair s.pairs ≡ true) ss
      → AreStates ss × (length ss < greatest_word)
  whole_in_form ss h pairs =
      let few = few_from (2 * p.k) (omega arith) ss 0 (ascending ss h.ascending)
      (λ s i. (coded s (all_at (IsWholeState p) ss h.each s i), omega arith)) (omega arith) in search
      (rules, states_in_form)
