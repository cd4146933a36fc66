-- The states of a stage are numbered by their digits and then by their last rank. Of these numbers few are those of a
-- state, and a state has at least as many of them before it as there are states before it.
use Rattle.std.proofs.Common.{rules, ◌≡◌, ℕ, zero, suc, ◌+◌, ◌-◌, ◌*◌, ◌/◌, ◌%◌, ◌<◌, ◌≤◌, ◌^◌, inl, inr, List, [], ◌∷◌}
use Rattle.std.proofs.Common.{length, get_or, true, false, Bool, cond, ◌&&◌, ◌||◌, leb, eqb, refl, sym, ap, ◌∙◌, arith}
use Rattle.std.proofs.lemmas.Grind.{common_steps}
use Rattle.std.specs.Prelude.{count_by}
use Rattle.std.specs.declared.cmp.Ordering.TheVariants.{Less}
use Rattle.std.proofs.Math.Nat.{mul-le-mul_right}
use Rattle.std.proofs.lemmas.Bool.{eq-eqb}
use Rattle.cps_base.specs.Limits.{greatest_k}
use Rattle.cps_theory.specs.Patterns.{IsShaped}
use Rattle.cps_theory.specs.CertificateClosure.{node_cmp}
use Rattle.certificate.specs.Patterns.{number_of}
use Rattle.certificate.specs.States.{State}
use Rattle.certificate.specs.shared.PartsKept.{number_below}
use Rattle.cert_check.specs.Landings.{count}
use Rattle.cert_check.specs.States.{node_of}
use Rattle.cert_check.specs.Whole.{IsWholeState}
use Rattle.cert_check.specs.WholeSizes.{WholeStatesAreFewLaw, most_nodes}
use Rattle.landing_rules.specs.shared.Counting.{Member}
use Rattle.landing_rules.specs.shared.Members.{all_at}
use Rattle.landing_rules.specs.shared.OneList.{AscendBy}
use Rattle.cert_check.proofs.WholeUnique.{ascending}
use Rattle.cert_check.proofs.WholeForm.{number_rises, number_same, shape}

-- ---- digits by their number

-- how many of the n digits of a number are 1
abbrev ones_in : ℕ → ℕ → ℕ
ones_in zero m = 0
ones_in (suc n) m = cond (leb (2 ^ n) m) (1 + ones_in n (m - 2 ^ n)) (ones_in n m)

-- the digit at a place of them, the highest at place 0
abbrev digit_in : ℕ → ℕ → ℕ → Bool
digit_in zero m j = false
digit_in (suc n) m zero = leb (2 ^ n) m
digit_in (suc n) m (suc j) = cond (leb (2 ^ n) m) (digit_in n (m - 2 ^ n) j) (digit_in n m j)

ones_are : (ds : List Bool) → ones_in (length ds) (number_of ds) ≡ count_by (λ d. d) ds
ones_are [] = refl
ones_are (true ∷ ds) = grind (arith, common_steps, ones_are ds)
ones_are (false ∷ ds) = search (rules, number_below, ones_are ds)

digit_is : (ds : List Bool) (j : ℕ) → digit_in (length ds) (number_of ds) j ≡ get_or ds j false
digit_is [] j = refl
digit_is (true ∷ ds) zero = search rules
digit_is (false ∷ ds) zero = search (rules, number_below)
digit_is (true ∷ ds) (suc j) = search (rules, digit_is ds j)
digit_is (false ∷ ds) (suc j) = search (rules, number_below, digit_is ds j)

-- ---- the numbers of states

-- eight times the digits' number, and then how far the last rank is above the stage less k
abbrev is_of_state : ℕ → ℕ → Bool
is_of_state k c = eqb (ones_in (2 * k) (c / 8)) k && (eqb (c % 8) 0 || digit_in (2 * k) (c / 8) (c % 8 - 1))

-- how many of the numbers below one pass a test
abbrev passing : (ℕ → Bool) → ℕ → ℕ
passing t zero = 0
passing t (suc c) = passing t c + cond (t c) 1 0

module _ (t : ℕ → Bool) where
  passing_on : (c more : ℕ) → passing t c ≤ passing t (c + more)
  passing_on c zero = search rules
  passing_on c (suc more) = let a = passing_on c more in let same : c + suc more ≡ suc (c + more) =
      omega arith in search rules

  passing_more : (c d : ℕ) → t c ≡ true → c < d → passing t c + 1 ≤ passing t d
  passing_more c d here lt = grind (arith, passing_on (suc c) (d - suc c))

few_of : (k : ℕ) → k ≤ greatest_k → passing (is_of_state k) (8 * 2 ^ (2 * k)) ≡ most_nodes k
few_of k le = grind (arith, common_steps)

-- ---- a state's number

abbrev number : ℕ → State → ℕ
number k s = number_of s.pattern * 8 + (s.last + k - s.stage)

abbrev Shaped : ℕ → ℕ → State → Type 0
Shaped k n s = IsShaped k n (node_of s)

module _ (k n : ℕ) (narrow : k ≤ greatest_k) where
  parts : (s : State) → Shaped k n s → (number k s / 8 ≡ number_of s.pattern) × (number k s % 8 ≡ s.last + k - s.stage)
  parts s h = omega arith

  number_low : (s : State) → Shaped k n s → number k s < 8 * 2 ^ (2 * k)
  number_low s h = search (rules, number_below)

  -- its last rank is placed: it is below the digits, or its digit is 1
  last_there : (s : State) → Shaped k n s
      → (eqb (s.last + k - s.stage) 0 || digit_in (2 * k) (number_of s.pattern) (s.last + k - s.stage - 1)) ≡ true
  last_there s h = search (rules, digit_is)

  number_is : (s : State) → Shaped k n s → is_of_state k (number k s) ≡ true
  number_is s h =
      let two = parts s h in
      let ones : eqb (ones_in (2 * k) (number_of s.pattern)) k ≡ true =
      eq-eqb _ k (ap (λ (x : ℕ). ones_in x (number_of s.pattern)) (sym h.digits) ∙ ones_are s.pattern ∙ h.ones) in
      let there = last_there s h in cc

  -- the states of a problem before this one are at most so many
  abbrev before : State → ℕ
  before s = s.stage * most_nodes k + passing (is_of_state k) (number k s)

  few_below : (s : State) → Shaped k n s → passing (is_of_state k) (number k s) + 1 ≤ most_nodes k
  few_below s h = search (rules, passing_more, number_is, number_low, few_of)

  within : (s : State) → Shaped k n s → before s + 1 ≤ (n + 1) * most_nodes k
  within s h = grind (arith, few_below s h)

  later_stage : (s t : State) → Shaped k n s → s.stage < t.stage → before s + 1 ≤ before t
  later_stage s t h lt = grind (arith, few_below s h)

  same_stage : (s t : State) → Shaped k n s → s.stage ≡ t.stage → number k s < number k t → before s + 1 ≤ before t
  same_stage s t h e lt = search (rules, passing_more, number_is)

  rises : (s t : State) → Shaped k n s → Shaped k n t → node_cmp (node_of s) (node_of t) ≡ Less
      → before s + 1 ≤ before t
  rises s t h j e = search (rules, later_stage, same_stage, number_rises, number_same)

  few_from : (ss : List State) (least : ℕ) → AscendBy (λ s t. node_cmp (node_of s) (node_of t) ≡ Less) ss
      → ((s : State) → Member s ss → Shaped k n s × (least ≤ before s))
      → least ≤ (n + 1) * most_nodes k → least + length ss ≤ (n + 1) * most_nodes k
  few_from [] least up h le = omega (arith, le)
  few_from (s ∷ ss) least up h le =
      let here = h s (inl refl) in
      let more = few_from ss (suc (before s)) up.1
      (λ t i. ((h t (inr i)).0, (let x = rises s t here.0 (h t (inr i)).0 (up.0 t i) in omega (arith, x))))
      (omega (arith, (within s here.0))) in omega arith

pub few_states : WholeStatesAreFewLaw
few_states p ss well h =
    let n = count p in
    let shaped : (s : State) → Member s ss → Shaped p.k n s =
    λ s i. (shape p well s (all_at (IsWholeState p) ss h.each s i)).0 in
    let begun : (s : State) → Member s ss → most_nodes p.k ≤ before p.k n well.few_places s = λ s i.
    (let one = (all_at (IsWholeState p) ss h.each s i).begun in let m =
    mul-le-mul_right (most_nodes p.k) one in omega (arith, m)) in
    omega (
      arith,
      (few_from p.k n well.few_places ss (most_nodes p.k) (ascending ss h.ascending) (λ s i. (shaped s i, begun s i))
          (let m = mul-le-mul_right (most_nodes p.k) (let x : 1 ≤ n + 1 = omega arith in x) in omega (arith, m))),
    )
