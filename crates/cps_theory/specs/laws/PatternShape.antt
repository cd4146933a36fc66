-- The pattern of a legal prefix has the shape of a state: 2k digits of which k are set, none below rank 1 left out,
-- none above the count set, and the latest rank near its place and placed.
use Rattle.std.proofs.Common.{◌≡◌, ℕ, zero, suc, ◌+◌, ◌-◌, ◌*◌, ◌<◌, ◌≤◌, inl, inr, List, [], ◌∷◌, length, Bool, true}
use Rattle.std.proofs.Common.{false, cond, ◌||◌, leb, count_by, refl, sym, ap, ap₂, ◌∙◌, arith}
use Rattle.std.proofs.lemmas.Bool.{cases_lt, cases_eq, le-leb, lt-leb, ne_eqb}
use Rattle.std.proofs.lemmas.List.Sums.{sum_by-cons}
use Rattle.cps_theory.specs.RankLists.{above, below}
use Rattle.cps_theory.specs.LegalPrefix.{Legal, OrderRules}
use Rattle.cps_theory.specs.Patterns.{IsShaped, is_member, pattern_digit, pattern_node, tests_from}
use Rattle.cps_theory.specs.laws.FrozenFront.{each_fits_distinct}
use Rattle.cps_theory.specs.laws.LegalPrefix.{in_from_one, in_below, legal_each_fits}
use Rattle.cps_theory.specs.laws.PatternNetwork.{get_or-tests, in_member, not_member}
use Rattle.cps_theory.specs.laws.RanksOfList.{few_ranks}

-- how many of m numbers from y on pass
abbrev passing : (ℕ → Bool) → ℕ → ℕ → ℕ
passing t y zero = 0
passing t y (suc m) = cond (t y) 1 0 + passing t (suc y) m

set_digits : (t : ℕ → Bool) (y m : ℕ) → count_by (λ d. d) (tests_from t y m) ≡ passing t y m
set_digits t y zero = refl
set_digits t y (suc m) = sum_by-cons _ _ (tests_from t (suc y) m) ∙ ap (λ n. cond (t y) 1 0 + n) (set_digits t _ m)

length-tests_from : (t : ℕ → Bool) (y m : ℕ) → length (tests_from t y m) ≡ m
length-tests_from t y zero = refl
length-tests_from t y (suc m) = ap suc (length-tests_from t _ m)

passing_last : (t : ℕ → Bool) (y m : ℕ) → passing t y (suc m) ≡ passing t y m + cond (t (y + m)) 1 0
passing_last t y zero = let e : y + 0 ≡ y = omega arith in omega (arith, ap (λ x. cond {A = ℕ} (t x) 1 0) e)
passing_last t y (suc m) = grind (arith, passing_last t (suc y) m)

passing_all : (t : ℕ → Bool) (y m : ℕ) → ((x : ℕ) → y ≤ x → x < y + m → t x ≡ true) → passing t y m ≡ m
passing_all t y zero h = refl
passing_all t y (suc m) h = grind (arith, passing_all t (suc y) m)

passing_none : (t : ℕ → Bool) (y m : ℕ) → ((x : ℕ) → y ≤ x → x < y + m → t x ≡ false) → passing t y m ≡ 0
passing_none t y zero h = refl
passing_none t y (suc m) h = grind (arith, passing_none t (suc y) m)

passing_parts : (t : ℕ → Bool) (y a b : ℕ) → passing t y (a + b) ≡ passing t y a + passing t (y + a) b
passing_parts t y zero b = grind arith
passing_parts t y (suc a) b =
    let e : suc a + b ≡ suc (a + b) = omega arith in
    let f : suc y + a ≡ y + suc a = omega arith in
    let c = ap (passing t y) e in
    let d = passing_parts t (suc y) a b in grind arith

passing_agree : (t u : ℕ → Bool) (y m : ℕ) → ((x : ℕ) → y ≤ x → x < y + m → u x ≡ t x) → passing u y m ≡ passing t y m
passing_agree t u y zero h = refl
passing_agree t u y (suc m) h = ap₂ (λ b n. cond b 1 0 + n) (h y (omega arith) (omega arith))
    (passing_agree t u _ m (λ x le lt. h x (omega arith) (omega arith)))

-- a test that one more number passes counts one more
passing_set : (t u : ℕ → Bool) (v y m : ℕ) → y ≤ v → v < y + m → t v ≡ false → u v ≡ true
    → ((x : ℕ) → (x ≡ v → ⊥) → u x ≡ t x) → passing u y m ≡ suc (passing t y m)
passing_set t u v y zero le lt f s h = absurd (omega arith)
passing_set t u v y (suc m) le lt f s h = grind (arith, cases_eq, passing_agree, passing_set t u v (suc y) m)

module _ (g : OrderRules) (low : (r : ℕ) → g.back r ≤ g.most) where
  -- exactly k digits are set
  pub k_digits_set : (rs : List ℕ) → Legal g rs
      → passing (pattern_digit g.most rs) (suc (length rs)) (2 * g.most) ≡ g.most
  k_digits_set [] l =
      let k = g.most in
      let t = pattern_digit k [] in
      let e : 2 * k ≡ k + k = omega arith in grind (arith, passing_parts, passing_all, le-leb, passing_none, lt-leb)
  k_digits_set (r ∷ rs) l =
      let k = g.most in
      let p = length rs in
      let t = pattern_digit k rs in
      let u = pattern_digit k (r ∷ rs) in
      let fits = l.0.fits in
      let at_r : r + k - k ≡ r = omega arith in
      let unset = ap₂ (λ a b. a || b) (lt-leb (r + k) k (omega arith))
      (ap (λ x. is_member x rs) at_r ∙ not_member r rs fits.is_new) in
      let set = ap₂ (λ a b. a || b) (lt-leb (r + k) k (omega arith))
      (ap (λ x. is_member x (r ∷ rs)) at_r ∙ in_member r (r ∷ rs) (inl refl)) in
      let more = passing_set t u (r + k) (suc p) (suc (2 * k)) (omega arith) (omega arith) unset set (other r rs) in
      let past =
      ap₂ (λ a b. a || b) (lt-leb (suc p + 2 * k) k (omega arith)) (not_member (suc p + 2 * k - k) rs (λ i. let b =
      in_below g (suc p + 2 * k - k) rs (legal_each_fits g rs l.1) i in absurd (omega arith))) in
      let last = passing_last t (suc p) (2 * k) in
      let gone = ap (λ b. cond {A = ℕ} b 1 0) past in
      let first = ap (λ b. cond {A = ℕ} b 1 0) (due_set r rs l) in
      let before = k_digits_set rs l.1 in
      omega arith
    where
      other : (r : ℕ) (rs : List ℕ) (x : ℕ) → (x ≡ r + g.most → ⊥)
          → pattern_digit g.most (r ∷ rs) x ≡ pattern_digit g.most rs x
      other r rs x ne = elim (cases_lt g.most x) [
        | inl above ↦ ap (λ b. leb x g.most || (b || is_member (x - g.most) rs)) (ne_eqb _ r (λ e. ne (omega arith)))
        | inr below ↦ (let q = le-leb x _ below in ap (λ b. b || is_member (x - g.most) (r ∷ rs)) q ∙ sym (cc))
      ]

      due_set : (r : ℕ) (rs : List ℕ) → Legal g (r ∷ rs) → pattern_digit g.most (r ∷ rs) (suc (length rs)) ≡ true
      due_set r rs l = elim (cases_lt g.most (suc (length rs))) [
        | inl above ↦ ap₂ (λ a b. a || b) (lt-leb _ _ above) (in_member _ (r ∷ rs)
            (l.0.due (suc (length rs) - g.most) (omega arith) (omega arith)))
        | inr below ↦ ap (λ b. b || is_member (suc (length rs) - g.most) (r ∷ rs)) (le-leb _ _ below)
      ]

  pub legal_is_shaped : (r : ℕ) (rs : List ℕ) → Legal g (r ∷ rs) → IsShaped g.most g.count (pattern_node g (r ∷ rs))
  legal_is_shaped r rs l =
      let k = g.most in
      let p = suc (length rs) in
      let t = pattern_digit k (r ∷ rs) in
      let placed = legal_each_fits g (r ∷ rs) l in
      let few = few_ranks _ (r ∷ rs) (each_fits_distinct g (r ∷ rs) placed)
      (λ x i. in_from_one g x (r ∷ rs) placed i) in
      record {
        stage = few;
        digits = length-tests_from t (suc p) (2 * k);
        ones = set_digits t (suc p) (2 * k) ∙ k_digits_set (r ∷ rs) l;
        below_one = λ y from to small.
            let at : suc p + (y - suc p) ≡ y = omega arith in
            get_or-tests t (suc p) (2 * k) (y - suc p) (omega arith) ∙ ap t at
            ∙ ap (λ b. b || is_member (y - k) (r ∷ rs)) (le-leb y k small);
        above_count = λ y from to great.
            let at : suc p + (y - suc p) ≡ y = omega arith in
            get_or-tests t (suc p) (2 * k) (y - suc p) (omega arith) ∙ ap t at
            ∙ ap₂ (λ a b. a || b) (lt-leb y k (omega arith)) (not_member (y - k) (r ∷ rs)
            (λ i. let d = (in_from_one g (y - k) (r ∷ rs) placed i).1 in absurd (omega arith)));
        latest = l.0.fits.to_count;
        near = (omega arith, l.0.fits.not_early);
        latest_placed = grind (arith, cases_lt, get_or-tests, lt-leb, in_member);
      }
