-- The flights that stay keep the shift rule when the front of a plan freezes, also with less leave to go back.
use Rattle.std.proofs.Common.{◌≡◌, ◌≢◌, ℕ, suc, ◌+◌, ◌-◌, ◌<◌, ◌≤◌, inl, inr, List, [], ◌∷◌, map, Bool, true, false}
use Rattle.std.proofs.Common.{◌&&◌, ltb, leb, max, nat_lt, arith, refl, ap}
use Rattle.std.proofs.lemmas.Bool.{cases_Bool, ltb-true, lt-ltb, le-ltb, le-leb, and_from}
use Rattle.cps_theory.specs.RankLists.{Distinct, In}
use Rattle.cps_theory.specs.Freeze.{FirstCome, KeepsCountedShift, frozen_of, overtook, staying_of}
use Rattle.cps_theory.specs.laws.Members.{distinct_filter, in_filter}
use Rattle.cps_theory.specs.laws.RankCounts.{count_map, count_parts, count_split, count_stricter, count_weaker, count}
use Rattle.cps_theory.specs.laws.RankCounts.{count_is, count_between}

pub not_before_itself : (comes_before : ℕ → ℕ → Bool) → FirstCome comes_before → (f : ℕ) → comes_before f f ≡ false
not_before_itself comes_before order f = elim (cases_Bool _) [ inl e ↦ order.one_way f f e | inr e ↦ e ]

module _ (comes_before : ℕ → ℕ → Bool) (order : FirstCome comes_before) (t : ℕ → ℕ) (waiting : List ℕ)
    (k h : ℕ) (back : ℕ → ℕ) (differ : Distinct waiting) (shift : (f : ℕ) → In f waiting
    → KeepsCountedShift k back comes_before t waiting f) where
  rank : ℕ → ℕ
  rank f = suc (count (λ g. comes_before g f) waiting)

  place : ℕ → ℕ
  place f = suc (count (λ g. nat_lt (t g) (t f)) waiting)

  shift_of : (f : ℕ) → In f waiting → (rank f ≤ place f + k) × (place f ≤ rank f + back f)
  unfolding rank place
  shift_of f i = grind (arith, count_is)

  rank_rises : (a b : ℕ) → In a waiting → comes_before a b ≡ true → rank a < rank b
  unfolding rank
  rank_rises a b i e = grind (arith, count_stricter, not_before_itself)

  place_rises : (a b : ℕ) → In a waiting → t a < t b → place a < place b
  unfolding place
  place_rises a b i lt = grind (arith, count_stricter, le-ltb, lt-ltb, ltb-true)

  ranks_differ : (xs : List ℕ) → Distinct xs → ((x : ℕ) → In x xs → In x waiting) → Distinct (map rank xs)
  ranks_differ [] d in' = tt
  ranks_differ (x ∷ xs) d in' = (λ i. apart xs d.0 (λ y j. in' y (inr j)) i, ranks_differ xs d.1 (λ y j. in' y (inr j)))
    where
      unequal : (y : ℕ) → In y waiting → x ≢ y → rank x ≢ rank y
      unequal y j ne e = grind (arith, cases_Bool, rank_rises)

      apart : (ys : List ℕ) → (In x ys → ⊥) → ((y : ℕ) → In y ys → In y waiting) → In (rank x) (map rank ys) → ⊥
      apart [] out in'' i = i
      apart (y ∷ ys) out in'' (inl e) = unequal y (in'' y (inl refl)) (λ s. out (inl s)) e
      apart (y ∷ ys) out in'' (inr i) = apart ys (λ j. out (inr j)) (λ z j. in'' z (inr j)) i

  -- at most max(0, d + k - 1) flights that come later freeze before it, for d = place - rank
  few_overtook : (f : ℕ) → In f waiting → h ≤ t f
      → count (λ g. comes_before f g) (frozen_of t h waiting) + rank f ≤ max (rank f) (place f - 1 + k)
  few_overtook f i at =
      let froze = frozen_of t h waiting in
      let d = ranks_differ froze (distinct_filter _ _ differ)
      (λ x j. (in_filter (λ g. nat_lt (t g) h) x waiting j).0) in
      let between = count_between (rank f) (place f - 1 + k) (map rank froze) d in
      let same = count_map (λ x. ltb (rank f) x && leb x (place f - 1 + k)) rank froze in
      let fewer = count_weaker _ _ froze (λ g j q.
      let w = in_filter (λ z. nat_lt (t z) h) g waiting j in
      let lt = ltb-true (t g) h w.1 in
      let r = rank_rises f g i q in
      let p = place_rises g f w.0 (omega arith) in
      let s = shift_of g w.0 in
      and_from _ _ (lt-ltb (rank f) (rank g) r) (le-leb (rank g) (place f - 1 + k) (omega (arith, s.0)))) in omega arith

  -- so a flight that stays keeps the rule, also if it may go back less by as many as overtook it
  pub stays_shifted : (f : ℕ) → In f waiting → h ≤ t f
      → KeepsCountedShift k (λ g. back g - overtook comes_before t h waiting g) comes_before t
      (staying_of t h waiting) f
  unfolding rank place
  stays_shifted f i at =
      let early = λ (g : ℕ). nat_lt (t g) h in
      let froze = frozen_of t h waiting in
      let stay = staying_of t h waiting in
      let few = few_overtook f i at in
      let s = shift_of f i in
      let ranks = count_parts (λ g. comes_before g f) early waiting in
      let places = count_parts (λ g. nat_lt (t g) (t f)) early waiting in
      let split = count_split _ _ (λ g. nat_lt (t g) (t f)) _ (λ g j.
      let lt = ltb-true (t g) h (in_filter early g waiting j).1 in
      let yes' = lt-ltb _ _ (omega arith) in
      let ne : f ≢ g = λ e. let q = ap t e in omega arith in
      elim (cases_Bool _) [
        | inl b ↦ inr (inl (yes', order.one_way f g b, b))
        | inr b ↦ inl (yes', order.total f g ne b, b)
      ]) in grind (arith, count_is)
