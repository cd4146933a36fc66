-- The feasible schedules of a situation are its frozen landings with feasible seconds of its problem.
use Rattle.std.proofs.Common.{◌≡◌, ◌≢◌, ℕ, suc, ◌+◌, ◌<◌, ◌≤◌, ◌⊎◌, inl, inr, List, [], ◌∷◌, map, Bool, true, ltb}
use Rattle.std.proofs.Common.{count_by, sum_by, arith, refl, sym, ap, subst, ◌∙◌}
use Rattle.std.proofs.lemmas.Bool.{cases_lt, cases_Bool, cases_order, lt-ltb, le-ltb, false≢true}
use Rattle.std.proofs.lemmas.List.Sorted.{sum_by-IsPermutation}
use Rattle.std.proofs.lemmas.List.Sums.{sum_by-cons}
use Rattle.cps_theory.specs.RankLists.{In, IsRank, upto}
use Rattle.cps_theory.specs.Feasible.{Feasible, RankedProblem, earlier, total}
use Rattle.cps_theory.specs.Freeze.{KeepsCountedShift, place_in, rank_in}
use Rattle.cps_theory.specs.NumberedSituation.{AllSeparated, FeasibleIn, NumberedSituation, ProblemOf, SoundSituation}
use Rattle.cps_theory.specs.NumberedSituation.{active}
use Rattle.cps_theory.specs.laws.FrozenSeparation.{joined_apart}
use Rattle.cps_theory.specs.laws.Members.{in_append, append_in}
use Rattle.cps_theory.specs.laws.RankCounts.{count_agree, count_is, count_map}
use Rattle.cps_theory.specs.laws.RanksBelow.{count_below, in_upto}

latest_of : (t : ℕ → ℕ) (xs : List ℕ) → (xs ≡ []) ⊎ ((x : ℕ) × In x xs × ((f : ℕ) → In f xs → t f ≤ t x))
latest_of t [] = inl refl
latest_of t (y ∷ xs) = inr (go (latest_of t xs))
  where
    go : (xs ≡ []) ⊎ ((x : ℕ) × In x xs × ((f : ℕ) → In f xs → t f ≤ t x)) → (x : ℕ) × ((x ≡ y) ⊎ In x xs)
        × ((f : ℕ) → (f ≡ y) ⊎ In f xs → t f ≤ t x)
    go (inl e) = (
      y,
      inl refl,
      λ f i. elim i [
        | inl q ↦ omega (arith, ap t q)
        | inr j ↦ absurd (rw e at j)
      ],
    )
    go (inr w) = elim (cases_lt (t y) (t w.0)) [
      | inl lt ↦ (w.0, inr w.1, λ f i. elim i [ inl q ↦ omega (arith, ap t q) | inr j ↦ w.2 f j ])
      | inr le ↦ grind arith
    ]

module _ (s : NumberedSituation) (p : RankedProblem) (at : ℕ → ℕ) (sound : SoundSituation s)
    (of : ProblemOf s p at) where
  counts : (test : ℕ → Bool) → count_by test s.waiting ≡ count_by test (map at (upto p.rules.count))
  counts test = sum_by-IsPermutation _ _ _ of.permuted

  not_itself : (a : ℕ) → s.comes_before a a ≡ true → ⊥
  not_itself a e = false≢true (sym (sound.order.one_way a a e) ∙ e)

  before_at : (q r : ℕ) → IsRank p.rules.count q → IsRank p.rules.count r → s.comes_before (at q) (at r) ≡ ltb q r
  before_at q r iq ir = grind (arith, cases_order, cases_Bool, not_itself, le-ltb, lt-ltb)

  at_differ : (q r : ℕ) → IsRank p.rules.count q → IsRank p.rules.count r → q ≢ r → at q ≢ at r
  at_differ q r iq ir ne e = elim (cases_order q r) [
    | inl s' ↦ search
    | inr (inl lt) ↦ not_itself _ (rw e at (of.at_order q r iq ir lt))
    | inr (inr lt) ↦ not_itself _ (rw e at (of.at_order r q ir iq lt))
  ]

  pub rank_is : (r : ℕ) → IsRank p.rules.count r → rank_in s.comes_before s.waiting (at r) ≡ r
  rank_is r ir =
      ap suc (counts _ ∙ count_is _ _ ∙ count_map _ at (upto p.rules.count) ∙ count_agree _ _ _
      (λ q i. before_at q r (in_upto _ q i) ir)) ∙ count_below _ r ir.0 (omega (arith, ir.1))

  place_is : (t : ℕ → ℕ) (r : ℕ) → place_in t s.waiting (at r) ≡ suc (earlier p.rules.count (λ q. t (at q)) r)
  place_is t r = ap suc (counts _ ∙ count_is _ _ ∙ count_map _ at (upto p.rules.count) ∙ sym (count_is _ _))

  pub problem_feasible : (t : ℕ → ℕ) → FeasibleIn s t → Feasible p (λ r. t (at r))
  problem_feasible t f = record {
    opened = λ r ir. of.open_is r (t (at r)) ∙ f.opened (at r) (wait r ir);
    started = λ r ir. of.start_high r (t (at r)) (f.behind (at r) (of.at_in r ir)) (λ x i late.
        let e = f.kept x i in
        let b = sound.frozen_before x i in
        let h = f.behind (at r) (of.at_in r ir) in
        let a = f.separated x (at r) (append_in x s.frozen s.waiting (inl i)) (wait r ir) (grind arith) (omega arith) in
        omega arith);
    separated = λ q r iq ir ne le. let a =
        f.separated (at q) (at r) (wait q iq) (wait r ir) (at_differ q r iq ir ne) le in omega arith;
    in_order = λ q r iq ir b. f.in_order (at q) (at r) (wait q iq) (wait r ir) (sym (of.before_is q r iq ir) ∙ b);
    not_early = λ r ir. let k =
        f.shifted (at r) (of.at_in r ir) in omega (arith, k.0, rank_is r ir, place_is t r, of.most_is);
    not_late = λ r ir. omega (arith, (f.shifted (at r) (of.at_in r ir)).1, rank_is r ir, place_is t r, of.back_is r);
  }
    where
      wait : (r : ℕ) → IsRank p.rules.count r → In (at r) (active s)
      wait r ir = append_in _ _ _ (inr (of.at_in r ir))

  pub feasible_problem : (t : ℕ → ℕ) → ((x : ℕ) → In x s.frozen → t x ≡ s.frozen_at x) → Feasible p (λ r. t (at r))
      → FeasibleIn s t
  feasible_problem t kept f = record {
    kept = kept;
    behind = behind;
    opened = λ x i. elim (in_append x s.frozen s.waiting i) [
      | inl j ↦ subst (λ u. s.is_open x u ≡ true) (sym (kept x j)) (sound.frozen_open x j)
      | inr j ↦ let w = of.at_all x j in subst (λ z. s.is_open z (t z) ≡ true) w.2 (sym (of.open_is w.0 (t (at w.0)))
          ∙ f.opened w.0 w.1)
    ];
    separated = elim (latest_of s.frozen_at s.frozen) [
      | inl none ↦ λ a b i j. waiting_apart a b (only none a i) (only none b j)
      | inr x ↦ joined_apart s.apart sound.triangle t s.horizon x.0 s.frozen s.waiting x.1 (λ a i. let e =
          kept a i in let e' = kept x.0 x.1 in let l = x.2 a i in omega arith) before behind
          (λ a b i j ne le. let e = kept a i in let q = sound.frozen_apart a b i j ne (omega arith) in omega arith)
          waiting_apart (λ g i. let w = of.at_all g i in subst (λ z. t x.0 + s.apart x.0 z ≤ t z) w.2 (let q =
          (of.start_low w.0 (t (at w.0)) (f.started w.0 w.1)).1 x.0 x.1 x.2 in omega arith))
    ];
    in_order = λ a b i j l. in_order a b (in_append a s.frozen s.waiting i) (in_append b s.frozen s.waiting j) l;
    shifted = λ x i.
        let w = of.at_all x i in
        subst (KeepsCountedShift s.most s.back s.comes_before t s.waiting) w.2 (
          omega (arith, rank_is w.0 w.1, place_is t w.0, of.most_is),
          omega (arith, rank_is w.0 w.1, place_is t w.0, of.back_is w.0),
        );
  }
    where
      only : s.frozen ≡ [] → (a : ℕ) → In a (active s) → In a s.waiting
      only none a i = rw none at i

      behind : (x : ℕ) → In x s.waiting → s.horizon ≤ t x
      behind x i = let w = of.at_all x i in rw w.2 at (of.start_low w.0 (t (at w.0)) (f.started w.0 w.1)).0

      before : (x : ℕ) → In x s.frozen → t x < s.horizon
      before x i = omega arith

      waiting_apart : AllSeparated s.apart t s.waiting
      waiting_apart a b i j ne le =
          let v = of.at_all a i in
          let w = of.at_all b j in
          let sep = f.separated v.0 w.0 v.1 w.1 (λ e. ne (cc)) (let x = ap t v.2 in omega (arith, ap t w.2)) in
          let sep' : t (at v.0) + s.apart (at v.0) (at w.0) ≤ t (at w.0) = omega arith in
          subst (λ z. t a + s.apart a z ≤ t z) w.2 (rw v.2 at sep')

      in_order : (a b : ℕ) → In a s.frozen ⊎ In a s.waiting → In b s.frozen ⊎ In b s.waiting
          → s.lists a b ≡ true → t a < t b
      in_order a b (inl i) (inl j) l = let q = sound.frozen_in_order a b i j l in omega arith
      in_order a b (inl i) (inr j) l = let y = behind b j in omega arith
      in_order a b (inr i) (inl j) l = absurd (sound.none_listed a b i j l)
      in_order a b (inr i) (inr j) l =
          let v = of.at_all a i in
          let w = of.at_all b j in grind arith

  -- what all waiting flights cost, by flight and by rank
  pub cost_is : (cost : ℕ → ℕ → ℕ) (t : ℕ → ℕ)
      → sum_by (λ f. cost f (t f)) s.waiting ≡ total (λ r. cost (at r) (t (at r))) (upto p.rules.count)
  cost_is cost t = sum_by-IsPermutation _ _ _ of.permuted ∙ summed _
    where
      summed : (rs : List ℕ) → sum_by (λ f. cost f (t f)) (map at rs) ≡ total (λ r. cost (at r) (t (at r))) rs
      summed [] = refl
      summed (r ∷ rs) = sum_by-cons _ _ (map at rs) ∙ ap (λ n. cost (at r) (t (at r)) + n) (summed rs)
