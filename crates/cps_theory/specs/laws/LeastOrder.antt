-- Of the lists of ranks of one length for which something holds that can be decided, there is a least one by any total
-- order, or there is none.
use Rattle.std.proofs.lemmas.Grind.{common_steps}
use Rattle.std.proofs.Common.{◌≡◌, ℕ, zero, suc, ◌<◌, ◌≤◌, ◌⊎◌, inl, inr, List, [], ◌∷◌, length, arith, refl, sym}
use Rattle.std.proofs.Common.{subst, le_refl}
use Rattle.std.proofs.lemmas.Bool.{cases_lt}
use Rattle.cps_theory.specs.RankLists.{In, IsRank}

-- it holds or it does not
abbrev pub Decided : Type 0 → Type 0
Decided P = P ⊎ (P → ⊥)

-- a list of m ranks of n flights
pub record AreRanks (m n : ℕ) (xs : List ℕ) : Type 0 where
  pub long : length xs ≡ m
  pub ranked : (x : ℕ) → In x xs → IsRank n x

module _ (n : ℕ) (P : List ℕ → Type 0) (decide : (xs : List ℕ) → Decided (P xs)) (Before : List ℕ
    → List ℕ → Type 0) (total : (xs ys : List ℕ) → Before xs ys ⊎ Before ys xs) (chain : (xs ys zs : List ℕ)
    → Before xs ys → Before ys zs → Before xs zs) where
  -- the least of m ranks that end a list
  pub record LeastEnd (m : ℕ) (build : List ℕ → List ℕ) : Type 0 where
    pub end : List ℕ
    pub ranks : AreRanks m n end
    pub holds : P (build end)
    pub least : (ys : List ℕ) → AreRanks m n ys → P (build ys) → Before (build end) (build ys)

  abbrev NoEnd : ℕ → (List ℕ → List ℕ) → Type 0
  NoEnd m build = (ys : List ℕ) → AreRanks m n ys → P (build ys) → ⊥

  -- the same where the first of them is at most j
  pub record LeastUpTo (m j : ℕ) (build : List ℕ → List ℕ) : Type 0 where
    pub head : ℕ
    pub tail : List ℕ
    pub ranks : AreRanks (suc m) n (head ∷ tail)
    pub holds : P (build (head ∷ tail))
    pub least : (y : ℕ) (ys : List ℕ) → y ≤ j → AreRanks (suc m) n (y ∷ ys) → P (build (y ∷ ys))
        → Before (build (head ∷ tail)) (build (y ∷ ys))

  abbrev NoneUpTo : ℕ → ℕ → (List ℕ → List ℕ) → Type 0
  NoneUpTo m j build = (y : ℕ) (ys : List ℕ) → y ≤ j → AreRanks (suc m) n (y ∷ ys) → P (build (y ∷ ys)) → ⊥

  tail_ranks : (m y : ℕ) (ys : List ℕ) → AreRanks (suc m) n (y ∷ ys) → AreRanks m n ys
  tail_ranks m y ys r = record { long = omega arith; ranked = λ x i. r.ranked x (inr i) }

  more_ranks : (m y : ℕ) (ys : List ℕ) → IsRank n y → AreRanks m n ys → AreRanks (suc m) n (y ∷ ys)
  more_ranks m y ys q r = grind arith

  head_cases : (j y : ℕ) → y ≤ suc j → (y ≤ j) ⊎ (y ≡ suc j)
  head_cases j y le = elim (cases_lt j y) [ inl lt ↦ inr (omega arith) | inr le' ↦ inl le' ]

  one_more : (m j : ℕ) (build : List ℕ → List ℕ) → j < n → LeastUpTo m j build ⊎ NoneUpTo m j build
      → LeastEnd m (λ xs. build (suc j ∷ xs)) ⊎ NoEnd m (λ xs. build (suc j ∷ xs))
      → LeastUpTo m (suc j) build ⊎ NoneUpTo m (suc j) build
  one_more m j build lt x (inr none') = grind (arith, head_cases, tail_ranks)
  one_more m j build lt (inr none) (inl b) = inl (record {
    head = suc j;
    tail = b.end;
    ranks = more_ranks m (suc j) b.end (omega arith, omega arith) b.ranks;
    holds = b.holds;
    least = λ y ys le r h. elim (head_cases j y le) [
      | inl low ↦ absurd (none y ys low r h)
      | inr e ↦ subst (λ z. Before (build (suc j ∷ b.end)) (build (z ∷ ys))) (sym e)
          (b.least ys (tail_ranks m y ys r) (subst (λ z. P (build (z ∷ ys))) e h))
    ];
  })
  one_more m j build lt (inl a) (inl b) = elim (total (build (a.head ∷ a.tail)) (build (suc j ∷ b.end))) [
    | inl before ↦ grind arith
    | inr after ↦ inl (record {
      head = suc j;
      tail = b.end;
      ranks = more_ranks m (suc j) b.end (omega arith, omega arith) b.ranks;
      holds = b.holds;
      least = λ y ys le r h. elim (head_cases j y le) [
        | inl low ↦ chain (build (suc j ∷ b.end)) (build (a.head ∷ a.tail)) (build (y ∷ ys)) after
            (a.least y ys low r h)
        | inr e ↦ subst (λ z. Before (build (suc j ∷ b.end)) (build (z ∷ ys))) (sym e)
            (b.least ys (tail_ranks m y ys r) (subst (λ z. P (build (z ∷ ys))) e h))
      ];
    })
  ]

  heads : (m j : ℕ) (build : List ℕ → List ℕ) → j ≤ n
      → ((i : ℕ) → LeastEnd m (λ xs. build (suc i ∷ xs)) ⊎ NoEnd m (λ xs. build (suc i ∷ xs)))
      → LeastUpTo m j build ⊎ NoneUpTo m j build
  heads m zero build le ends = inr (λ y ys low r h. omega (arith, (r.ranked y (inl refl)).0))
  heads m (suc j) build le ends = one_more m j _ (omega arith) (heads m j _ (omega arith) ends) (ends j)

  whole : (m : ℕ) (build : List ℕ → List ℕ) → LeastUpTo m n build ⊎ NoneUpTo m n build
      → LeastEnd (suc m) build ⊎ NoEnd (suc m) build
  whole m build (inl a) = inl (record { end = a.head ∷ a.tail; ranks = a.ranks; holds = a.holds; least = least })
    where
      least : (ys : List ℕ) → AreRanks (suc m) n ys → P (build ys) → Before (build (a.head ∷ a.tail)) (build ys)
      least [] r h = absurd (omega arith)
      least (y ∷ ys) r h = a.least y ys (r.ranked y (inl refl)).1 r h
  whole m build (inr none) = inr never
    where
      never : (ys : List ℕ) → AreRanks (suc m) n ys → P (build ys) → ⊥
      never [] r h = omega arith
      never (y ∷ ys) r h = none y ys (r.ranked y (inl refl)).1 r h

  itself : (xs : List ℕ) → Before xs xs
  itself xs = elim (total xs xs) [ inl b ↦ b | inr b ↦ b ]

  empty : (build : List ℕ → List ℕ) → Decided (P (build [])) → LeastEnd 0 build ⊎ NoEnd 0 build
  empty build x = grind (arith, common_steps, itself)

  pub least_end : (m : ℕ) (build : List ℕ → List ℕ) → LeastEnd m build ⊎ NoEnd m build
  least_end zero build = empty _ (decide (build []))
  least_end (suc m) build = whole m _ (heads m n _ (le_refl n) (λ i. least_end m _))
