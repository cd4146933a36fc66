-- Where two problems agree, the stages that even the greatest shift keeps below that rank are led to alike.
use Rattle.std.proofs.Common.{rules, ◌≡◌, ℕ, suc, ◌+◌, ◌*◌, ◌<◌, inl, inr, List, length, true, ap, subst, ◌∙◌, arith}
use Rattle.std.proofs.Common.{[]}
use Rattle.std.specs.Prelude.{ℤ, pos, Contains}
use Rattle.std.proofs.lemmas.Int.{ints}
use Rattle.std.proofs.lemmas.Bool.{cases_lt}
use Rattle.std.proofs.lemmas.List.{get_or_default}
use Rattle.precedence.specs.Pairs.{must_precede, must_precede_decides}
use Rattle.cps_nodes.specs.Windows.{IsWindow, IsPlaced}
use Rattle.landing_rules.specs.Problem.{Problem, Waiting, AreBetweenRanks}
use Rattle.cps_problem.specs.FirstDifference.{AgreeUpTo, IsWithinBoth}
use Rattle.cps_problem.specs.shared.EarlyLandings.{same_flight}
use Rattle.cps_problem.specs.shared.OneDifference.{agree_back}
use Rattle.cps_network.specs.Lists.{AreWindows}
use Rattle.cps_network.specs.Permits.{IsPermitted, IsSuccessor, IsNextOf}

-- no window of a stage places a rank that even the greatest shift does not reach
none_above : (w k : ℕ) (xs : List ℤ) (stage rank : ℕ) → w ≡ 2 * k + 1 → IsWindow w xs → stage + k < rank
    → IsPlaced xs (pos stage) (pos rank) → ⊥
none_above w k xs stage rank odd valid far (inl due) = omega (arith, ints, due, far)
none_above w k xs stage rank odd valid far (inr (i, lt, is)) = grind arith

module _ (p q : Problem) (d : ℕ) (within : IsWithinBoth p q d) (agree : AgreeUpTo p q d)
    (between : AreBetweenRanks (length q.flights) q.pairs) (w : ℕ) (odd : w ≡ 2 * p.k + 1) where
  pub permitted_alike : (stage : ℕ) → suc stage + p.k < d → (xs : List ℤ) → IsWindow w xs → (rank : ℕ)
      → IsPermitted p stage xs rank → IsPermitted q stage xs rank
  permitted_alike stage early xs valid rank may =
      let same = agree.head.k in
      let low : rank < d = omega (arith, may.early, early) in
      let here = agree.predecessors rank may.from_one low in
      record {
        from_one = may.from_one;
        to_count = omega (arith, within.1, low);
        early = omega (arith, may.early, same);
        late = omega (arith, may.late, same, ap (λ (f : Waiting). f.passed) (same_flight p q d within agree rank low));
        accepted = may.accepted;
        after = λ first must.
            let test : must_precede q.pairs first rank ≡ true = (must_precede_decides q.pairs first rank).1 must in
            let one = (between first rank test).0 in
            elim (cases_lt first d) [
              | inl below ↦ grind arith
              | inr above ↦ (
                  let other = here.from.1 (first, above, test) in
                  absurd (none_above w p.k xs stage other.0 odd valid (let a = other.1 in omega (arith, a, early))
                  (may.after other.0 ((must_precede_decides p.pairs other.0 rank).0 other.2)))
                  )
            ];
      }

  pub successor_alike : (stage : ℕ) → suc stage + p.k < d → (xs next : List ℤ) → IsWindow w xs
      → IsSuccessor p stage xs next → IsSuccessor q stage xs next
  successor_alike stage early xs next valid (rank, may, e) = search (rules, permitted_alike)

-- in both directions
module _ (p q : Problem) (d : ℕ) (within : IsWithinBoth p q d) (agree : AgreeUpTo p q d)
    (bp : AreBetweenRanks (length p.flights) p.pairs) (bq : AreBetweenRanks (length q.flights) q.pairs)
    (w : ℕ) (odd : w ≡ 2 * p.k + 1) where
  odd_there : w ≡ 2 * q.k + 1
  odd_there = cc

  there : (stage : ℕ) → suc stage + p.k < d → (xs next : List ℤ) → IsWindow w xs → IsSuccessor p stage xs next
      → IsSuccessor q stage xs next
  there = successor_alike p q d within agree bq w odd

  back : (stage : ℕ) → suc stage + p.k < d → (xs next : List ℤ) → IsWindow w xs → IsSuccessor q stage xs next
      → IsSuccessor p stage xs next
  back stage early xs next valid s =
      let same = agree.head.k in
      successor_alike q p d (within.1, within.0) (agree_back p q d agree) bp w odd_there stage
      (omega (arith, early, same)) xs next valid s

  -- the windows that extend those of an early stage
  pub kept_next : (stage : ℕ) (before after : List (List ℤ)) → suc stage + p.k < d → AreWindows w before
      → IsNextOf p stage before after → IsNextOf q stage before after
  kept_next stage before after early valid next = λ x. (
    λ has. let a = (next x).0 has in grind (arith, there, valid_in),
    λ a. (next x).1 (a.0, a.1, back stage early a.0 x (valid_in a.0 a.1) a.2),
  )
    where
      valid_in : (window : List ℤ) → Contains before window → IsWindow w window
      valid_in window (i, lt, at) = subst (IsWindow w) (get_or_default before i [] window lt ∙ at) (valid i lt)
