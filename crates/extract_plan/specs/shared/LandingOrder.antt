-- The seconds of a landing order, pair by pair, and as a landing trail with the latest first.
use Rattle.std.proofs.Common.{◌≡◌, ℕ, zero, suc, ◌+◌, ◌<◌, ◌≤◌, ◌⊎◌, inl, inr, true, List, [], ◌∷◌, ◌++◌, length}
use Rattle.std.proofs.Common.{get_or, take, drop, reverse, refl, ap, ◌∙◌, arith, le_trans}
use Rattle.std.proofs.lemmas.Bool.{cases_eq}
use Rattle.std.proofs.lemmas.List.{length-reverse, take_all}
use Rattle.landing_rules.specs.Flights.{Schedule}
use Rattle.landing_rules.specs.Problem.{Problem}
use Rattle.wake_table.specs.declared.category.Category.{Category}
use Rattle.wake_table.specs.Table.{IsWakeTable}
use Rattle.cps_theory.specs.Separation.{Landing}
use Rattle.cps_theory.specs.RankLists.{In, of_rank, IsRank}
use Rattle.cps_theory.specs.LandingTrail.{Landed, latest_landing}
use Rattle.cps_theory.specs.Feasible.{next_from, at_seconds}
use Rattle.cps_theory.specs.laws.OrderLoops.{front_more, front_whole, in_reverse_take}
use Rattle.cps_theory.specs.laws.RanksOfList.{all_ranks}
use Rattle.landing_joint.specs.RankedProblem.{no_waiting, ranked, start_at, apart_at}
use Rattle.extract_plan.specs.Orders.{IsWholeOrder, LandsInOrder}

pub front_step : (order : List ℕ) (i : ℕ) → i < length order
    → reverse (take (suc i) order) ≡ get_or order i 0 ∷ reverse (take i order)
front_step order i lt = let e : suc i ≡ i + 1 = omega arith in ap (λ k. reverse (take k order)) e
    ∙ front_more order i 0 lt

module _ (p : Problem) where
  abbrev pub Trail : List Landing → Type 0
  Trail = Landed (λ r u. (ranked p).is_open r u ≡ true) (next_from (ranked p))

  abbrev pub by_seconds : Schedule → List ℕ → List Landing
  by_seconds t rs = at_seconds (of_rank 0 t) rs

  -- ---- from the pairs to the trail

  next_low : (l u r t : ℕ) → start_at p r ≤ t → (1 ≤ l → u + apart_at p l r ≤ t) → next_from (ranked p) l u r ≤ t
  next_low zero u r t s a = s
  next_low (suc l) u r t s a = omega (arith, a (omega arith))

  pub front_lands : (order : List ℕ) (t : Schedule) → IsWholeOrder (length p.flights) order
      → LandsInOrder p order t → (i : ℕ) → i ≤ length order → Trail (by_seconds t (reverse (take i order)))
  front_lands order t w l zero le = tt
  front_lands order t w l (suc i) le =
      let r = get_or order i 0 in
      let q : IsRank (length p.flights) r = w.ranks i 0 (omega arith) in
      let more : reverse (take (suc i) order) ≡ r ∷ reverse (take i order) = front_step order i (omega arith) in
      rw more (l.open_seconds r q, behind i (omega arith), front_lands order t w l i (omega arith))
    where
      behind : (i : ℕ) → i < length order
          → next_from (ranked p) (latest_landing (by_seconds t (reverse (take i order)))).0
          (latest_landing (by_seconds t (reverse (take i order)))).1 (get_or order i 0) ≤ of_rank 0 t (get_or order i 0)
      behind zero lt = l.started (get_or order 0 0) (w.ranks 0 0 lt)
      behind (suc j) lt =
          let r = get_or order (suc j) 0 in
          let q = get_or order j 0 in
          let more : reverse (take (suc j) order) ≡ q ∷ reverse (take j order) = front_step order j (omega arith) in
          rw more (next_low q _ r _ (l.started r (w.ranks (suc j) 0 lt))
          (λ _. l.separated j (suc j) (omega arith) lt))

  pub order_lands : (order : List ℕ) (t : Schedule) → IsWholeOrder (length p.flights) order
      → LandsInOrder p order t → Trail (by_seconds t (reverse order))
  order_lands order t w l = rw (take_all (length order) order (omega arith)) at
      (front_lands order t w l (length order) (omega arith))

  -- ---- from the trail to the pairs

  abbrev category : ℕ → Category
  category x = (of_rank no_waiting p.flights x).category

  from_last : (l u r : ℕ) → start_at p r ≤ next_from (ranked p) l u r
  from_last zero u r = omega arith
  from_last (suc l) u r = omega arith

  after_last : (l u r : ℕ) → 1 ≤ l → u + apart_at p l r ≤ next_from (ranked p) l u r
  after_last zero u r one = absurd (omega arith)
  after_last (suc l) u r one = omega arith

  behind_lands : (t : Schedule) (rs qs : List ℕ) → Trail (by_seconds t (rs ++ qs)) → Trail (by_seconds t qs)
  behind_lands t [] qs l = l
  behind_lands t (r ∷ rs) qs l = behind_lands t rs qs l.2

  lands_at : (t : Schedule) (x : ℕ) (rs : List ℕ) → Trail (by_seconds t rs) → In x rs
      → ((ranked p).is_open x (of_rank 0 t x) ≡ true) × (start_at p x ≤ of_rank 0 t x)
  lands_at t x [] l i = absurd i
  lands_at t x (r ∷ rs) l (inl e) = rw e (l.0, le_trans (from_last _ _ r) l.1)
  lands_at t x (r ∷ rs) l (inr i) = lands_at t x rs l.2 i

  apart_head : IsWakeTable p.table → (t : Schedule) (y r : ℕ) (rs : List ℕ) → ((x : ℕ) → In x rs → 1 ≤ x)
      → Trail (by_seconds t (r ∷ rs)) → In y rs → of_rank 0 t y + apart_at p y r ≤ of_rank 0 t r
  apart_head table t y r [] one l i = absurd i
  apart_head table t y r (q ∷ rs) one l i = go i (apart_head table t y q rs (λ x m. one x (inr m)) l.2)
    where
      near : of_rank 0 t q + apart_at p q r ≤ of_rank 0 t r
      near = le_trans (after_last q _ r (one q (inl refl))) l.1

      go : (y ≡ q) ⊎ In y rs → (In y rs → of_rank 0 t y + apart_at p y q ≤ of_rank 0 t q)
          → of_rank 0 t y + apart_at p y r ≤ of_rank 0 t r
      go (inl e) ih = rw e near
      go (inr j) ih = let a = ih j in let b = table.triangle (category y) (category q) (category r) in omega
          (arith, near)

  in_front : (order : List ℕ) (i j : ℕ) → i < j → j ≤ length order → In (get_or order i 0) (reverse (take j order))
  in_front order i zero lt le = absurd (omega arith)
  in_front order i (suc j) lt le =
      let more : reverse (take (suc j) order) ≡ get_or order j 0 ∷ reverse (take j order) = front_step order j
      (omega arith) in
      rw more (elim (cases_eq i j) [
        | inl e ↦ inl (ap (λ k. get_or order k 0) e)
        | inr ne ↦ inr (in_front order i j (omega arith) (omega arith))
      ])

  -- the ranks of a whole order
  pub in_order : (order : List ℕ) → IsWholeOrder (length p.flights) order → (x : ℕ) → In x (reverse order)
      → IsRank (length p.flights) x
  in_order order w x m = in_reverse_take (IsRank (length p.flights)) order w.ranks (length order) x
      (rw (take_all (length order) order (omega arith)) m)

  pub has_ranks : (order : List ℕ) → IsWholeOrder (length p.flights) order → (r : ℕ) → IsRank (length p.flights) r
      → In r (reverse order)
  has_ranks order w r q = all_ranks _ _ w.distinct (in_order order w) (length-reverse order ∙ w.whole) r q

  pub trail_lands : IsWakeTable p.table → (order : List ℕ) (t : Schedule) → IsWholeOrder (length p.flights) order
      → length t ≡ length p.flights → Trail (by_seconds t (reverse order)) → LandsInOrder p order t
  trail_lands table order t w long l =
      let there = has_ranks order w in
      record {
        one_each = long;
        open_seconds = λ r q. (lands_at t r _ l (there r q)).0;
        started = λ r q. (lands_at t r _ l (there r q)).1;
        separated = λ i j lt within.
            let split : reverse order ≡ reverse (drop (j + 1) order) ++ get_or order j 0 ∷ reverse (take j order) =
            front_whole order j 0 within in
            let back = behind_lands t _ (get_or order j 0 ∷ reverse (take j order)) (rw split at l) in
            apart_head table t _ _ _ (in_reverse_take (λ x. 1 ≤ x) order (λ k d m. (w.ranks k d m).0) j) back
            (in_front order i j lt (omega arith));
      }
