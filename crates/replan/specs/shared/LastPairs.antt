-- A list of a window has a pair; where it falls in cost the first is its earliest and the last its cheapest.
use Rattle.std.specs.Prelude.{ℤ}
use Rattle.std.proofs.lemmas.List.Elements.{Contains-get_or}
use Rattle.std.proofs.Common.{◌≡◌, ℕ, ◌-◌, ◌<◌, ◌≤◌, suc, List, [], ◌∷◌, length, inl, inr, refl, ap, arith}
use Rattle.cps_theory.specs.Labels.{InPairs, Pair}
use Rattle.cps_theory.specs.UndominatedPairs.{Staircase}
use Rattle.landing_rules.specs.Problem.{Problem}
use Rattle.cps_network.specs.Lists.{node_at}
use Rattle.cps_network.specs.Pairs.{HoldsCosts, list_at, pair_at}
use Rattle.replan.specs.Labels.{last_pair}

last_of_rest : (x y : Pair) (ys : List Pair) → (last_pair (x ∷ y ∷ ys)).1 ≡ (last_pair (y ∷ ys)).1
last_of_rest x y ys = (let e : length (x ∷ y ∷ ys) - 1 ≡ suc (length (y ∷ ys) - 1) =
    omega arith in ap (λ n. (pair_at (x ∷ y ∷ ys) n).1) e)

pub last_cheapest : (xs : List Pair) → Staircase xs → (q : Pair) → InPairs q xs → (last_pair xs).1 ≤ q.1
last_cheapest [] s q i = absurd i
last_cheapest (x ∷ []) s q (inl e) = (let f : q.1 ≡ x.1 = ap (λ z. z.1) e in omega arith)
last_cheapest (x ∷ []) s q (inr i) = absurd i
last_cheapest (x ∷ y ∷ ys) s q (inl e) =
    let f : q.1 ≡ x.1 = ap (λ z. z.1) e in
    let a = (s.0 y (inl refl)).1 in
    let b = last_cheapest (y ∷ ys) s.1 y (inl refl) in
    let c = last_of_rest x y ys in
    omega arith
last_cheapest (x ∷ y ∷ ys) s q (inr i) =
    (let b = last_cheapest (y ∷ ys) s.1 q i in let c = last_of_rest x y ys in omega arith)

pub first_least : (xs : List Pair) → Staircase xs → (q : Pair) → InPairs q xs → (pair_at xs 0).0 ≤ q.0
first_least [] s q i = absurd i
first_least (x ∷ xs) s q (inl e) = omega (arith, ap (λ z. z.0) e)
first_least (x ∷ xs) s q (inr i) = omega arith

-- each kept list has a pair
pub list_some : (p : Problem) (stage : ℕ × List (List ℤ)) (lists : List (List Pair)) → HoldsCosts p stage lists
    → (i : ℕ) → i < length stage.1 → 0 < length (list_at lists i)
list_some p stage lists h i lt =
    let l = (h.landable (node_at stage.1 i)).0 (Contains-get_or stage.1 i [] lt) in
    let o = (h.costs.pairs i lt).covers l.0 l.1 in
    some _ o.0 o.1
  where
    some : (pairs : List Pair) (q : Pair) → InPairs q pairs → 0 < length pairs
    some [] q i = absurd i
    some (x ∷ pairs) q i = omega arith
