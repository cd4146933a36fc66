-- A landing trail continued by flights listed earliest first: its ranks, its cost, its order and its earliest landings.
use Rattle.std.proofs.Common.{◌≡◌, ℕ, ◌+◌, ◌≤◌, inl, inr, List, [], ◌∷◌, Option, Some, arith, refl, ap}
use Rattle.std.proofs.Common.{◌∙◌, ◌<◌, ◌⊎◌}
use Rattle.cps_theory.specs.RankLists.{In}
use Rattle.cps_theory.specs.Separation.{Landing}
use Rattle.cps_theory.specs.LandingTrail.{cost_of, latest_landing, ranks}
use Rattle.cps_theory.specs.Labels.{NeverCheaper}
use Rattle.cps_theory.specs.Feasible.{earliest}
use Rattle.cps_theory.specs.CompletingPairs.{AllLow, NoGreaterOrder, onto}
use Rattle.cps_theory.specs.FirstBest.{Ascends}
use Rattle.cps_theory.specs.laws.EarliestLandings.{NoLater}
use Rattle.cps_theory.specs.laws.LandingOrder.{Descends}
use Rattle.cps_theory.specs.laws.OptionSteps.{bound, mapped}

pub ranks_onto : (ys xs : List Landing) → ranks (onto ys xs) ≡ onto (ranks ys) (ranks xs)
ranks_onto [] xs = refl
ranks_onto (y ∷ ys) xs = ranks_onto ys _

pub cost_onto : (cost : ℕ → ℕ → ℕ) (ys xs : List Landing)
    → cost_of cost (onto ys xs) ≡ cost_of cost xs + cost_of cost ys
cost_onto cost [] xs = omega arith
cost_onto cost (y ∷ ys) xs = omega (arith, cost_onto cost ys (y ∷ xs))

pub no_later_low : (Low : ℕ → Type 0) → ((t u : ℕ) → t ≤ u → Low u → Low t) → (xs ys : List Landing)
    → NoLater xs ys → AllLow Low ys → AllLow Low xs
no_later_low Low lower [] ys n a = grind arith
no_later_low Low lower (x ∷ xs) ys n a = grind (arith, no_later_low Low lower xs)

pub no_later_cost : (cost : ℕ → ℕ → ℕ) → NeverCheaper cost → (xs ys : List Landing) → NoLater xs ys
    → cost_of cost xs ≤ cost_of cost ys
no_later_cost cost dearer (x ∷ xs) (y ∷ ys) n = grind (arith, no_later_cost cost dearer xs)
no_later_cost cost dearer xs ys n = omega arith

pub no_greater_order_antisym : (xs ys : List ℕ) → NoGreaterOrder xs ys → NoGreaterOrder ys xs → xs ≡ ys
no_greater_order_antisym [] [] a b = refl
no_greater_order_antisym [] (y ∷ ys) a b = absurd b
no_greater_order_antisym (x ∷ xs) [] a b = absurd a
no_greater_order_antisym (x ∷ xs) (y ∷ ys) (inl a) (inl b) = absurd (omega arith)
no_greater_order_antisym (x ∷ xs) (y ∷ ys) (inl a) (inr b) = absurd (omega arith)
no_greater_order_antisym (x ∷ xs) (y ∷ ys) (inr a) b = grind (arith, no_greater_order_antisym xs)

-- the last flight of an earliest landing, and those before it
pub earliest_head : (first : ℕ → ℕ → Option ℕ) (after : ℕ → ℕ → ℕ → ℕ) (r : ℕ) (rs : List ℕ) (ys : List Landing)
    → earliest first after (r ∷ rs) ≡ Some ys → (xs : List Landing) × (t : ℕ) × (earliest first after rs ≡ Some xs)
    × (first r (after (latest_landing xs).0 (latest_landing xs).1 r) ≡ Some t) × (ys ≡ (r, t) ∷ xs)
earliest_head first after r rs ys e = grind (arith, bound, mapped)

-- the earliest landings of an order are those of its front, and some behind
pub earliest_front : (first : ℕ → ℕ → Option ℕ) (after : ℕ → ℕ → ℕ → ℕ) (qs rs : List ℕ) (zs : List Landing)
    → earliest first after (onto qs rs) ≡ Some zs → (xs : List Landing) × (ys : List Landing)
    × (earliest first after rs ≡ Some xs) × (zs ≡ onto ys xs)
earliest_front first after [] rs zs e = (zs, [], e, refl)
earliest_front first after (q ∷ qs) rs zs e =
    let w = earliest_front first after qs _ zs e in
    let h = earliest_head first after q rs w.0 w.2 in
    (h.0, (q, h.1) ∷ w.1, h.2, w.3 ∙ ap (onto w.1) h.4)

pub onto_in : (z : ℕ) (qs rs : List ℕ) → In z (onto qs rs) → In z qs ⊎ In z rs
onto_in z [] rs i = inr i
onto_in z (q ∷ qs) rs i = grind (arith, onto_in z qs)

pub in_onto : (z : ℕ) (qs rs : List ℕ) → In z qs ⊎ In z rs → In z (onto qs rs)
in_onto z [] rs h = grind arith
in_onto z (q ∷ qs) rs h = grind (arith, in_onto z qs)

pub onto_descends : (t : ℕ → ℕ) (qs rs : List ℕ) → Ascends t qs → Descends t rs
    → ((q r : ℕ) → In q qs → In r rs → t r < t q) → Descends t (onto qs rs)
onto_descends t [] rs a d lt = d
onto_descends t (q ∷ qs) rs a d lt = grind (arith, onto_descends t qs)

pub onto_ascends : (t : ℕ → ℕ) (rs qs : List ℕ) → Descends t rs → Ascends t qs
    → ((q r : ℕ) → In q qs → In r rs → t r < t q) → Ascends t (onto rs qs)
onto_ascends t [] qs d a lt = a
onto_ascends t (r ∷ rs) qs d a lt = grind (arith, onto_ascends t rs)

pub onto_twice : (xs ys : List ℕ) → onto (onto xs ys) [] ≡ onto ys xs
onto_twice [] ys = refl
onto_twice (x ∷ xs) ys = onto_twice xs _
