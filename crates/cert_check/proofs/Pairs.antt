-- Of pairs whose seconds rise and whose costs fall, the last that is no later is the cheapest.
use Rattle.std.proofs.Common.{rules, ◌≡◌, ℕ, zero, suc, ◌<◌, ◌≤◌, Bool, true, false, ◌&&◌, ◌||◌, leb, List, [], ◌∷◌}
use Rattle.std.proofs.Common.{length, get_or, refl, ap₂, arith}
use Rattle.std.specs.List.{list_any}
use Rattle.std.proofs.lemmas.Bool.{ltb-true, and_left, and_parts}
use Rattle.cps_theory.specs.Labels.{Pair, no_worse}
use Rattle.certificate.specs.States.{rises}

rest_rises : (p : Pair) (ps : List Pair) → rises (p ∷ ps) ≡ true → rises ps ≡ true
rest_rises p ps h = search (rules, and_parts)

-- each later pair is later and cheaper
behind : (p : Pair) (ps : List Pair) → rises (p ∷ ps) ≡ true → (k : ℕ) (d : Pair) → k < length ps
    → (p.0 < (get_or ps k d).0) × ((get_or ps k d).1 < p.1)
behind p [] h k d lt = absurd (omega arith)
behind p (q ∷ ps) h zero d lt = search rules
behind p (q ∷ ps) h (suc k) d lt =
    let t = and_parts _ _ (and_parts _ _ h).0 in
    let a = ltb-true p.0 q.0 t.0 in
    let b = ltb-true q.1 p.1 t.1 in
    let m = behind q ps (and_parts _ _ h).1 k d (omega arith) in omega arith

pub seconds_rise : (ps : List Pair) → rises ps ≡ true → (i j : ℕ) (d : Pair) → i ≤ j → j < length ps
    → (get_or ps i d).0 ≤ (get_or ps j d).0
seconds_rise [] h i j d le lt = absurd (omega arith)
seconds_rise (p ∷ ps) h zero zero d le lt = omega arith
seconds_rise (p ∷ ps) h zero (suc j) d le lt = search (rules, behind)
seconds_rise (p ∷ ps) h (suc i) zero d le lt = absurd (omega arith)
seconds_rise (p ∷ ps) h (suc i) (suc j) d le lt = seconds_rise ps (rest_rises p ps h) i j d (omega arith) (omega arith)

and_yes : (a b : Bool) → a ≡ true → a && b ≡ b
and_yes a b e = cc

-- where all are later, none is no worse
pub all_later : (ps : List Pair) (q : Pair) → ((k : ℕ) (d : Pair) → k < length ps → leb (get_or ps k d).0 q.0 ≡ false)
    → list_any (λ o. no_worse o q) ps ≡ false
all_later [] q high = refl
all_later (p ∷ ps) q high = ap₂ (λ (x y : Bool). x || y) (and_left
    (leb p.0 q.0) (leb p.1 q.1) (high zero p (omega arith))) (all_later ps q (λ k d lt. high (suc k) d (omega arith)))

-- where the first m + 1 are no later and the others are later, the last of the first decides
pub last_decides : (ps : List Pair) → rises ps ≡ true → (q : Pair) (m : ℕ) → m < length ps
    → ((k : ℕ) (d : Pair) → k ≤ m → leb (get_or ps k d).0 q.0 ≡ true)
    → ((k : ℕ) (d : Pair) → m < k → k < length ps → leb (get_or ps k d).0 q.0 ≡ false) → (d : Pair)
    → list_any (λ o. no_worse o q) ps ≡ leb (get_or ps m d).1 q.1
last_decides [] h q m le low high d = absurd (omega arith)
last_decides (p ∷ ps) h q zero le low high d =
    let here = and_yes (leb p.0 q.0) (leb p.1 q.1) (low zero d (omega arith)) in
    let rest = all_later ps q (λ k e lt. high (suc k) e (omega arith) (omega arith)) in search rules
last_decides (p ∷ ps) h q (suc m) le low high d =
    let rest = last_decides ps (rest_rises p ps h) q m (omega arith) (λ k e lt. low (suc k) e (omega arith))
    (λ k e le lt. high (suc k) e (omega arith) (omega arith)) d in search (rules, behind)
