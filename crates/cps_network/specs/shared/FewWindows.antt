-- A stage has few windows: at most w ^ w different ones of w offsets each.
use Rattle.std.proofs.Common.{[], ◌≡◌, ℕ, suc, ◌/◌, ◌%◌, ◌^◌, ◌<◌, ◌≤◌, inl, inr, List, ◌∷◌, length, map, refl, sym}
use Rattle.std.proofs.Common.{arith}
use Rattle.std.specs.Prelude.{ℤ, pos, ◌+ℤ◌, ◌-ℤ◌, ◌≤ℤ◌}
use Rattle.std.specs.List.{AllByRecursion}
use Rattle.std.proofs.lemmas.Bool.{cases_eq}
use Rattle.std.proofs.lemmas.List.{length-map}
use Rattle.std.specs.declared.cmp.Ordering.TheVariants.{Less}
use Rattle.cps_nodes.specs.Windows.{IsWidth, IsWindow, offset_at}
use Rattle.cps_nodes.specs.WindowOrder.{window_cmp}
use Rattle.cps_theory.specs.WindowLists.{DistinctLists, InLists, Sized, raised}
use Rattle.cps_theory.specs.laws.NumberOfWindows.{few_lists}
use Rattle.cps_network.specs.Lists.{AreWindows, IsAscending, most_in_a_stage, node_at}
use Rattle.cps_network.specs.shared.OneDue.{never_both}

-- an offset of at most k places, forward or back
abbrev IsNear : ℕ → ℤ → Type 0
IsNear k o = (pos 0 ≤ℤ (o +ℤ pos k)) × (o ≤ℤ pos k)

abbrev AreNear : ℕ → List ℤ → Type 0
AreNear k xs = AllByRecursion (IsNear k) xs

-- such an offset plus k is below 2k + 1, and tells the offset
all_low : (w : ℕ) (xs : List ℤ) → w % 2 ≡ 1 → AreNear (w / 2) xs → AllByRecursion (λ x. x < w) (map (raised (w / 2)) xs)
all_low w [] odd near = tt
all_low w (x ∷ xs) odd near = grind (arith, (all_low w xs odd near.1))

all_back : (k : ℕ) (xs : List ℤ) → AreNear k xs → map (λ n. pos n -ℤ pos k) (map (raised k) xs) ≡ xs
all_back k [] near = refl
all_back k (x ∷ xs) near = grind (arith, (all_back k xs near.1))

same_raised : (k : ℕ) (xs ys : List ℤ) → AreNear k xs → AreNear k ys → map (raised k) xs ≡ map (raised k) ys → xs ≡ ys
same_raised k xs ys a b e = grind (arith, all_back)

-- ---- the offsets of a window

near_all : (k : ℕ) (xs : List ℤ) → ((i : ℕ) → i < length xs → IsNear k (offset_at xs i)) → AreNear k xs
near_all k [] h = tt
near_all k (x ∷ xs) h = (h 0 (omega arith), near_all k xs (λ i lt. h (suc i) (omega arith)))

window_near : (w : ℕ) (xs : List ℤ) → IsWindow w xs → AreNear (w / 2) xs
window_near w xs v = grind (arith, near_all)

window_sized : (w : ℕ) (xs : List ℤ) → IsWindow w xs → Sized w w (map (raised (w / 2)) xs)
window_sized w xs v = grind (arith, length-map, all_low, window_near)

-- ---- different windows

-- the window at whose place a list holds what another window tells
place_in : (w : ℕ) (x : List ℤ) (xs : List (List ℤ)) → IsWindow w x → AreWindows w xs
    → InLists (map (raised (w / 2)) x) (map (map (raised (w / 2))) xs) → (i : ℕ) × (i < length xs) × (node_at xs i ≡ x)
place_in w x [] v vs i = absurd i
place_in w x (y ∷ ys) v vs (inl e) =
    (0, omega arith, sym (same_raised (w / 2) x y (window_near w x v) (window_near w y (vs 0 (omega arith))) e))
place_in w x (y ∷ ys) v vs (inr i) = let a = place_in w x ys v (λ j lt. vs (suc j) (omega arith)) i in
    (suc a.0, (let b = a.1 in omega arith), a.2)

different : (w : ℕ) (xs : List (List ℤ)) → IsAscending xs → AreWindows w xs
    → DistinctLists (map (map (raised (w / 2))) xs)
different w [] up vs = tt
different w (x ∷ xs) up vs = (
  λ i.
      let a = place_in w x xs (vs 0 (omega arith)) (λ j lt. vs (suc j) (omega arith)) i in
      let less : window_cmp x (node_at xs a.0) ≡ Less = up 0 (suc a.0) (omega arith) (omega (arith, a.1)) in
      grind (arith, never_both x x),
  different w xs (λ i j lt within. up (suc i) (suc j) (omega arith) (omega arith)) (λ j lt. vs (suc j) (omega arith)),
)

all_sized : (w : ℕ) (xs : List (List ℤ)) → AreWindows w xs → AllByRecursion (Sized w w) (map (map (raised (w / 2))) xs)
all_sized w [] vs = tt
all_sized w (x ∷ xs) vs = (window_sized w x (vs 0 (omega arith)), all_sized w xs (λ j lt. vs (suc j) (omega arith)))

pub few_windows : (w : ℕ) (windows : List (List ℤ)) → IsAscending windows → AreWindows w windows
    → length windows ≤ w ^ w
few_windows w windows up vs = grind (arith, length-map, few_lists, all_sized, different)

power_low : (w : ℕ) → IsWidth w → w ^ w ≤ most_in_a_stage
power_low w is = elim (cases_eq w 1) [
  | inl e ↦ grind arith
  | inr not_one ↦ elim (cases_eq w 3) [
    | inl e ↦ grind arith
    | inr not_three ↦ elim (cases_eq w 5) [
      | inl e ↦ grind arith
      | inr not_five ↦ let e : w ≡ 7 = omega arith in grind arith
    ]
  ]
]

pub number_low : (w : ℕ) (windows : List (List ℤ)) → IsAscending windows → AreWindows w windows
    → length windows ≤ most_in_a_stage
number_low w [] up vs = omega arith
number_low w (x ∷ xs) up vs =
    omega (arith, few_windows w (x ∷ xs) up vs, power_low w (vs 0 (omega arith)).is_width)
