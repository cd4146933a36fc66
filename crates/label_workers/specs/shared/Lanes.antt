-- Lists of lanes one behind another: each item stands at its place.
use Rattle.std.proofs.Common.{◌≡◌, ℕ, zero, suc, ◌+◌, ◌-◌, ◌*◌, ◌<◌, ◌≤◌, inl, inr, List, [], ◌∷◌, ◌++◌, length}
use Rattle.std.proofs.Common.{length-append, get_or, min, arith, sym, subst, ◌∙◌}
use Rattle.std.specs.List.{flat_map}
use Rattle.std.proofs.Math.Nat.{suc-mul}
use Rattle.std.proofs.lemmas.Bool.{cases_lt}
use Rattle.std.proofs.lemmas.List.{get_or_append_left, get_or-append_right}

module _ {V X : Type 0} (items_of : V → List X) (P : ℕ → X → Type 0) (size n : ℕ) where
  -- the items of the lane that begins at a place
  pub record IsLane (start : ℕ) (v : V) : Type 0 where
    pub len : length (items_of v) ≡ min size (n - start)
    pub each : (k : ℕ) (d : X) → k < length (items_of v) → P (start + k) (get_or (items_of v) k d)

  abbrev pub AreLanes : ℕ → List V → Type 0
  AreLanes base lists = (j : ℕ) (d : V) → j < length lists → IsLane (base + j * size) (get_or lists j d)

  rest_lanes : (v : V) (vs : List V) (base : ℕ) → AreLanes base (v ∷ vs) → AreLanes (base + size) vs
  rest_lanes v vs base all j d lt =
      subst (λ (s : ℕ). IsLane s (get_or vs j d)) (let m = suc-mul j size in omega arith) (all (suc j) d (omega arith))

  first_lane : (v : V) (vs : List V) (base : ℕ) → AreLanes base (v ∷ vs) → IsLane base v
  first_lane v vs base all = subst (λ (s : ℕ). IsLane s v) (omega arith) (all zero v (omega arith))

  covers_rest : (v : V) (vs : List V) (base : ℕ) → n ≤ base + length (v ∷ vs) * size
      → n ≤ (base + size) + length vs * size
  covers_rest v vs base le = let m = suc-mul (length vs) size in omega arith

  lanes_long : (lists : List V) (base : ℕ) → n ≤ base + length lists * size → AreLanes base lists
      → length (flat_map items_of lists) ≡ n - base
  lanes_long [] base whole all = omega arith
  lanes_long (v ∷ vs) base whole all =
      let rest = lanes_long vs (base + size) (covers_rest v vs base whole) (rest_lanes v vs base all) in
      let first = (first_lane v vs base all).len in
      omega (arith, length-append (items_of v) (flat_map items_of vs))

  lanes_each : (lists : List V) (base : ℕ) → AreLanes base lists → n ≤ base + length lists * size
      → (k : ℕ) (d : X) → k < n - base → P (base + k) (get_or (flat_map items_of lists) k d)
  lanes_each [] base all whole k d lt = absurd (omega arith)
  lanes_each (v ∷ vs) base all whole k d lt = elim (cases_lt k (length (items_of v))) [
    | inl here ↦ subst (P (base + k)) (sym (get_or_append_left (items_of v) (flat_map items_of vs) d k here))
        ((first_lane v vs base all).each k d here)
    | inr later ↦
        let first = (first_lane v vs base all).len in
        let full : length (items_of v) ≡ size = omega arith in
        let rest = lanes_each vs (base + size) (rest_lanes v vs base all) (covers_rest v vs base whole)
        (k - size) d (omega arith) in
        let at = get_or-append_right (items_of v) (flat_map items_of vs) size k d full (omega arith) in
        subst (λ (s : ℕ). P s (get_or (items_of v ++ flat_map items_of vs) k d)) (omega arith)
        (subst (P ((base + size) + (k - size))) (sym at) rest)
  ]

  -- the lanes of a whole list
  pub all_long : (lists : List V) → n ≤ length lists * size → AreLanes 0 lists → length (flat_map items_of lists) ≡ n
  all_long lists whole all = lanes_long lists 0 (omega (arith, whole)) all ∙ omega arith

  pub all_each : (lists : List V) → n ≤ length lists * size → AreLanes 0 lists → (k : ℕ) (d : X)
      → k < n → P k (get_or (flat_map items_of lists) k d)
  all_each lists whole all k d lt = subst (λ (s : ℕ). P s (get_or (flat_map items_of lists) k d))
      (omega arith) (lanes_each lists 0 all (omega (arith, whole)) k d (omega (arith, lt)))
