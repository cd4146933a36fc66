-- Two lists in one strict order that have the same members are equal.
use Rattle.std.proofs.Common.{arith}
use Rattle.std.proofs.Common.{◌≡◌, inl, inr, List, [], ◌∷◌, refl, sym, ap₂}
use Rattle.landing_rules.specs.shared.Counting.{Member}

-- each comes before all that stand behind it
abbrev pub AscendBy : {X : Type 0} → (X → X → Type 0) → List X → Type 0
AscendBy {X} Lt [] = Unit {0}
AscendBy {X} Lt (x ∷ xs) = ((y : X) → Member y xs → Lt x y) × AscendBy Lt xs

module _ {X : Type 0} (Lt : X → X → Type 0) (one_way : (x y : X) → Lt x y → Lt y x → ⊥) where
  same_head : (x y : X) (xs ys : List X) → AscendBy Lt (x ∷ xs) → AscendBy Lt (y ∷ ys) → Member x (y ∷ ys)
      → Member y (x ∷ xs) → x ≡ y
  same_head x y xs ys a b h j = grind arith

  -- an element of the one tail is one of the other
  in_tail : (x y : X) (xs ys : List X) → x ≡ y → AscendBy Lt (x ∷ xs) → (z : X) → Member z xs
      → Member z (y ∷ ys) → Member z ys
  in_tail x y xs ys e a z i h = grind arith

  pub one_list : (xs ys : List X) → AscendBy Lt xs → AscendBy Lt ys → ((z : X) → Member z xs → Member z ys)
      → ((z : X) → Member z ys → Member z xs) → xs ≡ ys
  one_list [] [] a b h k = refl
  one_list [] (y ∷ ys) a b h k = absurd (k y (inl refl))
  one_list (x ∷ xs) [] a b h k = absurd (h x (inl refl))
  one_list (x ∷ xs) (y ∷ ys) a b h k =
      let e = same_head x y xs ys a b (h x (inl refl)) (k y (inl refl)) in
      ap₂ (λ (z : X) (zs : List X). z ∷ zs) e (one_list xs ys a.1 b.1 (λ z i. in_tail x y xs ys e a z i (h z (inr i)))
      (λ z i. in_tail y x ys xs (sym e) b z i (k z (inr i))))
