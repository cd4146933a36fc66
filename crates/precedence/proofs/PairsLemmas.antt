-- What one more bit says of a set of pairs, and what all bits of a set say.
use Rattle.std.proofs.Common.{◌≡◌, ℕ, ◌*◌, ◌%◌, ◌^◌, ◌<◌, ◌≤◌, min, List, [], ◌∷◌, length, get_or, refl, arith, ◌∙◌}
use Rattle.std.proofs.Common.{sym, ap, inl, inr, subst, zero, suc}
use Rattle.std.specs.Prelude.{true, ◌↔◌, ◌⊎◌, bit_and, bit_or, nat_eq}
use Rattle.std.specs.Int.{bit_at, w64}
use Rattle.std.specs.List.{list_all}
use Rattle.std.proofs.Math.ListN.{set}
use Rattle.std.proofs.lemmas.Bool.{cases_eq}
use Rattle.std.proofs.lemmas.Bool.Decides.{nat_tests}
use Rattle.std.proofs.lemmas.List.{get_or-set_same, get_or-set_other, length-set}
use Rattle.std.proofs.lemmas.Nat.Bits.{bit_at_set_same, bit_at_set_other, bit_at_and, bit_at-lt, bit_at-zero}
use Rattle.std.proofs.lemmas.Nat.Bits.{same_from_bits}
use Rattle.cps_base.specs.Limits.{most_waiting}
use Rattle.precedence.specs.Pairs.{HasBit, MustPrecede, ArePairs}

-- a list of zeros has no pair
zero_at : (xs : List ℕ) (i : ℕ) → list_all (λ x. nat_eq x 0) xs ≡ true → get_or xs i 0 ≡ 0
zero_at [] i h = refl
zero_at (zero ∷ xs) zero h = refl
zero_at (zero ∷ xs) (suc i) h = zero_at xs i h
zero_at (suc x ∷ xs) i h = absurd (grind (arith, nat_tests, h))

pub no_pair : (pairs : List ℕ) → list_all (λ x. nat_eq x 0) pairs ≡ true → (first next : ℕ)
    → MustPrecede pairs first next → ⊥
no_pair pairs h first next is =
    let none : get_or pairs next 0 ≡ 0 = zero_at pairs next h in
    let one : bit_at 0 first ≡ 1 = subst (λ (n : ℕ). bit_at n first ≡ 1) none is in
    let z : bit_at 0 first ≡ 0 = bit_at-zero first in
    omega arith

-- the set of bits with one more
abbrev pub added : List ℕ → ℕ → ℕ → List ℕ
added pairs first next = set pairs next (bit_or (get_or pairs next 0) (1 * 2 ^ first % 2 ^ 64))

pub MustPrecede-added : (pairs : List ℕ) (first next : ℕ) → next < length pairs → first < 64 → (i j : ℕ)
    → MustPrecede (added pairs first next) i j ↔ (MustPrecede pairs i j ⊎ ((i ≡ first) × (j ≡ next)))
MustPrecede-added pairs first next within few i j =
    elim (cases_eq j next) [
      | inl here ↦
          let at : get_or (added pairs first next) j 0 ≡ bit_or (get_or pairs next 0) (1 * 2 ^ first % 2 ^ 64) =
          ap (λ (n : ℕ). get_or (added pairs first next) n 0) here ∙ get_or-set_same pairs next _ 0 within in
          let old : get_or pairs j 0 ≡ get_or pairs next 0 = ap (λ (n : ℕ). get_or pairs n 0) here in
          elim (cases_eq i first) [
            | inl same ↦ (
              λ _. inr (same, here),
              λ _. subst (λ (n : ℕ). bit_at n i ≡ 1) (sym at)
                  (subst (λ (n : ℕ). bit_at (bit_or (get_or pairs next 0) (1 * 2 ^ first % 2 ^ 64)) n ≡ 1)
                  (sym same) (bit_at_set_same w64 (get_or pairs next 0) first few)),
            )
            | inr other ↦
                let kept : bit_at (bit_or (get_or pairs next 0) (1 * 2 ^ first % 2 ^ 64)) i ≡ bit_at
                (get_or pairs next 0) i =
                bit_at_set_other w64 (get_or pairs next 0) first few i other in
                let is : bit_at (get_or (added pairs first next) j 0) i ≡ bit_at (get_or pairs j 0) i =
                ap (λ (n : ℕ). bit_at n i) at ∙ kept ∙ ap (λ (n : ℕ). bit_at n i) (sym old) in
                (λ h. inl (sym is ∙ h), λ h. elim h [ inl was ↦ is ∙ was | inr pair ↦ absurd (other pair.0) ])
          ]
      | inr elsewhere ↦
          let is : get_or (added pairs first next) j 0 ≡ get_or pairs j 0 =
          get_or-set_other pairs next j _ 0 elsewhere in (
            λ h. inl (subst (λ (n : ℕ). bit_at n i ≡ 1) is h),
            λ h. elim h [
              | inl was ↦ subst (λ (n : ℕ). bit_at n i ≡ 1) (sym is) was
              | inr pair ↦
                  absurd (elsewhere pair.1)
            ],
          )
    ]

pub ArePairs-added : (pairs : List ℕ) (first next : ℕ) → ArePairs pairs → 1 ≤ first → first ≤ most_waiting
    → 1 ≤ next → next ≤ most_waiting → ArePairs (added pairs first next)
ArePairs-added pairs first next is a b c d = record {
  len = length-set pairs next _ ∙ is.len;
  in_range = λ i j h. elim ((MustPrecede-added pairs first next (omega (arith, is.len)) (omega arith) i j).0 h) [
    | inl was ↦ is.in_range i j was
    | inr pair ↦ (omega (arith, pair.0), omega (arith, pair.0), omega (arith, pair.1), omega (arith, pair.1))
  ];
}

-- one set of bits holds another exactly where it has each of its bits
bit_cases : (n i : ℕ) → (bit_at n i ≡ 0) ⊎ (bit_at n i ≡ 1)
bit_cases n i = let few : bit_at n i < 2 =
    bit_at-lt n i in elim (cases_eq (bit_at n i) 0) [ inl e ↦ inl e | inr e ↦ inr (omega (arith, e)) ]

pub and-same : (a b : ℕ) → (bit_and a b ≡ a) ↔ ((i : ℕ) → HasBit a i → HasBit b i)
and-same a b = (
  λ e i has.
      let both : bit_at a i ≡ min (bit_at a i) (bit_at b i) = ap (λ (n : ℕ). bit_at n i) (sym e) ∙ bit_at_and a b i in
      let few : bit_at b i < 2 = bit_at-lt b i in
      omega (arith, has),
  λ all. same_from_bits (bit_and a b) a (λ i.
      bit_at_and a b i ∙ elim (bit_cases a i) [
        | inl z ↦ omega (arith, z)
        | inr one ↦ let other : bit_at b i ≡ 1 = all i one in omega (arith, one)
      ]),
)
