-- The ranks that a window holds, as bits, and which flight is due after one landing more.
use Rattle.std.proofs.Common.{rules, ◌≡◌, ℕ, ◌+◌, ◌-◌, ◌*◌, ◌/◌, ◌%◌, ◌^◌, ◌<◌, List, length, ◌≤◌, arith, ◌∙◌, sym, ap}
use Rattle.std.proofs.Common.{inl, inr, refl, subst, zero, suc, shr-shr, mod-lt, pow_pos}
use Rattle.std.specs.Prelude.{Bool, IsTrue, ◌↔◌, ◌⊎◌, ℤ, pos, ◌+ℤ◌, ◌-ℤ◌, ◌≤ℤ◌, bit_or, bit_and, min}
use Rattle.std.specs.Int.{bit_at, bit_not, w32, w64}
use Rattle.std.proofs.lemmas.Bool.{cases_eq, cases_lt}
use Rattle.std.proofs.lemmas.Int.{ints}
use Rattle.std.proofs.lemmas.Nat.Bits.{bit_at_set_same, bit_at_set_other, bit_at_above, bit_at_cat_low, bit_at_cat_high}
use Rattle.std.proofs.lemmas.Nat.Bits.{bit_at_and, bit_at_not, bit_at_ones, bit_at_ones_above, bit_at-lt}
use Rattle.std.proofs.lemmas.Nat.{field_of}
use Rattle.std.proofs.Math.Pow.{mod-mod-pow}
use Rattle.cps_base.specs.Limits.{most_waiting}
use Rattle.cps_nodes.specs.Windows.{IsWindow, HoldsRank, Accepts, offset_at, shifted}
use Rattle.cps_nodes.specs.Held.{AreHeld}
use Rattle.cps_nodes.specs.Leads.{IsWithin}
use Rattle.cps_nodes.proofs.WindowLemmas.{offset_at-shifted_below, offset_at-shifted_last, length-shifted}

-- bit 8 + r is set exactly where one of the first places holds rank r
abbrev pub AreHeldUpto : List ℤ → ℕ → ℕ → Type 0
AreHeldUpto xs n bits = (i : ℕ) → (bit_at bits i ≡ 1) ↔ ((j : ℕ) × (j < n) × (pos j +ℤ offset_at xs j ≡ pos i -ℤ pos 8))

pub none_held : (xs : List ℤ) → AreHeldUpto xs 0 0
none_held xs i = grind arith

-- one place more
pub held_more : (xs : List ℤ) (n bits at : ℕ) → at < 32 → pos at ≡ pos n +ℤ offset_at xs n +ℤ pos 8
    → AreHeldUpto xs n bits → AreHeldUpto xs (n + 1) (bit_or bits (1 * 2 ^ at % 2 ^ 32))
held_more xs n bits at few here are i = elim (cases_eq i at) [
  | inl same ↦ (
    grind arith,
    λ _. subst (λ (m : ℕ). bit_at (bit_or bits (1 * 2 ^ at % 2 ^ 32)) m ≡ 1) (sym same)
        (bit_at_set_same w32 bits at few),
  )
  | inr other ↦
      let kept : bit_at (bit_or bits (1 * 2 ^ at % 2 ^ 32)) i ≡ bit_at bits i =
      bit_at_set_other w32 bits at few i other in grind arith
]

-- at the last place all is told
pub held_all : (xs : List ℤ) (n bits : ℕ) → n ≡ length xs → AreHeldUpto xs n bits → AreHeld xs bits
held_all xs n bits e are = subst (λ (m : ℕ). AreHeldUpto xs m bits) e are

-- what the test of a bit says of the rank that it stands for
pub held_tested : (b : Bool) (xs : List ℤ) (bits at : ℕ) (rank : ℤ) → (IsTrue b ↔ (bit_at bits at ≡ 1))
    → pos at ≡ rank +ℤ pos 8
    → AreHeld xs bits → IsTrue b ↔ HoldsRank xs rank
held_tested b xs bits at rank test is are =
    let same : (pos at -ℤ pos 8) ≡ rank = omega (arith, ints, is) in
    let here : (bit_at bits at ≡ 1) ↔ HoldsRank xs rank = grind arith in grind arith

-- ---- the same ranks at a stage

told : (b c : ℕ) (xs : List ℤ) (r s : ℤ) → b ≡ c → r ≡ s → ((c ≡ 1) ↔ HoldsRank xs r) → (b ≡ 1) ↔ HoldsRank xs s
told b c xs r s e f is = grind arith

untold : (b : ℕ) (xs : List ℤ) (s : ℤ) → b ≡ 0 → (HoldsRank xs s → ⊥) → (b ≡ 1) ↔ HoldsRank xs s
untold b xs s e not = grind arith

-- bits below a cut are kept
bit_at-mod : (n more i : ℕ) → bit_at (n % 2 ^ (more + 1 + i)) i ≡ bit_at n i
bit_at-mod n more i = grind (arith, field_of, mod-mod-pow)

bit_at-word : (n i : ℕ) → i < 64 → bit_at (n % 2 ^ 64) i ≡ bit_at (n + 0) i
bit_at-word n i low =
    let cut : 64 ≡ 63 - i + 1 + i = omega arith in
    let same : n ≡ n + 0 = omega arith in
    ap (λ (e : ℕ). bit_at (n % 2 ^ e) i) cut ∙ bit_at-mod n (63 - i) i ∙ ap (λ (m : ℕ). bit_at m i) same

module _ (w stage bits : ℕ) (xs : List ℤ) (is : IsWindow w xs) (are : AreHeld xs bits) where
  pub held_early : stage < w + 7 → (rank : ℕ) → (bit_at (bits / 2 ^ (w + 7 - stage)) rank ≡ 1)
      ↔ HoldsRank xs (pos rank -ℤ pos stage +ℤ pos (w - 1))
  held_early early rank =
      told _ _ xs _ _ (ap (λ (n : ℕ). n % 2) (shr-shr bits (w + 7 - stage) rank)) (omega (arith, ints, is.is_width))
      (are (w + 7 - stage + rank))

  far_above : (rank : ℕ) → stage ≤ most_waiting → 64 ≤ rank → HoldsRank xs (pos rank -ℤ pos stage +ℤ pos (w - 1)) → ⊥
  far_above rank few above (i, lt, e) = grind arith

  pub held_late : w + 7 ≤ stage → stage ≤ most_waiting → (rank : ℕ)
      → (bit_at (bits * 2 ^ (stage - (w + 7)) % 2 ^ 64) rank ≡ 1) ↔ HoldsRank xs (pos rank -ℤ pos stage +ℤ pos (w - 1))
  held_late late few rank = elim (cases_lt rank 64) [
    | inr above ↦ search (rules, untold, bit_at_above, mod-lt, far_above)
    | inl low ↦
        let kept : bit_at (bits * 2 ^ (stage - (w + 7)) % 2 ^ 64) rank ≡ bit_at
        (bits * 2 ^ (stage - (w + 7)) + 0) rank = grind (arith, bit_at-word) in
        elim (cases_lt rank (stage - (w + 7))) [
          | inl below ↦ grind (arith, bit_at_cat_low)
          | inr within ↦
              told _ _ xs _ _ (kept ∙ bit_at_cat_high bits (stage - (w + 7)) 0 rank (pow_pos (stage - (w + 7))) within)
              (omega (arith, ints, is.is_width)) (are (rank - (stage - (w + 7))))
        ]
  ]

-- ---- the flight that is due after one landing more

module _ (w : ℕ) (xs : List ℤ) (o : ℤ) (is : IsWindow w xs) where
  some : 0 < length xs
  some = omega (arith, is.len, is.is_width)

  -- it lands now, or the window holds it
  due_before : HoldsRank (shifted xs o) (pos (w / 2)) → (o +ℤ pos (w / 2) ≡ pos 0) ⊎ HoldsRank xs (pos (w / 2 + 1))
  due_before (j, lt, e) = elim (cases_lt (j + 1) w) [
    | inr past ↦ grind (arith, length-shifted, offset_at-shifted_last)
    | inl before ↦
        let at : offset_at (shifted xs o) j ≡ offset_at xs (j + 1) = grind (arith, offset_at-shifted_below) in
        inr (j + 1, omega (arith, before, is.len), omega (arith, ints, at, e))
  ]

  due_lands : o +ℤ pos (w / 2) ≡ pos 0 → HoldsRank (shifted xs o) (pos (w / 2))
  due_lands now =
      let last : w - 1 + 1 ≡ length xs = omega (arith, is.len, is.is_width) in
      let at : offset_at (shifted xs o) (w - 1) ≡ o = offset_at-shifted_last xs o (w - 1) last in
      (w - 1, grind (arith, length-shifted), omega (arith, ints, at, now, is.is_width))

  due_stays : HoldsRank xs (pos (w / 2 + 1)) → HoldsRank (shifted xs o) (pos (w / 2))
  due_stays (zero, lt, e) = grind arith
  due_stays (suc i, lt, e) =
      let at : offset_at (shifted xs o) i ≡ offset_at xs (i + 1) = grind (arith, offset_at-shifted_below) in
      let one : offset_at xs (suc i) ≡ offset_at xs (i + 1) = ap (λ (j : ℕ). offset_at xs j) (omega arith) in
      (i, omega (arith, lt, length-shifted xs o some), omega (arith, ints, at, one, e))

  -- so where it is held, every offset leaves it there
  pub highest_held : (highest : ℤ) → highest ≡ pos (w / 2) → HoldsRank xs (pos (w / 2 + 1)) → IsWithin (pos (w / 2)) o
      → (o ≤ℤ highest) ↔ HoldsRank (shifted xs o) (pos (w / 2))
  highest_held highest most held within = grind (arith, due_stays)

  -- and else the lowest alone
  pub highest_lands : (highest : ℤ) → highest +ℤ pos (w / 2) ≡ pos 0 → (HoldsRank xs (pos (w / 2 + 1)) → ⊥)
      → IsWithin (pos (w / 2)) o
      → (o ≤ℤ highest) ↔ HoldsRank (shifted xs o) (pos (w / 2))
  highest_lands highest lowest none within = grind (arith, due_lands, due_before)

-- ---- the offsets that are accepted

module _ (w : ℕ) (xs : List ℤ) (is : IsWindow w xs) (j : ℕ) (lt : j < w) where
  near : IsWithin (pos (w / 2)) (pos j -ℤ pos (w / 2))
  near = grind arith

  pub all_due : HoldsRank xs (pos (w / 2 + 1))
      → (j < w) ↔ HoldsRank (shifted xs (pos j -ℤ pos (w / 2))) (pos (w / 2))
  all_due held =
      let both = highest_held w xs (pos j -ℤ pos (w / 2)) is (pos (w / 2)) refl held near in
      (λ _. both.0 near.high, λ _. lt)

  pub one_due : (HoldsRank xs (pos (w / 2 + 1)) → ⊥)
      → (j < 1) ↔ HoldsRank (shifted xs (pos j -ℤ pos (w / 2))) (pos (w / 2))
  one_due none =
      let both = highest_lands w xs (pos j -ℤ pos (w / 2)) is (pos 0 -ℤ pos (w / 2)) (omega (arith, ints)) none near in
      grind arith

-- bit j of those that are not held, up to a count of offsets
module _ (w held count : ℕ) (xs : List ℤ) (is : IsWindow w xs) (are : AreHeld xs held) (few : held < 2 ^ 64)
    (most : count ≤ w)
    (due : (j : ℕ) → j < w → (j < count) ↔ HoldsRank (shifted xs (pos j -ℤ pos (w / 2))) (pos (w / 2))) where
  kept : (j : ℕ) → j < w → bit_at (bit_not w64 held / 2 ^ (w - w / 2 + 8)) j ≡ 1 - bit_at held (w - w / 2 + 8 + j)
  kept j lt = ap (λ (n : ℕ). n % 2) (shr-shr (bit_not w64 held) (w - w / 2 + 8) j)
      ∙ bit_at_not w64 held (w - w / 2 + 8 + j) few (omega (arith, is.is_width, lt))

  both : (j : ℕ) → bit_at (bit_and (bit_not w64 held / 2 ^ (w - w / 2 + 8)) (2 ^ count - 1)) j
      ≡ min (bit_at (bit_not w64 held / 2 ^ (w - w / 2 + 8)) j) (bit_at (2 ^ count - 1) j)
  both j = grind (arith, bit_at_and)

  pub accepted_bits : (j : ℕ) → (bit_at (bit_and (bit_not w64 held / 2 ^ (w - w / 2 + 8)) (2 ^ count - 1)) j ≡ 1)
      ↔ ((j < w) × Accepts xs (pos j -ℤ pos (w / 2)))
  accepted_bits j = (on, back)
    where
      on : bit_at (bit_and (bit_not w64 held / 2 ^ (w - w / 2 + 8)) (2 ^ count - 1)) j ≡ 1
          → (j < w) × Accepts xs (pos j -ℤ pos (w / 2))
      on has = elim (cases_lt j count) [
        | inr past ↦ let z : bit_at (2 ^ count - 1) j ≡ 0 = bit_at_ones_above count j past in
            absurd (omega (arith, has, both j, z))
        | inl below ↦
            let lt : j < w = omega (arith, below, most) in
            let free : bit_at held (w - w / 2 + 8 + j) ≡ 0 = omega (arith, has, both j, kept j lt) in (
              lt,
              record {
                fresh = λ holds.
                    let set : bit_at held (w - w / 2 + 8 + j) ≡ 1 = (are (w - w / 2 + 8 + j)).1
                    (subst (HoldsRank xs) (omega (arith, ints, is.len, is.is_width)) holds) in
                    omega (arith, set, free);
                due = rw is.len ((due j lt).0 below);
              },
            )
      ]

      back : (j < w) × Accepts xs (pos j -ℤ pos (w / 2))
          → bit_at (bit_and (bit_not w64 held / 2 ^ (w - w / 2 + 8)) (2 ^ count - 1)) j ≡ 1
      back (lt, can) =
          let below : j < count = (due j lt).1 (rw is.len at can.due) in
          let one : bit_at (2 ^ count - 1) j ≡ 1 = bit_at_ones count j below in
          let free : bit_at held (w - w / 2 + 8 + j) ≡ 0 = elim (cases_eq (bit_at held (w - w / 2 + 8 + j)) 1) [
            | inl set ↦ absurd (can.fresh (subst (HoldsRank xs) (omega (arith, ints, is.len, is.is_width))
                ((are (w - w / 2 + 8 + j)).0 set)))
            | inr not ↦ omega (arith, not, bit_at-lt held (w - w / 2 + 8 + j))
          ] in
          both j ∙ omega (arith, kept j lt, free, one)
