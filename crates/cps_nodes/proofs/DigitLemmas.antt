-- Offsets as digits of numbers: the tail and the head of a window, its order, and one landing more.
use Rattle.std.proofs.Common.{rules, ◌≡◌, ℕ, zero, suc, ◌+◌, ◌-◌, ◌*◌, ◌/◌, ◌%◌, ◌^◌, ◌<◌, List, ◌∷◌, ◌++◌, drop, take}
use Rattle.std.proofs.Common.{replicate, refl, ap, ap₂, sym, subst, ◌∙◌, arith, shr-shr, mod-lt, pow_pos, mod-eq_of_lt}
use Rattle.std.proofs.Common.{[], pow-add}
use Rattle.std.specs.Prelude.{ℤ, pos, negsuc, nat_abs, ◌-ℤ◌, ◌≤ℤ◌, ◌==◌}
use Rattle.std.proofs.lemmas.Int.{ints}
use Rattle.std.proofs.lemmas.Nat.{field_of, shr_below}
use Rattle.std.proofs.Math.Pow.{mod-mod-pow}
use Rattle.std.proofs.Math.Seq.{take-append_seam}
use Rattle.std.specs.declared.cmp.Ordering.{Ordering}
use Rattle.std.specs.declared.cmp.Ordering.TheVariants.{Equal}
use Rattle.std.specs.Ordering.{int_eq, int_cmp, nat_cmp, is_eq, ordering_then}
use Rattle.std.specs.Cmp.{nat_cmp_is, unsigned_tied}
use Rattle.std.specs.Cmp.Lexicographic.{slice_cmp, pointwise, lists_ties}
use Rattle.cps_nodes.specs.Windows.{offset_at, shifted}
use Rattle.cps_nodes.specs.WindowOrder.{window_cmp}
use Rattle.cps_nodes.specs.Digits.{digit_offset, offsets_of, order_key, number_of, length-offsets_of, mod-digit}
use Rattle.cps_nodes.specs.Digits.{number-offsets_of}
use Rattle.cps_nodes.specs.shared.NumberOrder.{digits_compare}

-- ---- the order

-- lists of offsets stand in the order of their numbers
pub slice_cmp-offsets_of : (width m n : ℕ)
    → slice_cmp int_cmp (offsets_of width m) (offsets_of width n) ≡ nat_cmp (m % 2 ^ (4 * width)) (n % 2 ^ (4 * width))
slice_cmp-offsets_of zero m n = nat_cmp_is (m % 2 ^ (4 * 0)) (n % 2 ^ (4 * 0)) Equal (omega arith)
slice_cmp-offsets_of (suc width) m n =
    ap (λ (o : Ordering). ordering_then (int_cmp (digit_offset m width) (digit_offset n width)) o)
    (slice_cmp-offsets_of width m n)
    ∙ digits_compare (m / 2 ^ (4 * width) % 16) (n / 2 ^ (4 * width) % 16) (2 ^ (4 * width))
    (m % 2 ^ (4 * width)) (n % 2 ^ (4 * width))
    (mod-lt m (pow_pos (4 * width))) (mod-lt n (pow_pos (4 * width)))
    ∙ ap₂ nat_cmp (sym (mod-digit m width)) (sym (mod-digit n width))

-- ---- the tail and the head

-- a digit among the lowest is kept by a cut above it
digit_offset-mod : (i more number : ℕ) → digit_offset (number % 2 ^ (4 * (i + 1 + more))) i ≡ digit_offset number i
digit_offset-mod i more number =
    ap (λ (d : ℕ). pos (d % 16) -ℤ pos 8) (
    ap (λ (e : ℕ). number % 2 ^ e / 2 ^ (4 * i)) (omega arith)
    ∙ field_of number (4 * more + 4) (4 * i))
    ∙ ap (λ (d : ℕ). pos d -ℤ pos 8) (mod-mod-pow (number / 2 ^ (4 * i)) (4 * more) 4)

offsets_of-mod : (width more number : ℕ)
    → offsets_of width (number % 2 ^ (4 * (width + more))) ≡ offsets_of width number
offsets_of-mod zero more number = refl
offsets_of-mod (suc width) more number =
    let first : digit_offset (number % 2 ^ (4 * (suc width + more))) width ≡ digit_offset number width =
    ap (λ (e : ℕ). digit_offset (number % 2 ^ (4 * e)) width) (omega arith) ∙ digit_offset-mod width more number in
    grind (arith, (offsets_of-mod width (suc more) number))

-- the offsets without the last are those of the digits without the lowest
offsets_of-push : (width number : ℕ) → offsets_of width (number / 16)
    ++ digit_offset number 0 ∷ [] ≡ offsets_of (suc width) number
offsets_of-push zero number = refl
offsets_of-push (suc width) number =
    let first : digit_offset (number / 16) width ≡ digit_offset number (suc width) =
    ap (λ (d : ℕ). pos (d % 16) -ℤ pos 8) (
    shr-shr number 4 (4 * width) ∙ ap (λ (e : ℕ). number / 2 ^ e) (omega arith)) in
    grind (arith, (offsets_of-push width number))

pub tail-offsets_of : (width number : ℕ) → 0 < width
    → drop 1 (offsets_of width number) ≡ offsets_of (width - 1) (number % 2 ^ (4 * (width - 1)))
tail-offsets_of zero number some = absurd (omega arith)
tail-offsets_of (suc width) number some =
    let all : offsets_of width (number % 2 ^ (4 * width)) ≡ offsets_of width number =
    ap (λ (e : ℕ). offsets_of width (number % 2 ^ (4 * e))) (omega arith) ∙ offsets_of-mod width 0 number in grind arith

pub head-offsets_of : (width number : ℕ) → 0 < width
    → take (width - 1) (offsets_of width number) ≡ offsets_of (width - 1) (number / 16)
head-offsets_of zero number some = absurd (omega arith)
head-offsets_of (suc width) number some =
    let front : offsets_of width (number / 16) ≡ take width (offsets_of (suc width) number) =
    sym (take-append_seam (offsets_of width (number / 16)) (digit_offset number 0 ∷ []))
    ∙ ap₂ (λ (n : ℕ) (xs : List ℤ). take n xs) (length-offsets_of width (number / 16)) (offsets_of-push width number) in
    grind arith

pub head_lt : (width number : ℕ) → 0 < width → number < 2 ^ (4 * width) → number / 16 < 2 ^ (4 * (width - 1))
head_lt width number some few =
    shr_below number (4 * (width - 1)) 4 (subst (λ (e : ℕ). number < 2 ^ e) (omega arith) few)

-- numbers of so many digits that stand for the same offsets are one
pub same-offsets_of : (width m n : ℕ) → m < 2 ^ (4 * width) → n < 2 ^ (4 * width)
    → offsets_of width m ≡ offsets_of width n → m ≡ n
same-offsets_of width m n l r e =
    sym (mod-eq_of_lt l) ∙ sym (number-offsets_of width m) ∙ ap number_of e ∙ number-offsets_of width n ∙ mod-eq_of_lt r

-- ---- one offset

pub offset_at-offsets_of : (width number i : ℕ) → i < width
    → offset_at (offsets_of width number) i ≡ digit_offset number (width - 1 - i)
offset_at-offsets_of zero number i lt = absurd (omega arith)
offset_at-offsets_of (suc width) number zero lt = ap (digit_offset number) (omega arith)
offset_at-offsets_of (suc width) number (suc i) lt = grind (arith, (offset_at-offsets_of width number i (omega arith)))

-- ---- one landing more

-- an integer from 0 on, as its digit or its bit is computed
pub abs_is : (z : ℤ) → pos 0 ≤ℤ z → pos (nat_abs z) ≡ z
abs_is (pos n) low = refl
abs_is (negsuc n) low = absurd (omega (arith, ints, low))

pub shifted-offsets_of : (width number digit : ℕ) → 0 < width → digit < 16
    → offsets_of width (number % 2 ^ (4 * (width - 1)) * 16 + digit) ≡ shifted (offsets_of width number)
    (pos digit -ℤ pos 8)
shifted-offsets_of zero number digit some small = absurd (omega arith)
shifted-offsets_of (suc width) number digit some small =
    let tail : ℕ = number % 2 ^ (4 * (suc width - 1)) in
    let e : offsets_of width (number % 2 ^ (4 * (suc width - 1))) ≡ drop 1 (offsets_of (suc width) number) =
    ap (λ (n : ℕ). offsets_of n (number % 2 ^ (4 * (suc width - 1)))) (omega arith)
    ∙ sym (tail-offsets_of (suc width) number some) in
    sym (offsets_of-push width (number % 2 ^ (4 * (suc width - 1)) * 16 + digit))
    ∙ ap₂ (λ (n d : ℕ). offsets_of width n ++ (pos d -ℤ pos 8) ∷ []) (omega arith) (omega arith)
    ∙ ap (λ (xs : List ℤ). xs ++ (pos digit -ℤ pos 8) ∷ []) e

pub shifted_lt : (width number digit : ℕ) → 0 < width → digit < 16
    → number % 2 ^ (4 * (width - 1)) * 16 + digit < 2 ^ (4 * width)
shifted_lt width number digit some small =
    let tail : number % 2 ^ (4 * (width - 1)) < 2 ^ (4 * (width - 1)) = mod-lt number (pow_pos (4 * (width - 1))) in
    let whole : 2 ^ (4 * width) ≡ 2 ^ (4 * (width - 1)) * 16 =
    ap (λ (e : ℕ). 2 ^ e) (omega arith) ∙ pow-add 2 (4 * (width - 1)) 4 in
    omega arith

-- ---- before the first landing

eights : (i : ℕ) → i < 8 → 2290649224 / 2 ^ (4 * i) % 16 ≡ 8
eights zero lt = refl
eights (suc zero) lt = refl
eights (suc (suc zero)) lt = refl
eights (suc (suc (suc zero))) lt = refl
eights (suc (suc (suc (suc zero)))) lt = refl
eights (suc (suc (suc (suc (suc zero))))) lt = refl
eights (suc (suc (suc (suc (suc (suc zero)))))) lt = refl
eights (suc (suc (suc (suc (suc (suc (suc zero))))))) lt = refl
eights (suc (suc (suc (suc (suc (suc (suc (suc i)))))))) lt = absurd (omega arith)

zeros : (width : ℕ) → width < 9 → offsets_of width 2290649224 ≡ replicate width (pos 0)
zeros zero few = refl
zeros (suc width) few = grind (arith, eights, (zeros width (omega arith)))

pub offsets_of-source : (width : ℕ) → width < 9
    → offsets_of width (2290649224 % 2 ^ (4 * width)) ≡ replicate width (pos 0)
offsets_of-source width few =
    ap (λ (e : ℕ). offsets_of width (2290649224 % 2 ^ (4 * e))) (omega arith) ∙ offsets_of-mod width 0 2290649224
    ∙ zeros width few

-- ---- equality and the order of windows

pub pointwise-offsets_of : (width m n : ℕ) → m < 2 ^ (4 * width) → n < 2 ^ (4 * width)
    → pointwise int_eq (offsets_of width m) (offsets_of width n) ≡ (m == n)
pointwise-offsets_of width m n l r =
    lists_ties int_cmp (λ a b. refl) (offsets_of width m) (offsets_of width n)
    ∙ ap is_eq (slice_cmp-offsets_of width m n ∙ ap₂ nat_cmp (mod-eq_of_lt l) (mod-eq_of_lt r))
    ∙ unsigned_tied m n

-- the tails decide before the first digits
keys_compare : (a b c d : ℕ) → c < 16 → d < 16
    → ordering_then (nat_cmp a b) (ordering_then (int_cmp (pos c -ℤ pos 8) (pos d -ℤ pos 8)) Equal) ≡ nat_cmp
    (a * 16 + c) (b * 16 + d)
keys_compare a b c d l r = search rules

pub window_cmp-offsets_of : (width m n : ℕ) → 0 < width → m < 2 ^ (4 * width) → n < 2 ^ (4 * width)
    → window_cmp (offsets_of width m) (offsets_of width n) ≡ nat_cmp (order_key width m) (order_key width n)
window_cmp-offsets_of zero m n some l r = absurd (omega arith)
window_cmp-offsets_of (suc width) m n some l r =
    ap (λ (o : Ordering). ordering_then o (ordering_then (int_cmp (digit_offset m width) (digit_offset n width)) Equal))
    (slice_cmp-offsets_of width m n)
    ∙ keys_compare (m % 2 ^ (4 * width)) (n % 2 ^ (4 * width)) (m / 2 ^ (4 * width) % 16) (n / 2 ^ (4 * width) % 16)
    (mod-lt (m / 2 ^ (4 * width)) (omega arith)) (mod-lt (n / 2 ^ (4 * width)) (omega arith))
    ∙ ap₂ nat_cmp (key m l) (key n r)
  where
    key : (number : ℕ) → number < 2 ^ (4 * suc width)
        → number % 2 ^ (4 * width) * 16 + number / 2 ^ (4 * width) % 16 ≡ order_key (suc width) number
    key number few =
        let first : number / 2 ^ (4 * width) % 16 ≡ number / 2 ^ (4 * width) =
        mod-eq_of_lt (shr_below number 4 (4 * width) (subst (λ (e : ℕ). number < 2 ^ e) (omega arith) few)) in
        ap (λ (d : ℕ). number % 2 ^ (4 * width) * 16 + d) first
        ∙ ap (λ (e : ℕ). number % 2 ^ (4 * e) * 16 + number / 2 ^ (4 * e)) (omega arith)
