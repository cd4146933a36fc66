-- Lists of offsets stand in the order of their numbers.
use Rattle.std.proofs.Common.{◌≡◌, ℕ, suc, ◌+◌, ◌*◌, ◌^◌, ◌<◌, List, [], ◌∷◌, length, refl, ap, ap₂, ◌∙◌, arith}
use Rattle.std.proofs.Common.{pow-add}
use Rattle.std.proofs.lemmas.Int.{ints}
use Rattle.std.specs.Prelude.{ℤ, pos, negsuc, nat_abs, ◌+ℤ◌, ◌-ℤ◌, ◌<ℤ◌, ◌≤ℤ◌}
use Rattle.std.specs.List.{AllByRecursion}
use Rattle.std.specs.declared.cmp.Ordering.{Ordering}
use Rattle.std.specs.declared.cmp.Ordering.TheVariants.{Less, Equal, Greater}
use Rattle.std.specs.Ordering.{int_cmp, nat_cmp, ordering_then, MatchOrdering}
use Rattle.std.specs.Cmp.{nat_cmp_is, ranks, int_ranks}
use Rattle.std.specs.Cmp.Lexicographic.{slice_cmp}
use Rattle.cps_nodes.specs.Digits.{number_of}

below : (a b p m n : ℕ) → a < b → m < p → a * p + m < b * p + n
below a b p m n h l = grind arith

same_digit : (a b p m n : ℕ) → a ≡ b → nat_cmp m n ≡ nat_cmp (a * p + m) (b * p + n)
same_digit a b p m n e = by (nat_cmp m n) (ranks m n)
  where
    same : a * p ≡ b * p
    same = ap (λ (d : ℕ). d * p) e

    by : (r : Ordering) → MatchOrdering r (m < n) (m ≡ n) (n < m) → r ≡ nat_cmp (a * p + m) (b * p + n)
    by Less h = nat_cmp_is (a * p + m) (b * p + n) Less (omega (arith, same, h))
    by Equal h = nat_cmp_is (a * p + m) (b * p + n) Equal (omega (arith, same, h))
    by Greater h = nat_cmp_is (a * p + m) (b * p + n) Greater (omega (arith, same, h))

-- the higher digit decides before the lower ones
pub digits_compare : (a b p m n : ℕ) → m < p → n < p
    → ordering_then (int_cmp (pos a -ℤ pos 8) (pos b -ℤ pos 8)) (nat_cmp m n) ≡ nat_cmp (a * p + m) (b * p + n)
digits_compare a b p m n l r =
    by (int_cmp (pos a -ℤ pos 8) (pos b -ℤ pos 8)) (int_ranks (pos a -ℤ pos 8) (pos b -ℤ pos 8))
  where
    by : (o : Ordering)
        → MatchOrdering o ((pos a -ℤ pos 8) <ℤ (pos b -ℤ pos 8)) ((pos a -ℤ pos 8) ≡ (pos b -ℤ pos 8))
        ((pos b -ℤ pos 8) <ℤ (pos a -ℤ pos 8))
        → ordering_then o (nat_cmp m n) ≡ nat_cmp (a * p + m) (b * p + n)
    by Less h = nat_cmp_is _ _ Less (below a b p m n (omega (arith, ints, h)) l)
    by Equal h = same_digit a b p m n (omega (arith, ints, h))
    by Greater h = nat_cmp_is _ _ Greater (below b a p n m (omega (arith, ints, h)) r)

-- an offset that a digit in base 16 stands for
abbrev pub IsDigit : ℤ → Type 0
IsDigit x = (pos 0 ≤ℤ (x +ℤ pos 8)) × (x ≤ℤ pos 7)

digit_is : (x : ℤ) → IsDigit x → x ≡ pos (nat_abs (x +ℤ pos 8)) -ℤ pos 8
digit_is x is = by (x +ℤ pos 8) refl is.0
  where
    by : (z : ℤ) → z ≡ x +ℤ pos 8 → pos 0 ≤ℤ z → x ≡ pos (nat_abs z) -ℤ pos 8
    by (pos n) e low = omega (arith, ints, e)
    by (negsuc n) e low = absurd (omega (arith, ints, low))

digit_low : (x : ℤ) → IsDigit x → nat_abs (x +ℤ pos 8) < 16
digit_low x is = let e = digit_is x is in omega (arith, ints, e, is)

number_low : (xs : List ℤ) → AllByRecursion IsDigit xs → number_of xs < 2 ^ (4 * length xs)
number_low [] all = omega arith
number_low (x ∷ xs) all =
    let whole : 2 ^ (4 * suc (length xs)) ≡ 2 ^ (4 * length xs) * 16 =
    ap (λ (e : ℕ). 2 ^ e) (omega arith) ∙ pow-add 2 (4 * length xs) 4 in
    let less = below (nat_abs (x +ℤ pos 8)) 16 (2 ^ (4 * length xs)) (number_of xs) 0 (digit_low x all.0)
    (number_low xs all.1) in
    omega (arith, whole, less)

pub number_order : (xs ys : List ℤ) → AllByRecursion IsDigit xs → AllByRecursion IsDigit ys → length xs ≡ length ys
    → slice_cmp int_cmp xs ys ≡ nat_cmp (number_of xs) (number_of ys)
number_order [] [] a b long = refl
number_order [] (y ∷ ys) a b long = absurd (omega arith)
number_order (x ∷ xs) [] a b long = absurd (omega arith)
number_order (x ∷ xs) (y ∷ ys) a b long =
    ap₂ (λ (o p : Ordering). ordering_then o p)
    (ap₂ int_cmp (digit_is x a.0) (digit_is y b.0)) (number_order xs ys a.1 b.1 (omega arith))
    ∙ digits_compare (nat_abs (x +ℤ pos 8)) (nat_abs (y +ℤ pos 8)) (2 ^ (4 * length xs)) (number_of xs) (number_of ys)
    (number_low xs a.1) (rw long' (number_low ys b.1))
    ∙ ap (λ (n : ℕ). nat_cmp (number_of (x ∷ xs)) (nat_abs (y +ℤ pos 8) * 2 ^ (4 * n) + number_of ys)) long'
  where
    long' : length xs ≡ length ys
    long' = omega arith
