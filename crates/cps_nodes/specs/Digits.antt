-- The offsets of a window as one number: its digits in base 16, each 8 more than an offset, that of the first offset
-- the highest.
use Rattle.std.specs.Prelude.{◌≡◌, ℕ, ℤ, pos, zero, suc, ◌+◌, ◌-◌, ◌*◌, ◌/◌, ◌%◌, ◌^◌, ◌<◌, ◌+ℤ◌, ◌-ℤ◌, List, [], ◌∷◌}
use Rattle.std.specs.Prelude.{length, nat_abs}
use Rattle.std.proofs.Common.{refl, ap, ap₂, sym, ◌∙◌, arith, mod-eq_of_lt}
use Rattle.std.proofs.lemmas.Int.{ints}
use Rattle.std.proofs.lemmas.Nat.{mod-pow-add}
use Rattle.cps_nodes.specs.Windows.{IsWindow}

-- the offset that a digit of a number stands for, the lowest digit being digit 0
abbrev pub digit_offset : ℕ → ℕ → ℤ
digit_offset number i = pos (number / 2 ^ (4 * i) % 16) -ℤ pos 8

-- the offsets that so many digits stand for
abbrev pub offsets_of : ℕ → ℕ → List ℤ
offsets_of zero number = []
offsets_of (suc width) number = digit_offset number width ∷ offsets_of width number

-- the number whose digits stand for these offsets
abbrev pub number_of : List ℤ → ℕ
number_of [] = 0
number_of (x ∷ xs) = nat_abs (x +ℤ pos 8) * 2 ^ (4 * length xs) + number_of xs

-- the number with its first digit moved to the end
abbrev pub order_key : ℕ → ℕ → ℕ
order_key width number = number % 2 ^ (4 * (width - 1)) * 16 + number / 2 ^ (4 * (width - 1))

-- a number has no further digit, and those that it has stand for the offsets of a window
pub record IsPacked (width number : ℕ) : Type 0 where
  pub window : IsWindow width (offsets_of width number)
  pub few : number < 2 ^ (4 * width)

pub length-offsets_of : (width number : ℕ) → length (offsets_of width number) ≡ width
length-offsets_of zero number = refl
length-offsets_of (suc width) number = omega (arith, length-offsets_of width number)

-- the lowest digits, one more
pub mod-digit : (number width : ℕ)
    → number % 2 ^ (4 * suc width) ≡ (number / 2 ^ (4 * width) % 16) * 2 ^ (4 * width) + number % 2 ^ (4 * width)
mod-digit number width = ap (λ (n : ℕ). number % 2 ^ n) (omega arith) ∙ mod-pow-add number 4 (4 * width)

-- the offsets give the lowest digits back
pub number-offsets_of : (width number : ℕ) → number_of (offsets_of width number) ≡ number % 2 ^ (4 * width)
number-offsets_of zero number = omega arith
number-offsets_of (suc width) number =
    let e : (digit_offset number width +ℤ pos 8) ≡ pos (number / 2 ^ (4 * width) % 16) = omega (arith, ints) in
    ap₂ (λ (d n : ℕ). d * 2 ^ (4 * n) + number_of (offsets_of width number)) (ap nat_abs e)
    (length-offsets_of width number)
    ∙ ap (λ (n : ℕ). (number / 2 ^ (4 * width) % 16) * 2 ^ (4 * width) + n) (number-offsets_of width number)
    ∙ sym (mod-digit number width)

-- and so the whole number, where it has no further digit
pub number-IsPacked : (width number : ℕ) → IsPacked width number → number_of (offsets_of width number) ≡ number
number-IsPacked width number is = number-offsets_of width number ∙ mod-eq_of_lt is.few
