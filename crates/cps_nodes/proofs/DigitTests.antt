-- What the comparisons of numbers say of the windows whose digits they are.
use Rattle.std.proofs.Common.{arith, rules, ◌≡◌, ℕ, ◌-◌, ◌*◌, ◌/◌, ◌%◌, ◌^◌, ◌<◌, drop, take, length, mod-lt, pow_pos}
use Rattle.std.proofs.Common.{mod-eq_of_lt, IsTrue, nat_eq, nat_lt, ◌↔◌}
use Rattle.std.proofs.lemmas.Bool.{eqb-true, eq-eqb}
use Rattle.std.specs.Ordering.{int_cmp, nat_cmp}
use Rattle.std.specs.Cmp.Lexicographic.{slice_cmp}
use Rattle.cps_nodes.specs.Leads.{TailMeetsHead, IsBelow}
use Rattle.cps_nodes.specs.Digits.{offsets_of, length-offsets_of}
use Rattle.cps_nodes.proofs.DigitLemmas.{slice_cmp-offsets_of, tail-offsets_of, head-offsets_of, head_lt}
use Rattle.cps_nodes.proofs.DigitLemmas.{same-offsets_of}

-- the tail of one window and the head of another
module _ (width m n tail : ℕ) (some : 0 < width) (few : n < 2 ^ (4 * width))
    (is : tail ≡ m % 2 ^ (4 * (width - 1))) where
  is_tail : drop 1 (offsets_of width m) ≡ offsets_of (width - 1) tail
  is_tail = grind (arith, tail-offsets_of)

  is_head : take (length (offsets_of width n) - 1) (offsets_of width n) ≡ offsets_of (width - 1) (n / 16)
  is_head = grind (arith, length-offsets_of, head-offsets_of)

  tail_lt : tail < 2 ^ (4 * (width - 1))
  tail_lt = search rules

  pub meets_tested : IsTrue (nat_eq tail (n / 16)) ↔ TailMeetsHead (offsets_of width m) (offsets_of width n)
  meets_tested = grind (arith, is_tail, eqb-true, is_head, eq-eqb, same-offsets_of, tail_lt, head_lt)

  compared : slice_cmp int_cmp (drop 1 (offsets_of width m))
      (take (length (offsets_of width n) - 1) (offsets_of width n)) ≡ nat_cmp tail (n / 16)
  compared = grind (arith, is_head, slice_cmp-offsets_of, mod-eq_of_lt, tail_lt, head_lt)

  pub below_tested : IsTrue (nat_lt tail (n / 16)) ↔ IsBelow (offsets_of width m) (offsets_of width n)
  below_tested = grind (arith, compared)

-- the tails of two windows
module _ (width m n left right : ℕ) (some : 0 < width) (l : left ≡ m % 2 ^ (4 * (width - 1)))
    (r : right ≡ n % 2 ^ (4 * (width - 1))) where
  pub tails_tested : IsTrue (nat_eq left right) ↔ (drop 1 (offsets_of width m) ≡ drop 1 (offsets_of width n))
  tails_tested = grind (arith, tail-offsets_of, mod-lt, pow_pos, eqb-true, eq-eqb, same-offsets_of)
