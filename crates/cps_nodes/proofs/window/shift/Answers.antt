use Rattle.std.proofs.Common.{rules, ◌≡◌, ℕ, ◌*◌, ◌+◌, ◌<◌, ◌≤◌, ◌^◌, arith, pow_mono, w8, to_z, of_z}
use Rattle.std.specs.Prelude.{ℤ, pos, nat_abs, ◌+ℤ◌}
use Rattle.std.proofs.lemmas.Int.{ints}
use Rattle.cps_nodes.proofs.DigitLemmas.{abs_is, shifted-offsets_of, shifted_lt}
use Rattle.cps_nodes.proofs.window.shift.Goals as goal

-- the last digit, as the code computes it
abbrev digit : ℤ → ℕ
digit offset = nat_abs (to_z w8 (of_z w8 (to_z w8 (of_z w8 offset) +ℤ pos 8)))

digit_is : (g : _) (c : goal.After-tail_of g) → pos (digit c.args.offset) ≡ c.args.offset +ℤ pos 8
digit_is g c = grind (arith, abs_is)

digit_lt : (g : _) (c : goal.After-tail_of g) → digit c.args.offset < 16
digit_lt g c = omega (arith, ints, digit_is g c, c.requires.high)

few : (g : _) (c : goal.After-tail_of g) → c.tail_of.result * 16 + digit c.args.offset < 2 ^ (4 * g.row.W)
few g c = rw c.tail_of.ensures (shifted_lt g.row.W c.args.digits (digit c.args.offset) c.requires.width.0
    (digit_lt g c))

most : (g : _) (c : goal.After-tail_of g) → 2 ^ (4 * g.row.W) ≤ 2 ^ 28
most g c = search (rules, pow_mono)

pub overflow_mul-result : goal.overflow_mul-result
overflow_mul-result g c = omega (arith, few g c, most g c)

pub overflow_add-result-2 : goal.overflow_add-result-2
overflow_add-result-2 g c = omega (arith, few g c, most g c)

pub returns-clause-few : goal.returns-clause-few
returns-clause-few g c = few g c

pub returns-clause-offsets : goal.returns-clause-offsets
returns-clause-offsets g c = grind (arith, digit_is, c.tail_of.ensures, shifted-offsets_of, digit_lt)
