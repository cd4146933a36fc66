use Rattle.std.proofs.Common.{◌≡◌, arith, w8, to_z, of_z}
use Rattle.std.specs.Prelude.{pos, nat_abs, ◌+ℤ◌}
use Rattle.std.proofs.lemmas.Int.{ints}
use Rattle.cps_nodes.proofs.DigitLemmas.{abs_is}
use Rattle.cps_nodes.proofs.window.bit_of.Goals as goal
use Rattle.cps_nodes.proofs.window.bit_of.Goals.{Start}

bit_is : (c : Start) → pos (nat_abs (to_z w8 (of_z w8 (to_z w8 (of_z w8 c.args.rank) +ℤ pos 8)))) ≡ c.args.rank +ℤ pos 8
bit_is c = grind (arith, abs_is)

pub returns-clause-few : goal.returns-clause-few
returns-clause-few c = omega (arith, ints, bit_is c, c.requires.high)

pub returns-clause-bit : goal.returns-clause-bit
returns-clause-bit c = bit_is c
