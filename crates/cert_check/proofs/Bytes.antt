-- A test as a number.
use Rattle.std.proofs.lemmas.Grind.{common_steps}
use Rattle.std.proofs.Common.{◌≡◌, ◌≤◌, ℕ, Bool, cond, arith}
use Rattle.std.specs.Int.{from_bool}

pub byte : (b : Bool) → from_bool b ≡ cond b 1 0
byte b = grind (arith, common_steps)

pub byte_low : (b : Bool) → cond {A = ℕ} b 1 0 ≤ 1
byte_low b = grind (arith, common_steps)
