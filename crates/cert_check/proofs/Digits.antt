-- Digits as the bits of a number, one more at the front.
use Rattle.std.proofs.Common.{rules, ◌≡◌, ℕ, zero, suc, ◌+◌, ◌*◌, ◌≤◌, ◌^◌, Bool, cond, arith}
use Rattle.std.proofs.lemmas.Grind.{common_steps}
use Rattle.std.specs.Prelude.{◌/◌, ◌%◌, ◌==◌}
use Rattle.certificate.specs.Patterns.{bits}
use Rattle.cps_theory.specs.Patterns.{tests_from}

pub power_more : (i : ℕ) → 2 ^ (i + 1) ≡ 2 * 2 ^ i
power_more i = grind (arith, common_steps)

pub power_small : (i : ℕ) → i ≤ 5 → 2 ^ i ≤ 32
power_small zero h = omega arith
power_small (suc zero) h = omega arith
power_small (suc (suc zero)) h = omega arith
power_small (suc (suc (suc zero))) h = omega arith
power_small (suc (suc (suc (suc zero)))) h = omega arith
power_small (suc (suc (suc (suc (suc zero))))) h = omega arith
power_small (suc (suc (suc (suc (suc (suc i)))))) h = absurd (omega arith)

bit : (n : ℕ) (b : Bool) → (2 * n + cond b 1 0) % 2 == 1 ≡ b
bit n b = grind (arith, common_steps)

half : (n : ℕ) (b : Bool) → (2 * n + cond b 1 0) / 2 ≡ n
half n b = grind (arith, common_steps)

-- one more digit before those from y on
pub more_digits : (t : ℕ → Bool) (i y z n : ℕ) (b : Bool) → bits i n ≡ tests_from t z i → z ≡ suc y
    → b ≡ t y → bits (i + 1) (2 * n + cond b 1 0) ≡ tests_from t y (i + 1)
more_digits t i y z n b h next is = search rules
