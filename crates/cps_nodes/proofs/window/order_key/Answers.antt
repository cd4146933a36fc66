use Rattle.std.proofs.Common.{rules, ◌≡◌, ℕ, ◌*◌, ◌+◌, ◌-◌, ◌/◌, ◌%◌, ◌<◌, ◌^◌, arith, pow_mono, subst}
use Rattle.std.proofs.lemmas.Nat.{shr_below}
use Rattle.cps_nodes.proofs.DigitLemmas.{shifted_lt}
use Rattle.cps_nodes.proofs.window.order_key.Goals as goal

-- a key is below what a window's number is below
below : (width number : ℕ) → 0 < width → width < 8 → number < 2 ^ (4 * width)
    → number % 2 ^ (4 * (width - 1)) * 16 + number / 2 ^ (4 * (width - 1)) < 2 ^ 28
below width number some few lt =
    let digits : 4 * width ≡ 4 + 4 * (width - 1) = omega arith in
    let first : number / 2 ^ (4 * (width - 1)) < 16 =
    shr_below number 4 (4 * (width - 1)) (subst (λ (e : ℕ). number < 2 ^ e) digits lt) in
    search (rules, pow_mono, shifted_lt)

pub overflow_mul-result : goal.overflow_mul-result
overflow_mul-result g c = grind (arith, below)

pub overflow_add-result : goal.overflow_add-result
overflow_add-result g c = grind (arith, below)
