-- Sets of placed ranks, as bits.
use Rattle.std.proofs.Common.{◌≡◌, ℕ, zero, suc, ◌+◌, ◌-◌, ◌*◌, ◌/◌, ◌%◌, ◌^◌, ◌≤◌, List, arith}
use Rattle.std.specs.Prelude.{ℤ, pos, ◌+ℤ◌, ◌-ℤ◌, ◌↔◌, bit_or}
use Rattle.std.proofs.lemmas.Nat.{one_shl}
use Rattle.std.proofs.lemmas.Nat.Bits.{bit_at_or, bit_at_ones, bit_at_ones_above, bit_at-suc}
use Rattle.cps_base.specs.Limits.{most_waiting}
use Rattle.precedence.specs.Pairs.{HasBit}
use Rattle.cps_nodes.specs.Windows.{IsWindow, IsPlaced, HoldsRank}

-- the low bits are the ranks that are due
pub due_bits : (stage k rank : ℕ) → stage ≤ most_waiting → k ≤ stage
    → HasBit (1 * 2 ^ (stage - k + 1) % 2 ^ 64 - 1) rank ↔ (rank + k ≤ stage)
due_bits stage k rank few near =
    let whole : 1 * 2 ^ (stage - k + 1) % 2 ^ 64 ≡ 2 ^ (stage - k + 1) = one_shl (stage - k + 1) 64 (omega arith) in
    grind (arith, bit_at_ones, bit_at_ones_above)

-- a set of the ranks that are due and one of those that a window holds are together the ranks that it places
pub placed_of : (w : ℕ) (xs : List ℤ) (stage due held rank : ℕ) → IsWindow w xs
    → HasBit due rank ↔ (rank + w / 2 ≤ stage)
    → HasBit held rank ↔ HoldsRank xs (pos rank -ℤ pos stage +ℤ pos (w - 1)) → HasBit (bit_or due held) rank
    ↔ IsPlaced xs (pos stage) (pos rank)
placed_of w xs stage due held rank is early late = grind (arith, bit_at_or)

-- the same bits without bit 0
pub halved_twice : (n rank : ℕ) → HasBit (n / 2 * 2) rank ↔ ((1 ≤ rank) × HasBit n rank)
halved_twice n zero = omega arith
halved_twice n (suc i) = grind (arith, bit_at-suc)
