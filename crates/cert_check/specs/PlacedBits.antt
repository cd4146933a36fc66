-- The node of a prefix by the set of its ranks, kept as the bits of one number.
use Rattle.std.specs.Prelude.{◌≡◌, ℕ, suc, ◌+◌, ◌-◌, ◌*◌, ◌/◌, ◌<◌, ◌≤◌, ◌^◌, ◌⊎◌, ◌↔◌, ◌||◌, List, length, Bool}
use Rattle.std.specs.Prelude.{nat_le, nat_eq}
use Rattle.std.specs.Int.{bit_at}
use Rattle.precedence.specs.Pairs.{HasBit}
use Rattle.cps_theory.specs.RankLists.{In}
use Rattle.cps_theory.specs.LandingTrail.{last_rank}
use Rattle.cps_theory.specs.LegalPrefix.{OrderRules}
use Rattle.cps_theory.specs.Patterns.{pattern_node, tests_from}
use Rattle.certificate.specs.Patterns.{bits}

-- is rank `y - k` placed, by the bits of the placed ranks; ranks below 1 are
abbrev pub is_marked : ℕ → ℕ → ℕ → Bool
is_marked k placed y = nat_le y k || nat_eq (bit_at placed (y - k)) 1

-- the digits of a stage
abbrev pub digits_of : ℕ → ℕ → ℕ → List Bool
digits_of k stage placed = tests_from (is_marked k placed) (suc stage) (2 * k)

-- the bits of the ranks of a prefix give its digits
abbrev pub PatternOfBitsLaw : Type 0
PatternOfBitsLaw = (g : OrderRules) (rs : List ℕ) (placed : ℕ) → ((r : ℕ) → 1 ≤ r → HasBit placed r ↔ In r rs)
    → pattern_node g rs ≡ (length rs, digits_of g.most (length rs) placed, last_rank rs)

-- the digits of a stage are the bits behind it of the number that has bit `y` where rank `y - k` is placed or below 1
abbrev pub DigitsAreBitsLaw : Type 0
DigitsAreBitsLaw = (k stage placed marks : ℕ)
    → ((y : ℕ) → HasBit marks y ↔ ((y ≤ k) ⊎ ((k < y) × HasBit placed (y - k))))
    → digits_of k stage placed ≡ bits (2 * k) (marks / 2 ^ (stage + 1))
