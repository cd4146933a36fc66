-- The ranks that a window holds, as the bits of a number.
use Rattle.std.specs.Prelude.{◌≡◌, ℕ, ℤ, pos, ◌-ℤ◌, ◌↔◌, List}
use Rattle.std.specs.Int.{bit_at}
use Rattle.cps_nodes.specs.Windows.{HoldsRank}

-- bit 8 + r is set exactly where some place of the list holds rank r
abbrev pub AreHeld : List ℤ → ℕ → Type 0
AreHeld xs bits = (i : ℕ) → (bit_at bits i ≡ 1) ↔ HoldsRank xs (pos i -ℤ pos 8)
