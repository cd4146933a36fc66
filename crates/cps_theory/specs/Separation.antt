-- Landings and their separation: of neighbours in landing order, and of any two.
use Rattle.std.specs.Prelude.{ℕ}

-- a flight, and the second at which it lands
abbrev pub Landing : Type 0
Landing = ℕ × ℕ
