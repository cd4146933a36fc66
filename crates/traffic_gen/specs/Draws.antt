-- Draws from a state, which is a number modulo 2 ^ 64.
use Rattle.std.specs.Prelude.{ℕ, ◌+◌, ◌*◌, ◌/◌, ◌%◌, ◌^◌}

-- the state after a draw
unfoldable pub next : ℕ → ℕ
next x = (x * 6364136223846793005 + 1442695040888963407) % 2 ^ 64

-- what a draw gives, of the numbers below `most`, where x is the state after it
unfoldable pub drawn : ℕ → ℕ → ℕ
drawn most x = x / 2 ^ 33 % most
