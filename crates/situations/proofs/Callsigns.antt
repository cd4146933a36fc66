-- The test of two callsigns, and what it tells.
use Rattle.std.proofs.Common.{rules, ◌≡◌, ℕ, true, List}
use Rattle.std.specs.Str.{bytes_eq}

pub bytes_eq-true : (c d : List ℕ) → bytes_eq c d ≡ true → c ≡ d
bytes_eq-true c d h = search rules
