-- A text with and without a byte-order mark.
use Rattle.std.proofs.lemmas.Grind.{common_steps}
use Rattle.std.proofs.Common.{◌≡◌, ℕ, ◌-◌, ◌<◌, ◌≤◌, List, true, false, length, take, drop, get_or, arith}
use Rattle.csv.specs.Reading.{is_bom, strip_bom}

pub unmarked_short : (bytes : List ℕ) → length bytes < 3 → bytes ≡ strip_bom bytes
unfolding strip_bom
unmarked_short bytes h = grind arith

pub unmarked : (bytes : List ℕ) → 3 ≤ length bytes
    → false ≡ is_bom (get_or bytes 0 0) (get_or bytes 1 0) (get_or bytes 2 0) → bytes ≡ strip_bom bytes
unfolding strip_bom
unmarked bytes h e = grind arith

pub marked : (bytes : List ℕ) → 3 ≤ length bytes
    → true ≡ is_bom (get_or bytes 0 0) (get_or bytes 1 0) (get_or bytes 2 0)
    → take (length bytes - 3) (drop 3 bytes) ≡ strip_bom bytes
unfolding strip_bom
marked bytes h e = grind (arith, common_steps)
