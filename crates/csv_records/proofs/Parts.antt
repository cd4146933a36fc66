-- A text from one of its bytes on.
use Rattle.std.proofs.Common.{◌≡◌, ℕ, ◌-◌, List, length, take, drop, length-drop}
use Rattle.std.proofs.Math.Seq.{take-length}

-- a text from one of its bytes on, as a slice has it
pub rest_is : (k : ℕ) (text : List ℕ) → take (length text - k) (drop k text) ≡ drop k text
rest_is k text = rw (← length-drop k text) (take-length (drop k text))
