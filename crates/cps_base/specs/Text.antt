-- What a callsign is.
use Rattle.std.specs.Prelude.{ℕ, List, Bool, ◌&&◌, ◌||◌, nat_le, length}
use Rattle.std.specs.List.{list_all}
use Rattle.std.specs.Char.{is_ascii_uppercase, is_ascii_digit}

-- a capital letter or a digit
abbrev pub is_callsign_byte : ℕ → Bool
is_callsign_byte b = is_ascii_uppercase b || is_ascii_digit b

-- 2 to 8 bytes of these
abbrev pub is_callsign : List ℕ → Bool
is_callsign text = (nat_le 2 (length text) && nat_le (length text) 8) && list_all is_callsign_byte text
