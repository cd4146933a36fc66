-- The count of a ledger, told or not, and what adding to it makes of it.
use Rattle.std.specs.Prelude.{ℕ, ◌+◌, ◌-◌, ◌^◌, ◌<◌, min, Option, Some, None}
use Rattle.std.specs.Option.{ForSome}

-- n more steps: a told count grows by n, and stops at the last value of a u64
abbrev pub raised_by : ℕ → Option ℕ → Option ℕ
raised_by n (Some count) = Some (min (count + n) (2 ^ 64 - 1))
raised_by n None = None

-- a told count is that of a u64
abbrev pub FitsCount : Option ℕ → Type 0
FitsCount count = ForSome count (λ n. n < 2 ^ 64)

pub silent_fits : FitsCount None
silent_fits n told = absurd (cc)
