-- What a counted ledger shows of itself.
use Rattle.std.specs.Prelude.{◌≡◌, ℕ, Some}
use Rattle.cps_base.specs.Tally.{FitsCount}
use Rattle.cps_base.specs.declared.ledger.Counted.{Counted}

-- the count that it keeps
abbrev pub count_of : Counted → ℕ
count_of ledger = ledger.value

pub counted_fits : (ledger : Counted) → FitsCount (Some (count_of ledger))
counted_fits ledger n told = let same : count_of ledger ≡ n = cc in rw (← same) ledger.in_range
