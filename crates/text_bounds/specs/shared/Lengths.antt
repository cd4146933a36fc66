-- How long numbers, callsigns and lines are at most.
use Rattle.std.proofs.Common.{◌≡◌, ℕ, ◌<◌, ◌≤◌, List, length, true, arith}
use Rattle.std.specs.Prelude.{decimal}
use Rattle.std.proofs.lemmas.Fmt.{length-decimal-le}
use Rattle.cps_base.specs.Text.{is_callsign}
use Rattle.cps_base.specs.Limits.{greatest_value, most_waiting}
use Rattle.landing_rules.specs.Rules.{last_second}

pub second_short : (n : ℕ) → n ≤ last_second → length (decimal n) ≤ 6
second_short n le = grind (arith, length-decimal-le)

pub value_short : (n : ℕ) → n ≤ greatest_value → length (decimal n) ≤ 10
value_short n le = grind (arith, length-decimal-le)

pub number_short : (n : ℕ) → n < 10000 → length (decimal n) ≤ 4
number_short n le = grind (arith, length-decimal-le)

pub rank_short : (n : ℕ) → n ≤ most_waiting → length (decimal n) ≤ 2
rank_short n le = grind (arith, length-decimal-le)

pub callsign_short : (c : List ℕ) → is_callsign c ≡ true → length c ≤ 8
callsign_short c h = grind arith
