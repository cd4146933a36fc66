-- The listed landings as a list of seconds by rank, and what it breaks first.
use Rattle.std.specs.Prelude.{ℕ, ◌+◌, ◌&&◌, ◌||◌, ◌==◌, not, List, [], ◌∷◌, length, map, Bool, nat_le, nat_lt}
use Rattle.std.specs.Prelude.{bytes_eq, count_by, Option, is_some, if◌then◌else◌}
use Rattle.std.specs.List.{list_any}
use Rattle.precedence.specs.Pairs.{must_precede}
use Rattle.landing_rules.specs.Flights.{Schedule}
use Rattle.landing_rules.specs.Rules.{is_within}
use Rattle.landing_rules.specs.Problem.{Problem, Waiting, place_in}
use Rattle.cps_theory.specs.FirstFound.{first_from}
use Rattle.cps_theory.specs.RankLists.{of_rank}
use Rattle.landing_joint.specs.RankedProblem.{no_waiting, start_at, apart_at}
use Rattle.certificate.specs.declared.certificate.Claim.{Claim}
use Rattle.certificate.specs.declared.certificate.Claim.TheVariants.{Optimal, Infeasible}

-- callsigns with their seconds
abbrev pub Landings : Type 0
Landings = List (List ℕ × ℕ)

-- the number of waiting flights, and the one of a rank
abbrev pub count : Problem → ℕ
count p = length p.flights

abbrev pub flight : Problem → ℕ → Waiting
flight p r = of_rank no_waiting p.flights r

-- the second of the first landing of a callsign, and 0 with none
abbrev pub second_of : Landings → List ℕ → ℕ
second_of [] name = 0
second_of (l ∷ ls) name = if bytes_eq l.0 name then l.1 else second_of ls name

-- the seconds by rank, and the one of a rank
abbrev pub seconds : Problem → Landings → Schedule
seconds p ls = map (λ f. second_of ls f.callsign) p.flights

abbrev pub second : Problem → Landings → ℕ → ℕ
second p ls r = of_rank 0 (seconds p ls) r

-- the landings have the callsign of a rank not exactly once
abbrev pub is_not_once : Problem → Landings → ℕ → Bool
is_not_once p ls r = not (count_by (λ l. bytes_eq l.0 (flight p r).callsign) ls == 1)

-- the landings are not each waiting flight once; or are some, though nothing is claimed to land
abbrev pub are_not_flights : Problem → Claim → Landings → Bool
are_not_flights p (Optimal v) ls = not (length ls == count p) || is_some (first_from (is_not_once p ls) 1 (count p))
are_not_flights p Infeasible ls = not (length ls == 0)

-- the second of a rank is not open
abbrev pub is_shut : Problem → Landings → ℕ → Bool
is_shut p ls r = not (list_any (is_within (second p ls r)) (flight p r).open_spans)

-- it is before the horizon, or too close behind the last frozen landing
abbrev pub is_early : Problem → Landings → ℕ → Bool
is_early p ls r = nat_lt (second p ls r) (start_at p r)

-- rank q lands with rank r or behind it, and too close
abbrev pub is_close_behind : Problem → Landings → ℕ → ℕ → Bool
is_close_behind p ls r q = nat_le (second p ls r) (second p ls q)
    && nat_lt (second p ls q) (second p ls r + apart_at p r q)

-- two ranks, the lower one first, land too close to one another
abbrev pub are_too_close : Problem → Landings → ℕ → ℕ → Bool
are_too_close p ls r q = nat_lt r q && (is_close_behind p ls r q || is_close_behind p ls q r)

-- rank r must precede rank q, and does not
abbrev pub are_out_of_order : Problem → Landings → ℕ → ℕ → Bool
are_out_of_order p ls r q = must_precede p.pairs r q && not (nat_lt (second p ls r) (second p ls q))

abbrev pub first_too_close : Problem → Landings → ℕ → Option ℕ
first_too_close p ls r = first_from (are_too_close p ls r) 1 (count p)

abbrev pub first_out_of_order : Problem → Landings → ℕ → Option ℕ
first_out_of_order p ls r = first_from (are_out_of_order p ls r) 1 (count p)

-- the place of a rank: 1 plus the number of flights that land earlier
abbrev pub place : Problem → Landings → ℕ → ℕ
place p ls r = place_in (seconds p ls) (second p ls r)

-- a rank lands further ahead of its rank than the shift allows, or further behind it than the shift less the flights
-- that passed it
abbrev pub is_shifted : Problem → Landings → ℕ → Bool
is_shifted p ls r = nat_lt (place p ls r + p.k) r || nat_lt (r + p.k) (place p ls r + (flight p r).passed)
