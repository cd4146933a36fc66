-- The rules of a schedule as a test that computes.
use Rattle.std.specs.Prelude.{ℕ, ◌+◌, ◌==◌, Bool, ◌&&◌, ◌||◌, not, List, Option, Some, None, length, nat_lt, nat_le}
use Rattle.std.specs.Prelude.{filter}
use Rattle.std.specs.Str.{bytes_eq}
use Rattle.std.specs.List.{list_all}
use Rattle.wake_table.specs.Table.{separation}
use Rattle.landing_rules.specs.Flights.{Situation, Schedule, Landing, landings, horizon}
use Rattle.landing_rules.specs.Rules.{last_second, is_open, lists, rank_among, place, waits}

abbrev pub is_pair_separated : List (List ℕ) → Landing → Landing → Bool
is_pair_separated table f g =
    bytes_eq f.flight.callsign g.flight.callsign || (nat_lt g.second f.second ||
    nat_le (f.second + separation table f.flight.category g.flight.category) g.second)

abbrev pub is_pair_in_precedence : Landing → Landing → Bool
is_pair_in_precedence f g = not (lists g.flight f.flight.callsign) || nat_lt f.second g.second

abbrev pub is_shift_kept : ℕ → List Landing → Landing → Bool
is_shift_kept k all f = nat_le (rank_among all f) (place all f + k)
    && nat_le (place all f + f.passed) (rank_among all f + k)

abbrev pub keeps_frozen : ℕ → ℕ → Option ℕ → Bool
keeps_frozen h second None = nat_le h second
keeps_frozen h second (Some t) = second == t

abbrev pub for_each_pair : (Landing → Landing → Bool) → List Landing → Bool
for_each_pair test all = list_all (λ f. list_all (test f) all) all

abbrev pub keeps_rules : Situation → List Landing → Bool
keeps_rules s all =
    list_all (λ f. nat_le f.second last_second) all && (
    list_all (λ f. is_open f.flight.windows s.closures f.second) all && (
    for_each_pair (is_pair_separated s.aerodrome.table) all && (
    for_each_pair is_pair_in_precedence all && (
    list_all (is_shift_kept s.aerodrome.k (filter waits all)) (filter waits all) &&
    list_all (λ f. keeps_frozen (horizon s) f.second f.frozen) all))))

abbrev pub is_feasible : Situation → Schedule → Bool
is_feasible s t = (length t == length s.active) && keeps_rules s (landings s.active t)
