-- A situation of the rules over the numbers of its flights, in order of arrival from 0.
use Rattle.std.specs.Prelude.{ℕ, Bool, ◌-◌, ◌&&◌, not, List, [], length, get_or, filter, nat_le, None, unwrap_or}
use Rattle.std.specs.Ordering.{nat_cmp, ordering_then, is_lt}
use Rattle.wake_table.specs.declared.category.Category.TheVariants.{A}
use Rattle.wake_table.specs.Table.{separation}
use Rattle.landing_rules.specs.Flights.{Active, Situation, Schedule, is_waiting, horizon}
use Rattle.landing_rules.specs.Rules.{last_second, is_open, lists, arrival_cmp}
use Rattle.cps_theory.specs.NumberedSituation as numbers
use Rattle.cps_theory.specs.RankLists.{numbers_from}

-- what stands past the last flight
abbrev pub nobody : Active
nobody = record {
  flight = record { callsign = []; category = A; eta = 0; weight = 0; windows = []; after = [] };
  frozen = None;
  passed = 0;
}

abbrev pub numbered : List Active → ℕ → Active
numbered all i = get_or all i nobody

abbrev pub second_of : Schedule → ℕ → ℕ
second_of t i = get_or t i 0

abbrev pub numbers_of : List Active → List ℕ
numbers_of all = numbers_from 0 (length all)

-- the flights that wait; those past the last are not among the numbers
abbrev pub waits_at : List Active → ℕ → Bool
waits_at all i = is_waiting (numbered all i)

-- by arrival, and past the last flight by number
abbrev pub comes_before : List Active → ℕ → ℕ → Bool
comes_before all i j = is_lt (ordering_then (arrival_cmp (numbered all i).flight (numbered all j).flight) (nat_cmp i j))

abbrev pub numbered_situation : Situation → numbers.NumberedSituation
numbered_situation s = record {
  most = s.aerodrome.k;
  back = λ i. s.aerodrome.k - (numbered s.active i).passed;
  horizon = horizon s;
  frozen = filter (λ i. not (waits_at s.active i)) (numbers_of s.active);
  waiting = filter (waits_at s.active) (numbers_of s.active);
  frozen_at = λ i. unwrap_or (numbered s.active i).frozen 0;
  is_open = λ i u. nat_le u last_second && is_open (numbered s.active i).flight.windows s.closures u;
  apart = λ i j. separation s.aerodrome.table (numbered s.active i).flight.category
      (numbered s.active j).flight.category;
  lists = λ i j. lists (numbered s.active j).flight (numbered s.active i).flight.callsign;
  comes_before = comes_before s.active;
}
