-- The flights that a state makes.
use Rattle.std.specs.Prelude.{ℕ, zero, suc, List, [], ◌∷◌, ◌+◌, ◌/◌, ◌%◌, get_or}
use Rattle.wake_table.specs.declared.category.Category.{Category}
use Rattle.wake_table.specs.declared.category.Category.TheVariants.{A}
use Rattle.wake_table.specs.Letters.{letters, category_count}
use Rattle.arrivals.specs.declared.flight.Flight.{Flight}
use Rattle.traffic_gen.specs.Draws.{next, drawn}

-- `T` and the number in three digits
unfoldable pub callsign : ℕ → List ℕ
callsign number = 84 ∷ (48 + number / 100 % 10) ∷ (48 + number / 10 % 10) ∷ (48 + number % 10) ∷ []

-- the category at this place in letter order, from 0
unfoldable pub category_at : ℕ → Category
category_at place = get_or letters place A

-- one window of two hours, from the estimated second on
abbrev pub window_from : ℕ → List (ℕ × ℕ)
window_from eta = (eta, eta + 7199) ∷ []

-- the states after three draws, one after another
abbrev pub after_three : ℕ → ℕ
after_three x = next (next (next x))

-- the flight of this number, behind one that is due at second `before`. Three draws make it: the spacing from the
-- flight before, the category and the weight.
unfoldable pub flight : ℕ → ℕ → ℕ → Flight
flight number before x = record {
  callsign = callsign number;
  category = category_at (drawn category_count (next (next x)));
  eta = before + 60 + drawn 60 (next x);
  weight = 1 + drawn 5 (next (next (next x)));
  windows = window_from (before + 60 + drawn 60 (next x));
  after = [];
}

-- so many flights, of the numbers from `number` on, each behind the one before it
unfoldable pub flights_from : ℕ → ℕ → ℕ → ℕ → List Flight
flights_from zero number before x = []
flights_from (suc n) number before x =
    flight number before x ∷ flights_from n (number + 1) (before + 60 + drawn 60 (next x)) (after_three x)
