-- How many of each thing there may be at most, and the greatest numbers. This project's own.
use Rattle.std.specs.Prelude.{ℕ}

-- bytes of a file
abbrev pub most_bytes : ℕ
most_bytes = 16777216

-- flights that wait
abbrev pub most_waiting : ℕ
most_waiting = 60

-- flights, waiting or frozen
abbrev pub most_flights : ℕ
most_flights = 500

-- closures that stand
abbrev pub most_closures : ℕ
most_closures = 32

-- events of a log
abbrev pub most_events : ℕ
most_events = 2000

-- seconds that the windows of a flight hold together
abbrev pub most_open_seconds : ℕ
most_open_seconds = 7200

-- seconds of a freeze
abbrev pub longest_freeze : ℕ
longest_freeze = 7200

-- weight of a flight
abbrev pub greatest_weight : ℕ
greatest_weight = 100

-- value of a plan: 500 flights of weight 100, each 172,799 seconds late
abbrev pub greatest_value : ℕ
greatest_value = 8639950000

-- places that a flight may be shifted by: where the latest landing is least, and where delay is
abbrev pub greatest_k : ℕ
greatest_k = 3

abbrev pub greatest_delay_k : ℕ
greatest_delay_k = 2

-- windows of a flight
abbrev pub most_windows : ℕ
most_windows = 4

-- flights that a flight lists as its predecessors
abbrev pub most_predecessors : ℕ
most_predecessors = 4

-- horizon: the last second of the two days and the longest freeze
abbrev pub latest_horizon : ℕ
latest_horizon = 179999

-- what one landing costs: a weight of 100, 172,799 seconds late
abbrev pub dearest_landing : ℕ
dearest_landing = 17279900

-- number that 32 bits hold
abbrev pub greatest_word : ℕ
greatest_word = 4294967295
