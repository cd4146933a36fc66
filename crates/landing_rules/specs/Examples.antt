-- Small situations whose best schedules are known.
use Rattle.std.specs.Prelude.{ℕ, ◌∷◌, [], List, None, Some, false, true, codes, map}
use Rattle.wake_table.specs.declared.category.Category.{Category}
use Rattle.wake_table.specs.declared.category.Category.TheVariants.{A, B, D, E, F}
use Rattle.wake_table.specs.Table.{sample_table}
use Rattle.landing_rules.specs.declared.objective.Objective.{Objective}
use Rattle.landing_rules.specs.declared.objective.Objective.TheVariants.{Makespan, Delay}
use Rattle.landing_rules.specs.Flights.{Span, Flight, Aerodrome, Situation}
use Rattle.landing_rules.specs.Events.{newcomer, situation_after, Clock, opening_situation}
use Rattle.landing_rules.specs.Text.{ShownLanding}
use Rattle.landing_rules.specs.Audit.{Block}

abbrev pub sample : ℕ → Objective → Aerodrome
sample k objective = record { k = k; freeze = 150; objective = objective; table = sample_table; carry = false }

abbrev pub one_window : List ℕ → Category → ℕ → Span → Flight
one_window callsign category eta window =
    record { callsign = callsign; category = category; eta = eta; weight = 1; windows = window ∷ []; after = [] }

abbrev pub opened : ℕ → List Flight → Situation
opened k flights = record { aerodrome = sample k Makespan; active = map newcomer flights; closures = []; clock = None }

abbrev pub a1 : Span → Flight
a1 window = one_window (codes "A1") A 1000 window

abbrev pub f1 : Span → Flight
f1 window = one_window (codes "F1") F 1010 window

abbrev pub a2 : Flight
a2 = one_window (codes "A2") A 1001 (1001, 2000)

-- two flights, at k = 0 and k = 1
abbrev pub pair : ℕ → Situation
pair k = opened k (a1 (1000, 2000) ∷ f1 (1010, 2000) ∷ [])

-- two flights with windows too short for k = 1
abbrev pub tight_pair : Situation
tight_pair = opened 1 (a1 (1000, 1050) ∷ f1 (1010, 1170) ∷ [])

-- the pair at k = 1, with a closure that makes both orders end at 1200
abbrev pub closed_pair : Situation
closed_pair = record (pair 1) { closures = (1011, 1200) ∷ [] }

-- three flights
abbrev pub three : ℕ → Situation
three k = opened k (a1 (1000, 2000) ∷ a2 ∷ f1 (1010, 2000) ∷ [])

-- the pair at k = 1, after a clock event at 900 with the plan that lands F1 first
abbrev pub pair_at_900 : Situation
pair_at_900 = situation_after (pair 1) (Some (1070 ∷ 1010 ∷ [])) (Clock 900)

-- with the carry
abbrev pub with_carry : Situation → Situation
with_carry s = record s { aerodrome = record s.aerodrome { carry = true } }

abbrev pub carried_at_900 : Situation
carried_at_900 = situation_after (with_carry (pair 1)) (Some (1070 ∷ 1010 ∷ [])) (Clock 900)

abbrev pub f2 : Flight
f2 = one_window (codes "F2") F 1000 (1000, 2000)

-- the pair, opened at 900 with F1 frozen at 1010
abbrev pub opened_at_900 : Situation
opened_at_900 = opening_situation
    (record {
      aerodrome = sample 1 Makespan;
      closures = [];
      clock = Some 900;
      frozen =
          (codes "F1", 1010) ∷ [];
      passed = [];
    })
    (a1 (1000, 2000) ∷ f1 (1010, 2000) ∷ [])

-- five flights, where the last three must follow in turn
abbrev pub weighted : List ℕ → Category → ℕ → ℕ → List (List ℕ) → Flight
weighted callsign category eta weight after =
    record {
      callsign = callsign;
      category = category;
      eta = eta;
      weight = weight;
      windows =
          (eta, 2000) ∷ [];
      after = after;
    }

abbrev pub five : Situation
five = record {
  aerodrome = sample 1 Delay;
  active = map newcomer (
      weighted (codes "A1") A 1000 10 [] ∷
      weighted (codes "F1") F 1010 1 [] ∷
      weighted (codes "B1") B 1020 1 (codes "F1" ∷ []) ∷
      weighted (codes "D1") D 1030 1 (codes "B1" ∷ []) ∷
      weighted (codes "E1") E 1040 1 (codes "D1" ∷ []) ∷ []);
  closures = [];
  clock = None;
}

-- ---- plan blocks

abbrev pub waiting_line : List ℕ → ℕ → ShownLanding
waiting_line callsign second = record { callsign = callsign; second = second; frozen = false }

abbrev pub frozen_line : List ℕ → ℕ → ShownLanding
frozen_line callsign second = record { callsign = callsign; second = second; frozen = true }

abbrev pub makespan_block : ℕ → List ShownLanding → Block
makespan_block value lines = record { objective = Makespan; plan = record { value = value; landings = lines } }

-- F1 and then A1, with this value and these seconds
abbrev pub block_of_pair : ℕ → ℕ → ℕ → Block
block_of_pair value f a = makespan_block value (waiting_line (codes "F1") f ∷ waiting_line (codes "A1") a ∷ [])

-- the five by delay, with this value, where A1, F1 and B1 are followed by these two
abbrev pub delay_block_of_five : ℕ → ShownLanding → ShownLanding → Block
delay_block_of_five value fourth fifth = record {
  objective = Delay;
  plan = record {
    value = value;
    landings =
        waiting_line (codes "A1") 1000 ∷ waiting_line (codes "F1") 1180 ∷ waiting_line (codes "B1") 1240
        ∷ fourth ∷ fifth ∷ [];
  };
}
