-- A problem by rank as the theory sees it: the rules of an order, where each rank may land, from when on, and
-- how far apart; and what a list of seconds costs there.
use Rattle.std.specs.Prelude.{ℕ, ◌+◌, ◌-◌, ◌*◌, ◌&&◌, max, min, nat_le, List, [], ◌∷◌, length, Option, Some, None}
use Rattle.std.specs.Prelude.{if◌then◌else◌}
use Rattle.std.specs.List.{list_any}
use Rattle.wake_table.specs.declared.category.Category.{Category}
use Rattle.wake_table.specs.declared.category.Category.TheVariants.{A}
use Rattle.wake_table.specs.Table.{separation}
use Rattle.precedence.specs.Pairs.{must_precede}
use Rattle.landing_rules.specs.declared.objective.Objective.{Objective}
use Rattle.landing_rules.specs.declared.objective.Objective.TheVariants.{Makespan, Delay}
use Rattle.landing_rules.specs.Flights.{Span}
use Rattle.landing_rules.specs.Rules.{is_within}
use Rattle.landing_rules.specs.Problem.{Waiting, Problem, last_frozen}
use Rattle.cps_theory.specs.RankLists.{of_rank}
use Rattle.cps_theory.specs.Feasible.{RankedProblem, second_and_cost, next_from}

abbrev pub no_waiting : Waiting
no_waiting = record { callsign = []; category = A; eta = 0; weight = 0; passed = 0; open_spans = [] }

-- what the last frozen flight leaves
abbrev pub after_last : List (List ℕ) → Option (ℕ × Category) → Category → ℕ
after_last table None c = 0
after_last table (Some l) c = l.0 + separation table l.1 c

-- from when on a rank may land as the first, and how far it lands behind another
abbrev pub start_at : Problem → ℕ → ℕ
start_at p r = max p.horizon (after_last p.table p.last (of_rank no_waiting p.flights r).category)

abbrev pub apart_at : Problem → ℕ → ℕ → ℕ
apart_at p q r = separation p.table (of_rank no_waiting p.flights q).category (of_rank no_waiting p.flights r).category

-- the problem as the theory sees it
abbrev pub ranked : Problem → RankedProblem
ranked p = record {
  rules = record {
    count = length p.flights;
    most = p.k;
    back =
        λ r. p.k - (of_rank no_waiting p.flights r).passed;
    before = must_precede p.pairs;
  };
  is_open = λ r u. list_any (is_within u) (of_rank no_waiting p.flights r).open_spans;
  start = start_at p;
  apart = apart_at p;
}

-- the least second of these spans at or after t, whatever their order
abbrev pub first_in_span : Span → ℕ → Option ℕ
first_in_span w t = if nat_le w.0 w.1 && nat_le t w.1 then Some (max t w.0) else None

abbrev pub earlier_of : Option ℕ → Option ℕ → Option ℕ
earlier_of None b = b
earlier_of (Some x) None = Some x
earlier_of (Some x) (Some y) = Some (min x y)

abbrev pub first_open : List Span → ℕ → Option ℕ
first_open [] t = None
first_open (w ∷ ws) t = earlier_of (first_in_span w t) (first_open ws t)

-- the first open second of a rank at or after t
abbrev pub first_at : Problem → ℕ → ℕ → Option ℕ
first_at p r t = first_open (of_rank no_waiting p.flights r).open_spans t

-- where a rank lands behind another that landed at a second, or as the first: the successor's second
abbrev pub landing_after : Problem → ℕ → ℕ → ℕ → Option ℕ
landing_after p last second r = first_at p r (next_from (ranked p) last second r)

-- what a flight's landing adds to the objective of a list: nothing for makespan
abbrev pub cost_by : Objective → Waiting → ℕ → ℕ
cost_by Makespan f t = 0
cost_by Delay f t = f.weight * (t - f.eta)

abbrev pub cost_at : Problem → ℕ → ℕ → ℕ
cost_at p r t = cost_by p.objective (of_rank no_waiting p.flights r) t

-- the objective of a list whose last landing and whose costs are these. Without a waiting flight the last
-- frozen landing is the makespan
abbrev pub makespan_by : List Waiting → Problem → ℕ → ℕ
makespan_by [] p t = last_frozen p.last
makespan_by (f ∷ rest) p t = t

abbrev pub value_by : Objective → Problem → ℕ × ℕ → ℕ
value_by Makespan p pair = makespan_by p.flights p pair.0
value_by Delay p pair = p.base + pair.1

abbrev pub value_at : Problem → ℕ × ℕ → ℕ
value_at p pair = value_by p.objective p pair

-- the objective of a map from ranks to seconds
abbrev pub value_of_map : Problem → (ℕ → ℕ) → ℕ
value_of_map p t = value_at p (second_and_cost (cost_at p) (length p.flights) t)
