-- The problem of a situation over the numbers of its flights.
use Rattle.std.specs.Prelude.{ℕ, List, [], ◌∷◌, length, map, cond, if◌then◌else◌}
use Rattle.std.specs.Ordering.{is_lt}
use Rattle.landing_rules.specs.Flights.{Active, Situation, Schedule}
use Rattle.landing_rules.specs.Rules.{arrival_cmp}
use Rattle.cps_theory.specs.RankLists.{of_rank}
use Rattle.cps_theory.specs.Freeze.{rank_in}
use Rattle.landing_joint.specs.Numbered.{numbered, numbers_of, waits_at, comes_before, numbered_situation}

-- the numbers of the waiting flights by rank, sorted as the flights are
abbrev pub insert_number : List Active → ℕ → List ℕ → List ℕ
insert_number all i [] = i ∷ []
insert_number all i (j ∷ rest) = if is_lt (arrival_cmp (numbered all j).flight (numbered all i).flight)
    then j ∷ insert_number all i rest else i ∷ j ∷ rest

abbrev pub numbers_by_rank : List Active → List ℕ → List ℕ
numbers_by_rank all [] = []
numbers_by_rank all (i ∷ rest) = insert_number all i (numbers_by_rank all rest)

abbrev pub number_at : Situation → ℕ → ℕ
number_at s r = of_rank (length s.active) (numbers_by_rank s.active (numbered_situation s).waiting) r

-- the frozen landings joined with a list of seconds by rank
abbrev pub joined : Situation → Schedule → Schedule
joined s v = map (λ i. cond (waits_at s.active i)
    (of_rank 0 v (rank_in (comes_before s.active) (numbered_situation s).waiting i))
    ((numbered_situation s).frozen_at i))
    (numbers_of s.active)
