-- How many states a certificate has that leaves nothing out.
use Rattle.std.specs.Prelude.{◌≡◌, ℕ, zero, suc, ◌*◌, ◌≤◌, List, length, true}
use Rattle.std.specs.List.{list_any}
use Rattle.landing_rules.specs.declared.objective.Objective.TheVariants.{Makespan}
use Rattle.landing_rules.specs.Rules.{is_within}
use Rattle.landing_rules.specs.Problem.{Problem}
use Rattle.cps_problem.specs.WellFormed.{IsWellFormed}
use Rattle.certificate.specs.States.{State}
use Rattle.cps_theory.specs.Labels.{InPairs, Pair}
use Rattle.cert_check.specs.Landings.{count, flight}
use Rattle.cert_check.specs.Whole.{AreWholeStates, IsWholeState}

-- the patterns and last ranks of a stage, for k up to 3: of 2k digits k are 1, and the last rank is one of these k or
-- the one below them
abbrev pub most_nodes : ℕ → ℕ
most_nodes zero = 1
most_nodes (suc zero) = 4
most_nodes (suc (suc zero)) = 18
most_nodes (suc (suc (suc k))) = 80

abbrev pub WholeStatesAreFewLaw : Type 0
WholeStatesAreFewLaw = (p : Problem) (ss : List State) → IsWellFormed p → AreWholeStates p ss
    → length ss ≤ count p * most_nodes p.k

-- for the makespan each state has one pair
abbrev pub MakespanPairsLaw : Type 0
MakespanPairsLaw = (p : Problem) (s : State) → p.objective ≡ Makespan → IsWholeState p s → length s.pairs ≤ 1

-- the second of a pair is open for the last flight of its state
abbrev pub PairsAreOpenLaw : Type 0
PairsAreOpenLaw = (p : Problem) (s : State) (q : Pair) → IsWholeState p s → InPairs q s.pairs
    → list_any (is_within q.0) (flight p s.last).open_spans ≡ true
