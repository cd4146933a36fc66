-- What contracts see of waiting flights, and of the parts of a problem: the rules' own.
use Rattle.std.specs.Prelude.{ℕ, List, map}
use Rattle.landing_rules.specs.Problem as rules
use Rattle.cps_theory.specs.RankLists.{of_rank}
use Rattle.landing_joint.specs.RankedProblem.{no_waiting}
use Rattle.cps_problem.specs.declared.problem.Waiting.{Waiting}
use Rattle.cps_problem.specs.declared.problem.Head.{Head}

abbrev pub waiting_of : Waiting → rules.Waiting
waiting_of w = record {
  callsign = w.callsign;
  category = w.category;
  eta = w.eta;
  weight =
      w.weight;
  passed = w.passed;
  open_spans = w.times;
}

abbrev pub seen_problem : Head → List Waiting → List ℕ → rules.Problem
seen_problem head waiting pairs = record {
  table = head.table;
  k = head.k;
  objective = head.objective;
  horizon = head.horizon;
  last = head.last;
  base = head.base;
  flights = map waiting_of waiting;
  pairs = pairs;
}

-- how many flights passed that of a rank
abbrev pub passed_at : rules.Problem → ℕ → ℕ
passed_at p rank = (of_rank no_waiting p.flights rank).passed
