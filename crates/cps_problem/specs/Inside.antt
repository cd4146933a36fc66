-- The fields of a problem, as contracts see them.
use Rattle.landing_rules.specs.Problem as rules
use Rattle.cps_problem.specs.declared.problem.Problem.TheInside.{Inside}
use Rattle.cps_problem.specs.Seen.{seen_problem}

abbrev pub seen : Inside → rules.Problem
seen p = seen_problem p.head p.waiting.items p.pairs
