-- The aerodrome of a trial.
use Rattle.std.specs.Prelude.{ℕ, [], None, false}
use Rattle.wake_table.specs.Table.{sample_table}
use Rattle.landing_rules.specs.declared.objective.Objective.TheVariants.{Makespan}
use Rattle.arrivals.specs.declared.aerodrome.Aerodrome.{Aerodrome}

-- nothing is frozen ahead of the clock, the last landing is made least, the runway has no closure, and the day begins
-- with it
abbrev pub aerodrome_with : ℕ → Aerodrome
aerodrome_with k = record {
  version = 1;
  k = k;
  freeze = 0;
  objective = Makespan;
  table = sample_table;
  closures = [];
  clock = None;
  frozen = [];
  carry = false;
  passed = [];
}
