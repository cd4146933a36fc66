use Rattle.std.proofs.Common.{◌≡◌, ℕ, ◌-◌, ◌≤◌, true}
use Rattle.landing_rules.specs.Rules.{last_second}
use Rattle.landing_joint.specs.RankedProblem.{ranked}
use Rattle.first_best.proofs.complete.last_open.Given as goal

abbrev pub invariant-loop-low : goal.invariant-loop-low
invariant-loop-low l = record {
  in_order : l.low ≤ l.high;
  in_days : l.high ≤ last_second;
  last : (t : ℕ) → (ranked l.problem).is_open l.rank t ≡ true → t ≤ l.high;
}

abbrev pub decreases-loop-low : goal.decreases-loop-low
decreases-loop-low l = l.high - l.low
