-- What is kept, and what is left of the pairs, are the pairs without the first equal one.
use Rattle.std.proofs.Common.{◌≡◌, ◌≤◌, ◌++◌, drop, length}
use Rattle.landing_rules.specs.Events.{same_span, without_first}
use Rattle.landing_windows.proofs.Without.{left}
use Rattle.landing_windows.proofs.closures.without.Given as goal

abbrev pub invariant-loop-other : goal.invariant-loop-other
invariant-loop-other l = record {
  same : l.kept ++ left (same_span l.pair) l.is_found (drop l.other-index l.pairs) ≡ without_first
      (same_span l.pair) l.pairs;
  few : length l.kept ≤ l.other-index;
}
