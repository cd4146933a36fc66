use Rattle.std.proofs.Common.{◌≡◌, ◌++◌, drop}
use Rattle.std.specs.Prelude.{All}
use Rattle.cps_theory.specs.UndominatedPairs.{sweep}
use Rattle.delay_labels.specs.Bounds.{IsInDays, beyond_costs}
use Rattle.delay_labels.proofs.merge.falling_of.Given as goal

abbrev pub invariant-loop-pair : goal.invariant-loop-pair
invariant-loop-pair l = (l.kept.items ++ sweep l.least (drop l.pair-index l.sorted) ≡ sweep beyond_costs l.sorted)
    × (All IsInDays l.sorted → All IsInDays l.kept.items)
