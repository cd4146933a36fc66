use Rattle.std.proofs.Common.{◌≡◌, ◌++◌, drop}
use Rattle.cps_theory.specs.UndominatedPairs.{sweep}
use Rattle.cert_writer.proofs.pairs.falling.Given as goal

abbrev pub invariant-loop-pair : goal.invariant-loop-pair
invariant-loop-pair l = l.pairs.items ++ sweep l.least (drop l.pair-index l.sorted) ≡ sweep 4294967296 l.sorted
