use Rattle.std.proofs.Common.{◌≡◌, map, take}
use Rattle.replan.specs.Stages.{without_pairs}
use Rattle.replan.proofs.hints.shared.Given as goal

abbrev pub invariant-loop-labelled : goal.invariant-loop-labelled
invariant-loop-labelled g l = l.hinted.items ≡ map without_pairs (take l.labelled-index l.stages)
