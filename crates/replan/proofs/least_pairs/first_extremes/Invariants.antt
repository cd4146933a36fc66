use Rattle.std.proofs.Common.{◌≡◌, map, take}
use Rattle.cps_network.specs.Pairs.{list_at}
use Rattle.replan.specs.WindowNodes.{extremes, AreInDays}
use Rattle.replan.proofs.least_pairs.first_extremes.Given as goal

abbrev pub invariant-loop-first : goal.invariant-loop-first
invariant-loop-first l = (l.least.items ≡ map (λ i. extremes (list_at l.labels.lists i)) (take l.first-index l.firsts))
    × AreInDays l.least.items
