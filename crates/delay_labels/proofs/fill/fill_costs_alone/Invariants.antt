-- The lists made so far are those of the windows at their places.
use Rattle.std.proofs.Common.{◌≡◌, ℕ, ◌<◌, length}
use Rattle.cps_network.specs.Pairs.{list_at}
use Rattle.delay_labels.specs.StageLists.{IsListOf}
use Rattle.delay_labels.proofs.fill.fill_costs_alone.Given as goal

abbrev pub invariant-loop-i : goal.invariant-loop-i
invariant-loop-i g l = (length l.costs ≡ l.i)
    × ((k : ℕ) → k < l.i → IsListOf l.landings.problem l.before l.labels l.stage k (list_at l.costs k))
