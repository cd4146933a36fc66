use Rattle.std.proofs.Common.{ℕ, ◌<◌}
use Rattle.first_best.specs.Completing.{IsWithinBudget}
use Rattle.first_best.proofs.ScanLemmas.{Scanned}
use Rattle.first_best.proofs.complete.latest_pairs.Given as goal

abbrev pub invariant-loop-second : goal.invariant-loop-second
invariant-loop-second l = (limit : ℕ) × (limits : (cost : ℕ) → cost < 4294967296
    → IsWithinBudget l.wanted.budget l.node.cheapest cost → cost < limit)
    × Scanned l.wanted.problem.now l.wanted.value l.wanted.budget l.wanted.stage l.node l.next
    limit limits l.second l.least l.pairs.items
