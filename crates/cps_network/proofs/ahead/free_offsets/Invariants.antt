use Rattle.std.proofs.Common.{ℕ}
use Rattle.cps_network.specs.Again.{IsReady}
use Rattle.cps_network.specs.Extended.{IsOpen}
use Rattle.cps_network.proofs.GroupLemmas.{HasRanks}
use Rattle.cps_network.proofs.ahead.free_offsets.Given as goal

abbrev pub invariant-loop-rank : goal.invariant-loop-rank
invariant-loop-rank l = HasRanks l.problem l.stage (λ (m : ℕ). IsOpen l.problem l.stage m
    × IsReady l.problem l.stage m) l.offsets l.rank
