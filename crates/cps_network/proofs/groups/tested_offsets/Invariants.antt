use Rattle.std.proofs.Common.{ℕ}
use Rattle.cps_network.specs.Permits.{IsPermitted}
use Rattle.cps_network.proofs.GroupLemmas.{HasRanks}
use Rattle.cps_network.proofs.groups.tested_offsets.Given as goal

abbrev pub invariant-loop-rank : goal.invariant-loop-rank
invariant-loop-rank g l = HasRanks l.problem l.stage (λ (m : ℕ). IsPermitted l.problem l.stage l.window m) l.offsets
    l.rank
