use Rattle.std.proofs.Common.{ℕ, arith}
use Rattle.cps_network.specs.Extended.{IsOpen}
use Rattle.cps_network.proofs.GroupLemmas.{no_ranks, more_ranks, all_ranks}
use Rattle.cps_network.proofs.ahead.open_offsets.Goals as goal

pub loop-rank-init : goal.loop-rank-init
loop-rank-init c = no_ranks c.args.problem.now c.args.stage (λ (m : ℕ). IsOpen c.args.problem.now c.args.stage m)
    (λ m is. is) _ (omega arith)

pub loop-rank-preserved : goal.loop-rank-preserved
loop-rank-preserved c = more_ranks c.args.problem.now c.args.stage (λ (m : ℕ). IsOpen c.args.problem.now c.args.stage m)
    (λ m is. is) _ _ _ c.loop-rank.invariant c.with_open-offsets.ensures

pub returns : goal.returns
returns c = all_ranks c.args.problem.now c.args.stage (λ (m : ℕ). IsOpen c.args.problem.now c.args.stage m)
    (λ m is. is) _ c.loop-rank.rank (omega arith) c.loop-rank.invariant
