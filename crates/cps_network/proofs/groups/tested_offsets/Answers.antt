use Rattle.std.proofs.Common.{ℕ, arith}
use Rattle.cps_network.specs.Permits.{IsPermitted}
use Rattle.cps_network.proofs.GroupLemmas.{no_ranks, more_ranks, all_ranks, permitted_opens}
use Rattle.cps_network.proofs.groups.tested_offsets.Goals as goal

pub loop-rank-init : goal.loop-rank-init
loop-rank-init g c = no_ranks c.args.problem.now c.args.stage (λ (m : ℕ). IsPermitted c.args.problem.now c.args.stage
    c.args.window.now m) (permitted_opens c.args.problem.now c.args.stage c.args.window.now) _ (omega arith)

pub loop-rank-preserved : goal.loop-rank-preserved
loop-rank-preserved g c = more_ranks c.args.problem.now c.args.stage (λ (m : ℕ). IsPermitted c.args.problem.now
    c.args.stage c.args.window.now m) (permitted_opens c.args.problem.now c.args.stage c.args.window.now) _ _ _
    c.loop-rank.invariant c.with_rank-offsets.ensures

pub returns : goal.returns
returns g c = all_ranks c.args.problem.now c.args.stage (λ (m : ℕ). IsPermitted c.args.problem.now c.args.stage
    c.args.window.now m) (permitted_opens c.args.problem.now c.args.stage c.args.window.now) _ c.loop-rank.rank
    (omega arith) c.loop-rank.invariant
