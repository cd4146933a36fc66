-- So far the stages are held, and the count is raised by the candidates of those that are new.
use Rattle.std.proofs.Common.{◌≡◌, ℕ, ◌-◌, ◌≤◌}
use Rattle.std.specs.Prelude.{max, vec_len}
use Rattle.cps_base.specs.Tally.{raised_by}
use Rattle.cps_network.specs.Due.{HasCandidatesFrom}
use Rattle.replan.specs.Stages.{AreStages}
use Rattle.replan.proofs.filling.fill_upto.Given as goal

abbrev pub invariant-loop-stage : goal.invariant-loop-stage
invariant-loop-stage g l = ((due : ℕ) × HasCandidatesFrom (vec_len l.fn.begun.stages) l.planning.problem.now
    (l._stage - 1) due × (g.L.Ledger.count l.steps ≡ raised_by due (g.L.Ledger.count l.fn.steps)))
    × AreStages l.planning.problem.now l.begun.stages.items × (vec_len l.begun.stages ≡ l._stage)
    × (l._stage ≤ max (vec_len l.fn.begun.stages) l.count)
