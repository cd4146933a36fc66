use Rattle.std.proofs.Common.{subst}
use Rattle.cps_problem.specs.WellFormed.{IsWellFormed}
use Rattle.stage_landings.specs.Followers.{AreFollowers}
use Rattle.stage_landings.specs.Reach.{StageOf}
use Rattle.stage_landings.proofs.LandingLemmas.{apart_there, ready_is}
use Rattle.stage_landings.proofs.landings.StageLandings.ready.Goals as goal

pub returns-clause-value : goal.returns-clause-value
returns-clause-value c =
    let p = c.args.self.now.problem in
    let are = subst (λ (s : StageOf). AreFollowers s.problem s.number c.self.inside.followers) c.self.view_is
    c.self.invariant in
    let formed = subst (λ (s : StageOf). IsWellFormed s.problem) c.self.view_is c.head-well_formed.ensures.well_formed in
    ready_is p c.args.leader c.args.second c.args.rank _ formed.table c.requires.latest
    (apart_there p c.args.self.now.number c.self.inside.followers c.args.rank c.args.leader c.place_of.result
    c.place_of-2.result _ are c.requires.rank c.requires.leader c.place_of.ensures.value c.place_of-2.ensures.value)
