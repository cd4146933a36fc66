use Rattle.std.proofs.Common.{subst}
use Rattle.cps_nodes.specs.Laws.{FollowRanks}
use Rattle.precedence.specs.Pairs.{AreInRange}
use Rattle.cps_network.proofs.NetworkLemmas.{window_network, passed_low, steps_are_whole}
use Rattle.cps_network.proofs.StageLemmas.{lead_alike}
use Rattle.cps_network.proofs.laws.prefix_laws.Goals as goal

pub returns-clause-sources : goal.returns-clause-sources
returns-clause-sources g c = lead_alike c.args.problem.now g.row.W c.requires c.window_laws.ensures.leads

pub returns-clause-network : goal.returns-clause-network
returns-clause-network g c =
    window_network c.args.problem.now (subst AreInRange c.pairs.ensures c.all_before-in_range.ensures.in_range)
    (passed_low c.args.problem.now c.head-near.ensures.well_formed.passed)
    (subst FollowRanks c.requires c.window_laws.ensures.ranks)

pub returns-clause-whole : goal.returns-clause-whole
returns-clause-whole g c = steps_are_whole c.args.problem.now
