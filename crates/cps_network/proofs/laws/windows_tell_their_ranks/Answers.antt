use Rattle.std.proofs.Common.{subst}
use Rattle.cps_nodes.specs.Laws.{FollowRanks}
use Rattle.cps_network.proofs.NetworkLemmas.{tells_ranks}
use Rattle.cps_network.proofs.laws.windows_tell_their_ranks.Goals as goal

pub returns : goal.returns
returns g c = tells_ranks c.args.problem.now (subst FollowRanks c.requires c.window_laws.ensures.ranks)
