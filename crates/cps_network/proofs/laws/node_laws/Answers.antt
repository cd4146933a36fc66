use Rattle.cps_network.proofs.WindowNodes.{windows_tell_nodes}
use Rattle.cps_network.proofs.laws.node_laws.Goals as goal

pub returns : goal.returns
returns g c = windows_tell_nodes c.args.problem.now c.prefix_laws.ensures.network c.windows_tell_their_ranks.ensures
