use Rattle.cps_network.proofs.NetworkLemmas.{whole_permitted}
use Rattle.cps_network.proofs.permit.is_permitted.Goals as goal

pub returns-clause-whole : goal.returns-clause-whole
returns-clause-whole g c = whole_permitted c.args.problem.now c.permits.result c.args.stage
    c.args.window.now c.args.rank g.row.W c.requires.width
    c.prefix_laws.ensures.network c.permits.ensures
