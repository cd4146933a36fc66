use Rattle.cps_nodes.proofs.ExtendLemmas.{follow}
use Rattle.cps_nodes.proofs.LawLemmas.{lead_on}
use Rattle.cps_nodes.proofs.laws.window_laws.Goals as goal

pub returns-clause-ranks : goal.returns-clause-ranks
returns-clause-ranks g c = follow g.row.W c.requires

pub returns-clause-leads : goal.returns-clause-leads
returns-clause-leads g c = lead_on g.row.W c.requires
