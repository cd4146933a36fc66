use Rattle.cps_network.specs.shared.DueSteps.{due_is_bounded}
use Rattle.cps_network.proofs.laws.due_is_bounded.Goals as goal

pub returns : goal.returns
returns g c = due_is_bounded c.args.problem.now g.row.W c.requires (record {
  network = c.prefix_laws.ensures.network;
  alike = c.prefix_laws.ensures.sources;
  ranks = c.window_laws.ensures.ranks;
  leads = c.window_laws.ensures.leads;
})
