use Rattle.cps_network.specs.shared.FewWindows.{few_windows, number_low}
use Rattle.cps_network.proofs.stage.Stage.len.Goals as goal

pub returns-clause-few : goal.returns-clause-few
returns-clause-few g c = few_windows g.row.W c.args.self.now.1 c.windows.ensures.ascending c.windows.ensures.valid

pub returns-clause-below : goal.returns-clause-below
returns-clause-below g c = number_low g.row.W c.args.self.now.1 c.windows.ensures.ascending c.windows.ensures.valid
