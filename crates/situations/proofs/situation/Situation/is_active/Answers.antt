use Rattle.std.proofs.Common.{is_some, ap, ◌∙◌, rules, tests}
use Rattle.situations.proofs.Keyed.{is_found}
use Rattle.situations.proofs.situation.Situation.is_active.Goals as goal

pub returns : goal.returns
returns c = search (rules, tests) ∙ ap is_some c.find.ensures ∙ is_found c.args.callsign c.args.self.now.active
