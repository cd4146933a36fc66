use Rattle.std.proofs.Common.{rules, tests}
use Rattle.landing_rules.specs.Events.{Close, refusal}
use Rattle.whatif.proofs.OutcomeLemmas.{answered}
use Rattle.whatif.proofs.refusal.closure_refusal.Goals as goal

pub returns : goal.returns
returns c = answered c.refusal.result (refusal c.args.situation.now (Close (c.args.from, c.args.to)))
    c.and_then.result c.refusal.ensures (search (rules, tests))
