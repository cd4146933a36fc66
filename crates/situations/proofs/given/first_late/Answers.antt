use Rattle.std.proofs.Common.{◌+◌, rules, tests, ◌∙◌}
use Rattle.std.proofs.lemmas.Iterator.{YieldsList-from_slice}
use Rattle.std.proofs.lemmas.Iterator.Consumers.{YieldsList-from_enumerate}
use Rattle.situations.specs.Refused.{late_at}
use Rattle.cps_base.specs.laws.FindMap.{first_answer_from_find_map}
use Rattle.situations.proofs.Firsts.{first_numbered}
use Rattle.situations.proofs.given.first_late.Goals as goal

pub returns : goal.returns
returns c =
    first_answer_from_find_map (λ p. late_at c.args.situation.now.active (p.0 + 1) p.1) _
    (λ x r q k. search (rules, tests)) c.find_map.result c.find_map.ensures.runs
    (YieldsList-from_enumerate (YieldsList-from_slice c.args.all.now (search (rules))) (search (rules)))
    ∙ first_numbered (late_at c.args.situation.now.active) 0 c.args.all.now
