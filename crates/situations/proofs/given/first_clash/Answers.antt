use Rattle.std.proofs.Common.{rules, tests, refl, ◌∙◌}
use Rattle.std.proofs.lemmas.Iterator.{YieldsList-from_slice}
use Rattle.std.proofs.lemmas.Iterator.Consumers.{YieldsList-from_enumerate}
use Rattle.cps_base.specs.laws.FindMap.{first_answer_from_find_map}
use Rattle.situations.proofs.Firsts.{clash_behind, first_clashing}
use Rattle.situations.proofs.given.first_clash.Goals as goal

pub returns : goal.returns
returns c =
    first_answer_from_find_map (clash_behind c.args.table.now c.args.all.now) _
    (λ x r q k. search (rules, tests)) c.find_map.result c.find_map.ensures.runs
    (YieldsList-from_enumerate (YieldsList-from_slice c.args.all.now (search (rules))) (search (rules)))
    ∙ first_clashing c.args.table.now c.args.all.now 0 c.args.all.now refl
