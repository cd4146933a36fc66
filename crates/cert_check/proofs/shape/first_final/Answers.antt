use Rattle.std.proofs.Common.{rules, tests}
use Rattle.std.proofs.lemmas.Iterator.{YieldsList-from_slice}
use Rattle.std.proofs.lemmas.Iterator.Search.{position_from_yields_List}
use Rattle.cert_check.specs.States.{is_final}
use Rattle.cert_check.proofs.FoundNumbers.{number_found}
use Rattle.cert_check.proofs.shape.first_final.Goals as goal

pub returns : goal.returns
returns c =
    let test = is_final c.args.problem.now in
    number_found test c.args.states.now c.position.result c.map.result
    (position_from_yields_List test _ _ _ c.position.ensures.ran (YieldsList-from_slice c.args.states.now (cc))
    (λ x b q k. search (rules, tests))) (search rules) c.map.ensures.cases
    (λ i n lt q. search rules)
