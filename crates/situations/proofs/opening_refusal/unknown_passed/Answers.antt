use Rattle.std.proofs.Common.{not, rules, tests, ◌∙◌}
use Rattle.std.proofs.lemmas.Iterator.{YieldsList-from_slice}
use Rattle.std.proofs.lemmas.Iterator.Search.{position_from_yields_List}
use Rattle.arrivals.specs.declared.passed_list.PassedCount.{PassedCount}
use Rattle.situations.specs.declared.opening_refusal.OpeningFault.TheVariants as fault
use Rattle.situations.specs.Refused.{is_waiting_there}
use Rattle.situations.proofs.Firsts.{first_place}
use Rattle.situations.proofs.opening_refusal.unknown_passed.Goals as goal

pub returns : goal.returns
returns c =
    search (rules) ∙ first_place (λ (e : PassedCount). is_waiting_there c.args.situation.now.active e.callsign)
    fault.UnknownPassed 1 c.args.passed.now c.position.result
    (position_from_yields_List (λ (e : PassedCount). not (is_waiting_there c.args.situation.now.active e.callsign))
    _ _ c.position.result c.position.ensures.ran (YieldsList-from_slice c.args.passed.now (cc))
    (λ x b q k. search (rules, tests)))
