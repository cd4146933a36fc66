use Rattle.std.proofs.Common.{not, rules, tests, ◌∙◌}
use Rattle.std.proofs.lemmas.Iterator.{YieldsList-from_slice}
use Rattle.std.proofs.lemmas.Iterator.Search.{position_from_yields_List}
use Rattle.landing_rules.specs.Flights.{Landing}
use Rattle.landing_rules.specs.Rules.{is_open}
use Rattle.situations.specs.declared.opening_refusal.OpeningFault.TheVariants as fault
use Rattle.situations.proofs.Firsts.{first_place}
use Rattle.situations.proofs.given.first_closed.Goals as goal

pub returns : goal.returns
returns c =
    search (rules) ∙ first_place (λ (g : Landing). is_open g.flight.windows c.args.closures.now g.second)
    fault.FrozenClosed 1 c.args.all.now c.position.result
    (position_from_yields_List (λ (g : Landing). not (is_open g.flight.windows c.args.closures.now g.second))
    _ _ c.position.result c.position.ensures.ran (YieldsList-from_slice c.args.all.now (cc))
    (λ x b q k. search (rules, tests)))
