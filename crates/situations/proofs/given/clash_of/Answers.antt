use Rattle.std.proofs.Common.{◌+◌, drop, not, rules, tests, ◌∙◌}
use Rattle.std.proofs.lemmas.List.{take_rest}
use Rattle.std.proofs.lemmas.Iterator.{YieldsList-from_slice}
use Rattle.std.proofs.lemmas.Iterator.Search.{position_from_yields_List}
use Rattle.landing_rules.specs.Audit.{are_apart}
use Rattle.situations.specs.declared.opening_refusal.OpeningFault.TheVariants as fault
use Rattle.situations.proofs.Firsts.{first_place}
use Rattle.situations.proofs.given.clash_of.Goals as goal

pub returns : goal.returns
returns c =
    search (rules) ∙ first_place (are_apart c.args.table.now c.args.first.now) (fault.FrozenSeparation c.args.i)
    (c.args.i + 1) (drop c.args.i c.args.all.now) c.position-place.result
    (position_from_yields_List (λ g. not (are_apart c.args.table.now c.args.first.now g))
    _ _ c.position-place.result c.position-place.ensures.ran
    (YieldsList-from_slice (drop c.args.i c.args.all.now) (search (rules, take_rest)))
    (λ x b q k. search (rules, tests)))
