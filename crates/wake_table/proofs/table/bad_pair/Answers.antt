use Rattle.std.proofs.Common.{refl, rules, tests, sym, ◌∙◌}
use Rattle.std.specs.Iterator.Adapters.{map_callee, flatten_source}
use Rattle.std.proofs.lemmas.Iterator.{YieldsList-from_slice, YieldsList-from_map}
use Rattle.std.proofs.lemmas.Iterator.Search.{find_from_yields_List}
use Rattle.std.proofs.lemmas.Iterator.Adapters.{YieldsList-from_flat_map, option_map_id}
use Rattle.wake_table.specs.Table.{is_out_of_range, pairs_from}
use Rattle.wake_table.proofs.table.bad_pair.Goals as goal

pub returns : goal.returns
returns c =
    sym (option_map_id c.find.result)
    ∙ find_from_yields_List (is_out_of_range c.args.rows.now) _ _ c.find.result c.find.ensures.ran
    (YieldsList-from_flat_map _ _ _ (λ x. x) (pairs_from c.args.letters.now)
    (map_callee (flatten_source c.flat_map.result))
    (λ x u q k. (
      search (rules),
      λ j b. YieldsList-from_map _ (λ follower. (x.now, follower))
          (YieldsList-from_slice c.args.letters.now (search (rules))) refl (λ y r q2 k2. search (rules, tests)),
    ))
    (YieldsList-from_slice c.args.letters.now (search (rules))) (cc) (search (rules)) (search (rules)) (search (rules)))
    (λ x b q k. search (rules, tests))
