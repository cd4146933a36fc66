use Rattle.std.proofs.Common.{ℕ, ◌<◌, length, sym, subst, ◌∙◌, arith, rules, tests}
use Rattle.std.proofs.lemmas.Iterator.{YieldsList-from_slice}
use Rattle.std.proofs.lemmas.Iterator.Adapters.{option_map_id, serves_from_places}
use Rattle.std.proofs.lemmas.Iterator.Consumers.{YieldsList-from_filter_map, min_from_yields_List}
use Rattle.std.proofs.lemmas.List.{get_or_default}
use Rattle.cps_network.specs.Pairs.{list_at}
use Rattle.first_best.specs.Nodes.{node_at}
use Rattle.first_best.specs.Completing.{IsLeastOf, IsWayTo}
use Rattle.first_best.proofs.PairLemmas.{least_of_list, least_unique}
use Rattle.first_best.proofs.WayLemmas.{least_way, ways_end}
use Rattle.first_best.proofs.ways.least_cost.Goals as goal

pub min-requires-clause-can : goal.min-requires-clause-can
min-requires-clause-can c = (
  tt,
  tt,
  serves_from_places (YieldsList-from_slice c.args.ways.now (cc)) (λ x q k. search (rules, tests)) (λ x i lt is.
      let way = c.requires.ways.within i lt in
      let same = get_or_default c.args.ways.now i x.now 0 lt in
      let within : x.now < length c.args.next.now.nodes = omega (arith, way, same, is) in
      search (rules, tests)),
)

pub returns-clause-least : goal.returns-clause-least
returns-clause-least c =
    let p = c.args.problem.now in
    let node = c.args.node in
    let nodes = c.args.next.now.nodes in
    let lists = c.args.next.now.lists in
    let ways = c.args.ways.now in
    let to = λ (j : ℕ). IsWayTo p node (node_at nodes j) (list_at lists j) c.args.second in
    let each = λ (j : ℕ). least_way p node _ _ _ in
    let is = sym (option_map_id c.min.result) ∙ min_from_yields_List _ _ c.min.ensures.ran
    (YieldsList-from_filter_map _ (λ j. (each j).0) (YieldsList-from_slice ways (cc)) c.filter_map.ensures.closure
    (λ x r q k.
    let told : IsLeastOf (to x.now) r = search (rules, tests) in
    (search (rules, tests), least_unique (to x.now) r (each x.now).0 told (each x.now).1))) in
    ways_end p _ node _ ways _ c.requires.ways
    (omega (arith, c.len.ensures.value, c.if-stage-len.false, c.requires.stage.1)) _
    (subst (IsLeastOf _) (sym is) (least_of_list 0 to each ways))
