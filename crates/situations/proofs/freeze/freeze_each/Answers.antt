use Rattle.std.proofs.Common.{rules, ◌≡◌, ◌+◌, suc, get_or, set, sym, ap, ◌∙◌, arith}
use Rattle.std.proofs.lemmas.Option.{get_or_from_slice_get}
use Rattle.indexmap.specs.IndexMap.{values}
use Rattle.indexmap.proofs.CallerLemmas.{keys-with_value_at}
use Rattle.situations.specs.Freezes.{frozen_one}
use Rattle.situations.proofs.Freezing.{turned, turned-step, turned-all}
use Rattle.situations.proofs.Keyed.{values_set}
use Rattle.situations.proofs.freeze.freeze_each.Goals as goal

pub loop-i-preserved : goal.loop-i-preserved
loop-i-preserved c =
    let turn = (frozen_one c.args.freeze.now) in
    let old = values c.args.active.now in
    let now = values c.loop-i.active in
    let ys = c.args.seconds.now in
    let i = c.loop-i.i in
    let a = c.index_mut.result.now in
    let y = get_or ys i 0 in
    let m : i + 1 ≡ suc i = omega arith in
    record {
      flights =
          values_set c.loop-i.active.entries i c.freeze_one.new.active ∙ ap (set now i) c.freeze_one.ensures
          ∙ ap (λ x. set now i (turn x y)) (sym (get_or_from_slice_get now i a a c.index_mut.ensures.value))
          ∙ ap (λ l. set l i (turn (get_or l i a) y)) c.loop-i.invariant.flights
          ∙ turned-step turn i old ys a 0 c.requires (omega arith) ∙ ap (λ j. turned turn j old ys) (sym m);
      keys = keys-with_value_at c.loop-i.active i c.freeze_one.new.active ∙ c.loop-i.invariant.keys;
    }

pub returns-clause-flights : goal.returns-clause-flights
returns-clause-flights c = search (rules, turned-all)
