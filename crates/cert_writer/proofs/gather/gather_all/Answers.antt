use Rattle.std.specs.Prelude.{All}
use Rattle.std.proofs.lemmas.List.{get_or_default}
use Rattle.std.proofs.Common.{◌≡◌, ℕ, ◌+◌, ◌<◌, ◌⊎◌, List, [], length, set, arith, ap, sym, subst, ◌∙◌}
use Rattle.cps_theory.specs.Labels.{InPairs, NoWorse, Pair}
use Rattle.cps_network.specs.Pairs.{list_at}
use Rattle.replan.specs.Kept.{held_of}
use Rattle.replan.specs.Readers.{stage_in, lists_in}
use Rattle.replan.specs.WindowNodes.{told_at}
use Rattle.cert_writer.specs.Gathered.{AreGathered, IsPairInRange}
use Rattle.cert_writer.proofs.GatherLemmas.{window_joined, window_slot}
use Rattle.cert_writer.proofs.gather.gather_all.Goals as goal

pub loop-i-preserved : goal.loop-i-preserved
loop-i-preserved c =
    let p = c.args.problem.now in
    let held = held_of c.args.kept.now in
    let stage = c.args.stage in
    let s = stage_in held stage in
    let lists = lists_in held stage in
    let n = c.args.windows.now in
    let i = c.loop-i.i in
    let are = c.stages-held.ensures.held p c.requires.held in
    let number = are.number stage c.requires.stage.1 in
    let costs = are.pairs stage c.requires.stage.1 in
    let slots = c.in_ok-slots.slots.items in
    let hs = c.in_ok-slots.ensures in
    let pairs = c.loop-i.pairs.items in
    let lt : i < length s.1 = omega (
      arith,
      c.loop-i-test.true,
      (ap (λ (xs : List ℕ). length xs) c.places-places.ensures),
      c.requires.windows.together.long,
    ) in
    let place = told_at n.places i in
    let same : told_at c.places-places.result.now i ≡ place =
    ap (λ (xs : List ℕ). told_at xs i) c.places-places.ensures in
    let slot : c.index-slot.result.now ≡ told_at slots place = c.index-slot.ensures
    ∙ get_or_default slots (told_at c.places-places.result.now i) c.index-slot.result.now 0
    (omega (arith, same, (c.requires.windows.together.within i lt), hs.long)) ∙ ap (told_at slots) same in
    let old : c.index_mut.result.now ≡ list_at pairs (told_at slots place) =
    c.index_mut.ensures.value ∙ get_or_default pairs c.index-slot.result.now c.index_mut.result.now []
    (omega (
      arith,
      slot,
      ((window_slot p c.requires.laws.placed held stage number costs n c.requires.windows slots hs i lt).has.within),
      c.loop-i.invariant.room,
    )) ∙ ap (list_at pairs) slot in
    let new = c.join.new.self in
    let more = window_joined p c.requires.laws.placed held stage number costs n c.requires.windows
    slots hs i lt pairs c.loop-i.invariant new
    (subst (λ (l : List Pair). (q : Pair) → InPairs q new → InPairs q l
    ⊎ InPairs q (list_at lists i)) old c.in_ok-join.ensures.found)
    (subst (λ (l : List Pair). (q : Pair) → InPairs q l ⊎ InPairs q (list_at lists i)
    → (o : Pair) × InPairs o new × NoWorse o q) old c.in_ok-join.ensures.covers)
    (subst (λ (l : List Pair). All IsPairInRange l → All IsPairInRange new) old c.in_ok-join.ensures.in_range) in
    subst (λ (m : ℕ). AreGathered p s lists (i + 1) (set pairs m new)) (sym slot) more

pub returns : goal.returns
returns c = subst (λ (m : ℕ). AreGathered c.args.problem.now (stage_in (held_of c.args.kept.now) c.args.stage)
    (lists_in (held_of c.args.kept.now) c.args.stage) m c.loop-i.pairs.items) (omega (
      arith,
      c.loop-i-test.false,
      c.loop-i.auto.i-end,
      (ap (λ (xs : List ℕ). length xs) c.places-places.ensures),
      c.requires.windows.together.long,
    ))
    c.loop-i.invariant
