use Rattle.std.specs.Prelude.{All}
use Rattle.std.proofs.lemmas.List.{get_or_default}
use Rattle.std.proofs.Common.{◌≡◌, ℕ, ◌+◌, ◌*◌, ◌^◌, ◌<◌, ◌⊎◌, List, [], length, replicate, set, arith, ap, sym, subst}
use Rattle.std.proofs.Common.{◌∙◌}
use Rattle.cps_theory.specs.Labels.{InPairs, NoWorse, Pair}
use Rattle.cps_network.specs.Pairs.{list_at, pair_at}
use Rattle.replan.specs.Kept.{held_of}
use Rattle.replan.specs.WindowNodes.{told_at}
use Rattle.cert_writer.specs.Gathered.{IsPairInRange}
use Rattle.cert_writer.proofs.GatherLemmas.{earliest_gathered, no_earliest, one_earliest, AreEarliest}
use Rattle.cert_writer.proofs.gather.gather_earliest.Goals as goal

pub loop-j-init : goal.loop-j-init
loop-j-init c =
    let p = c.args.problem.now in
    let slots = c.in_ok-slots.slots.items in
    let least = c.in_ok-least.least.items in
    subst (λ (pairs : List (List Pair)). AreEarliest slots least (8 * 2 ^ (2 * p.k)) 0 pairs)
    (sym (c.in_ok-pairs.ensures
    ∙ ap (λ (k : ℕ). replicate {A = List Pair} (8 * 2 ^ (2 * k)) []) c.most_shift-k.ensures.k))
    (no_earliest slots least (8 * 2 ^ (2 * p.k)))

pub loop-j-preserved : goal.loop-j-preserved
loop-j-preserved c =
    let room = 8 * 2 ^ (2 * c.args.problem.now.k) in
    let j = c.loop-j.j in
    let slots = c.in_ok-slots.slots.items in
    let least = c.in_ok-least.least.items in
    let pairs = c.loop-j.pairs.items in
    let each = c.in_ok-least.ensures.least.one_each in
    let lt : j < length least = omega (arith, c.loop-j-test.true) in
    let slot : c.index-slot.result.now ≡ told_at slots j =
    c.index-slot.ensures ∙ get_or_default slots j c.index-slot.result.now 0
    (omega (arith, lt, each, c.in_ok-slots.ensures.long)) in
    let earliest : c.index-earliest.result.now ≡ pair_at least j =
    c.index-earliest.ensures ∙ get_or_default least j c.index-earliest.result.now (0, 0) lt in
    let inside : told_at slots j < length pairs = omega
    (arith, (c.in_ok-slots.ensures.each j (omega (arith, lt, each))).has.within, c.loop-j.invariant.room_is) in
    let old : c.index_mut.result.now ≡ list_at pairs (told_at slots j) =
    c.index_mut.ensures.value ∙ get_or_default pairs c.index-slot.result.now c.index_mut.result.now []
    (omega (arith, slot, inside)) ∙ ap (list_at pairs) slot in
    let new = c.keep.new.self in
    subst (λ (m : ℕ). AreEarliest slots least room (j + 1) (set pairs m new)) (sym slot)
    (one_earliest slots least room j pairs c.loop-j.invariant inside new
    (subst (λ (l : List Pair). (q : Pair) → InPairs q new → InPairs q l ⊎ (q ≡ pair_at least j)) old
    (subst (λ (e : Pair). (q : Pair) → InPairs q new → InPairs q c.index_mut.result.now
    ⊎ (q ≡ e)) earliest c.in_ok-keep.ensures.found))
    (subst (λ (l : List Pair). (q : Pair) → InPairs q l ⊎ (q ≡ pair_at least j)
    → (o : Pair) × InPairs o new × NoWorse o q) old
    (subst (λ (e : Pair). (q : Pair) → InPairs q c.index_mut.result.now ⊎ (q ≡ e)
    → (o : Pair) × InPairs o new × NoWorse o q) earliest c.in_ok-keep.ensures.covers))
    (subst (λ (l : List Pair). All IsPairInRange l → All IsPairInRange new) old c.in_ok-keep.ensures.in_range))

pub returns : goal.returns
returns c =
    let p = c.args.problem.now in
    let stage = c.args.stage in
    let are = c.stages-held.ensures.held p c.requires.held in
    let slots = c.in_ok-slots.slots.items in
    let least = c.in_ok-least.least.items in
    earliest_gathered p c.requires.laws.placed (held_of c.args.kept.now) stage (are.number stage c.requires.stage.1)
    (are.pairs stage c.requires.stage.1) c.args.windows.now c.requires.windows slots c.in_ok-slots.ensures
    c.requires.makespan least c.in_ok-least.ensures.least c.loop-j.pairs.items
    (subst (λ (m : ℕ). AreEarliest slots least (8 * 2 ^ (2 * p.k)) m c.loop-j.pairs.items)
    (omega (arith, c.loop-j-test.false, c.loop-j.auto.j-end, c.in_ok-least.ensures.least.one_each)) c.loop-j.invariant)
