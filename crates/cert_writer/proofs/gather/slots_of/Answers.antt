use Rattle.std.proofs.Common.{◌≡◌, ℕ, ◌+◌, List, length, arith, ap, subst, sym, ◌∙◌}
use Rattle.cps_network.specs.Lists.{node_at}
use Rattle.cps_network.specs.Nodes.{latest}
use Rattle.cps_network.specs.WindowRanks.{TellsPlaced}
use Rattle.cert_check.specs.PlacedBits.{digits_of}
use Rattle.replan.specs.Kept.{held_of}
use Rattle.replan.specs.Readers.{stage_in, lists_in}
use Rattle.replan.specs.WindowNodes.{told_at}
use Rattle.cert_writer.specs.Gathered.{HaveSlots}
use Rattle.cert_writer.specs.Slots.{HasSlot}
use Rattle.cert_writer.proofs.GatherLemmas.{node_near, one_slot_more}
use Rattle.cert_writer.proofs.gather.slots_of.Goals as goal

pub node-requires-clause-place : goal.node-requires-clause-place
node-requires-clause-place c = omega (
  arith,
  (ap (λ (xs : List ℕ). told_at xs c.loop-j.j) c.firsts-firsts.ensures),
  (c.requires.windows.together.first c.loop-j.j
      (omega (arith, c.loop-j-test.true, (ap (λ (xs : List ℕ). length xs) c.firsts-firsts.ensures)))),
)

pub slot_of-slot-requires-clause-last : goal.slot_of-slot-requires-clause-last
slot_of-slot-requires-clause-last c =
    let p = c.args.problem.now in
    let stage = c.args.stage in
    let are = c.stages-held.ensures.held p c.requires.held in
    node_near p c.requires.laws.placed (stage_in (held_of c.args.kept.now) stage)
    (lists_in (held_of c.args.kept.now) stage)
    (are.pairs stage c.requires.stage.1) stage (are.number stage c.requires.stage.1) c.requires.stage.0
    (told_at c.firsts-firsts.result.now c.loop-j.j) c.most_shift-k.result c.node.result.placed c.node.result.last
    (omega (
      arith,
      (ap (λ (xs : List ℕ). told_at xs c.loop-j.j) c.firsts-firsts.ensures),
      (c.requires.windows.together.first c.loop-j.j
          (omega (arith, c.loop-j-test.true, (ap (λ (xs : List ℕ). length xs) c.firsts-firsts.ensures)))),
    ))
    c.most_shift-k.ensures.k c.node.ensures.placed c.node.ensures.last

pub loop-j-preserved : goal.loop-j-preserved
loop-j-preserved c =
    let p = c.args.problem.now in
    let stage = c.args.stage in
    let n = c.args.windows.now in
    let list = (stage_in (held_of c.args.kept.now) stage).1 in
    let j = c.loop-j.j in
    let node = c.node.result in
    let slot = c.slot_of-slot.result in
    let same : told_at c.firsts-firsts.result.now j ≡ told_at n.firsts j =
    ap (λ (xs : List ℕ). told_at xs j) c.firsts-firsts.ensures in
    subst (λ (slots : List ℕ). HaveSlots p.k stage list n.firsts (j + 1) slots) (sym c.in_ok-push.ensures.items)
    (one_slot_more p.k stage list n.firsts j c.loop-j.slots.items slot c.loop-j.invariant (record {
      placed = node.placed;
      told = subst (λ (i : ℕ). TellsPlaced (node_at list i) stage node.placed) same c.node.ensures.placed;
      has = subst (λ (l : ℕ). HasSlot p.k (stage, digits_of p.k stage node.placed, l) slot)
          (c.node.ensures.last ∙ ap (λ (i : ℕ). latest (stage, node_at list i)) same)
          (subst (λ (k : ℕ). HasSlot k (stage, digits_of k stage node.placed, node.last) slot)
          c.most_shift-k.ensures.k c.slot_of-slot.ensures);
    }))

pub returns : goal.returns
returns c = subst (λ (m : ℕ). HaveSlots c.args.problem.now.k c.args.stage
    (stage_in (held_of c.args.kept.now) c.args.stage).1 c.args.windows.now.firsts m c.loop-j.slots.items) (omega (
      arith,
      c.loop-j-test.false,
      c.loop-j.auto.j-end,
      (ap (λ (xs : List ℕ). length xs) c.firsts-firsts.ensures),
    )) c.loop-j.invariant
