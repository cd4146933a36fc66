use Rattle.std.proofs.Common.{arith, rules, sym, inl, inr, ◌∙◌}
use Rattle.cps_network.specs.Extended.{StandBefore}
use Rattle.cps_network.proofs.GatherLemmas.{FollowBelow, grown_none, grown_one, grown_upto, by_groups}
use Rattle.cps_network.proofs.NextOrder.{later_offset}
use Rattle.cps_network.proofs.gather.add_block.Goals as goal

pub loop-j-init : goal.loop-j-init
loop-j-init g c = record {
  grown = grown_none (λ j x. FollowBelow g.row.W c.args.before.now c.args.groups.now c.args.block.0
      c.args.block.1 j x) _ _ _ (omega arith);
  ascending = c.requires.ascending;
  places = c.requires.places;
}

pub add_by-requires : goal.add_by-requires
add_by-requires g c =
    let before : StandBefore c.loop-j.gathered.windows.items
    (FollowBelow g.row.W c.args.before.now c.args.groups.now c.args.block.0 c.args.block.1 c.loop-j.j) =
    λ x next has (k, low_k, high_k, follows). elim ((c.loop-j.invariant.grown x).0 has) [
      | inl old ↦ c.requires.before x next old (k, low_k, high_k, (c.loop-j.j, omega arith, follows))
      | inr (j, none, lt, (i, low, high, earlier)) ↦ later_offset g.row.W c.args.before.now c.args.groups.now
          c.requires.valid c.requires.groups c.requires.order i k j c.loop-j.j x next (omega arith) (omega arith)
          (c.requires.level i low high ∙ sym (c.requires.level k low_k high_k)) lt earlier follows
    ] in search (rules, arith)

pub loop-j-preserved : goal.loop-j-preserved
loop-j-preserved g c = record {
  grown = grown_one (λ j x. FollowBelow g.row.W c.args.before.now c.args.groups.now c.args.block.0
      c.args.block.1 j x) _ _ _ _ _ (omega arith) c.loop-j.invariant.grown c.in_ok-add_by.ensures.members;
  ascending = c.in_ok-add_by.ensures.ascending;
  places = c.in_ok-add_by.ensures.places;
}

pub returns-clause-members : goal.returns-clause-members
returns-clause-members g c = by_groups g.row.W c.args.before.now c.args.groups.now _ _ _ _
    (grown_upto (λ j x. FollowBelow g.row.W c.args.before.now c.args.groups.now c.args.block.0 c.args.block.1 j x)
    _ _ _ _ _ (omega arith) c.loop-j.invariant.grown)
