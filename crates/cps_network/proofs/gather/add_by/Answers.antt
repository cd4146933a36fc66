use Rattle.std.proofs.Common.{arith, rules, inl, inr, refl}
use Rattle.cps_network.specs.Extended.{StandBefore, FollowsBy, group_at}
use Rattle.cps_network.proofs.GatherLemmas.{grown_none, grown_one, grown_upto}
use Rattle.cps_network.proofs.NextOrder.{later_group}
use Rattle.cps_network.proofs.gather.add_by.Goals as goal

pub loop-place-init : goal.loop-place-init
loop-place-init g c = record {
  grown = grown_none (λ i x. FollowsBy g.row.W c.args.before.now (group_at c.args.groups.now i) c.args.j x)
      _ _ _ (omega arith);
  ascending = c.requires.ascending;
  places = c.requires.places;
}

pub add_next-requires : goal.add_next-requires
add_next-requires g c =
    let before : StandBefore c.loop-place.gathered.windows.items
    (FollowsBy g.row.W c.args.before.now (group_at c.args.groups.now c.loop-place.place) c.args.j) =
    λ x next has follows. elim ((c.loop-place.invariant.grown x).0 has) [
      | inl old ↦ c.requires.before x next old (c.loop-place.place, omega arith, omega arith, follows)
      | inr (i, low, below, earlier) ↦ later_group g.row.W c.args.before.now c.args.groups.now c.requires.valid
          c.requires.groups c.requires.order i c.loop-place.place c.args.j x next below (omega arith) earlier follows
    ] in search (rules, arith)

pub loop-place-preserved : goal.loop-place-preserved
loop-place-preserved g c = record {
  grown = grown_one (λ i x. FollowsBy g.row.W c.args.before.now (group_at c.args.groups.now i) c.args.j x)
      _ _ _ _ _ (omega arith) c.loop-place.invariant.grown c.in_ok-add_next.ensures.members;
  ascending = c.in_ok-add_next.ensures.ascending;
  places = c.in_ok-add_next.ensures.places c.args.groups.now (omega arith) refl c.loop-place.invariant.places;
}

pub returns-clause-members : goal.returns-clause-members
returns-clause-members g c =
    grown_upto (λ i x. FollowsBy g.row.W c.args.before.now (group_at c.args.groups.now i) c.args.j x)
    _ _ _ _ _ (omega arith) c.loop-place.invariant.grown
