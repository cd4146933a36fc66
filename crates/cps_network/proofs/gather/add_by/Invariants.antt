use Rattle.cps_network.specs.Extended.{FollowsBy, HasGrownBy, HavePlaces, group_at}
use Rattle.cps_network.specs.Lists.{IsAscending}
use Rattle.cps_network.proofs.gather.add_by.Given as goal

abbrev pub invariant-loop-place : goal.invariant-loop-place
invariant-loop-place g l = record {
  grown : HasGrownBy (λ i x. FollowsBy g.row.W l.before (group_at l.groups i) l.j x) l.fn.block.0 l.place
      l.initial.gathered.windows.items l.gathered.windows.items;
  ascending : IsAscending l.gathered.windows.items;
  places : HavePlaces l.before l.groups l.gathered.windows.items l.gathered.places.items;
}
