use Rattle.cps_network.specs.Extended.{HasGrownBy, HavePlaces}
use Rattle.cps_network.specs.Lists.{IsAscending}
use Rattle.cps_network.proofs.GatherLemmas.{FollowBelow}
use Rattle.cps_network.proofs.gather.add_block.Given as goal

abbrev pub invariant-loop-j : goal.invariant-loop-j
invariant-loop-j g l = record {
  grown : HasGrownBy (λ j x. FollowBelow g.row.W l.before l.groups l.block.0 l.block.1 j x) 0 l.j
      l.initial.gathered.windows.items l.gathered.windows.items;
  ascending : IsAscending l.gathered.windows.items;
  places : HavePlaces l.before l.groups l.gathered.windows.items l.gathered.places.items;
}
