use Rattle.std.proofs.Common.{ℕ, ◌-◌, ◌<◌, ◌≤◌, length}
use Rattle.cps_network.specs.Extended.{Follows, HasGrownBy, HavePlaces, group_at}
use Rattle.cps_network.specs.Lists.{IsAscending}
use Rattle.cps_network.proofs.gather.gather.Given as goal

abbrev pub invariant-loop-from : goal.invariant-loop-from
invariant-loop-from g l = record {
  grown : HasGrownBy (Follows g.row.W l.before l.groups) 0 l.from l.initial.gathered.windows.items
      l.gathered.windows.items;
  within : l.from ≤ length l.groups;
  ascending : IsAscending l.gathered.windows.items;
  places : HavePlaces l.before l.groups l.gathered.windows.items l.gathered.places.items;
  past : (i : ℕ) → i < l.from → l.from < length l.groups
      → (group_at l.groups i).order < (group_at l.groups l.from).order;
}

abbrev pub decreases-loop-from : goal.decreases-loop-from
decreases-loop-from g l = length l.groups - l.from
