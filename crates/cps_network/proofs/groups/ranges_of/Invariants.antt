use Rattle.std.proofs.Common.{◌≡◌, ℕ, ◌<◌, length}
use Rattle.cps_network.specs.Extended.{group_at}
use Rattle.cps_network.specs.Links.{range_at}
use Rattle.cps_network.proofs.groups.ranges_of.Given as goal

abbrev pub invariant-loop-group : goal.invariant-loop-group
invariant-loop-group l = record {
  len : length l.ranges.items ≡ l.group-index;
  each : (i : ℕ) → i < l.group-index
      → range_at l.ranges.items i ≡ ((group_at l.groups i).from, (group_at l.groups i).to);
}
