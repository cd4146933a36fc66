-- The items of the lists taken so far.
use Rattle.std.proofs.Common.{◌≡◌}
use Rattle.std.specs.List.{flat_map}
use Rattle.label_workers.proofs.lists.joined.Given as goal

abbrev pub invariant-loop-list : goal.invariant-loop-list
invariant-loop-list g l = l.items.items ≡ flat_map (λ list. list.items) l.yielded
