-- The answers taken so far are the items, each an Ok.
use Rattle.std.proofs.Common.{◌≡◌, map, Ok}
use Rattle.label_workers.proofs.lists.all_of.Given as goal

abbrev pub invariant-loop-answer : goal.invariant-loop-answer
invariant-loop-answer g l = l.yielded ≡ map Ok l.items.items
