use Rattle.std.proofs.Common.{◌≡◌, [], replicate}
use Rattle.cert_writer.proofs.gather.empty_slots.Given as goal

abbrev pub invariant-loop-slot : goal.invariant-loop-slot
invariant-loop-slot l = l.slots.items ≡ replicate l._slot []
