use Rattle.std.proofs.Common.{◌*◌, ◌^◌}
use Rattle.cert_writer.proofs.GatherLemmas.{AreEarliest}
use Rattle.cert_writer.proofs.gather.gather_earliest.Given as goal

abbrev pub invariant-loop-j : goal.invariant-loop-j
invariant-loop-j l = AreEarliest l.slots.items l.least.items (8 * 2 ^ (2 * l.problem.k)) l.j l.pairs.items
