use Rattle.std.proofs.Common.{arith}
use Rattle.std.proofs.lemmas.Bool.Decides.{Decides-eqb}
use Rattle.std.proofs.lemmas.Nat.Bits.{shr_and_one}
use Rattle.cps_nodes.proofs.HeldLemmas.{held_tested}
use Rattle.cps_nodes.proofs.window.has_rank.Goals as goal

pub returns : goal.returns
returns c = grind (arith, held_tested, shr_and_one, Decides-eqb)
