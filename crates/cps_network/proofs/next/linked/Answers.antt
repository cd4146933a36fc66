use Rattle.std.proofs.Common.{arith}
use Rattle.cps_network.proofs.LinkLemmas.{are_links}
use Rattle.cps_network.proofs.next.linked.Goals as goal

pub of-requires : goal.of-requires
of-requires g c = (
  omega arith,
  (
    omega arith,
    are_links c.args.before.now.1 c.args.groups.now _ _ _ c.requires.groups c.requires.places
        c.in_ok-ranges.ensures.len c.in_ok-ranges.ensures.each,
  ),
)
