use Rattle.cps_network.proofs.links.Links.of.Goals as goal

pub invariant_of-result : goal.invariant_of-result
invariant_of-result g c = rw (c.in_ok-origin.ensures, c.in_ok-target.ensures) c.requires
