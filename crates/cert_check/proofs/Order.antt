-- The states of a certificate stand in the order of their nodes.
use Rattle.std.proofs.Common.{arith}
use Rattle.std.proofs.lemmas.Grind.{common_steps}
use Rattle.std.proofs.Common.{List}
use Rattle.certificate.specs.States.{State, AreAscending}
use Rattle.cps_theory.specs.CertificateClosure.{InNodeOrder}
use Rattle.cert_check.specs.States.{node_of, pairs_of}

pub in_node_order : (ss : List State) → AreAscending ss → InNodeOrder node_of pairs_of ss
in_node_order ss h = grind (arith, common_steps)
