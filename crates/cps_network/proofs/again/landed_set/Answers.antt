use Rattle.std.proofs.Common.{◌+◌, arith}
use Rattle.cps_network.proofs.AgainLemmas.{low_bits}
use Rattle.cps_network.proofs.again.landed_set.Goals as goal

pub returns : goal.returns
returns c = λ rank.
    let bits = low_bits (c.args.stage + c.args.k + 1) rank (omega arith) in
    (λ has. let low = bits.0 has in omega (arith, low), λ low. bits.1 (omega (arith, low)))
