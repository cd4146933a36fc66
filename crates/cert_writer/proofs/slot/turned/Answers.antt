use Rattle.cert_writer.proofs.SlotLemmas.{turned_bits}
use Rattle.cert_writer.proofs.slot.turned.Goals as goal

pub returns-clause-digits : goal.returns-clause-digits
returns-clause-digits c =
    (turned_bits c.args.k c.args.number c.reverse_bits.result c.requires.near c.requires.below c.reverse_bits.ensures).0

pub returns-clause-below : goal.returns-clause-below
returns-clause-below c = (turned_bits c.args.k c.args.number c.reverse_bits.result c.requires.near
    c.requires.below c.reverse_bits.ensures).1
