-- The node of a prefix by the bits of its ranks.
use Rattle.cert_check.proofs.PlacedBits.{pattern_of_bits, digits_are_bits}
use Rattle.cert_check.proofs.laws.patterns_are_bits.Goals as goal

pub returns : goal.returns
returns c = record { pattern = pattern_of_bits; digits = digits_are_bits }
