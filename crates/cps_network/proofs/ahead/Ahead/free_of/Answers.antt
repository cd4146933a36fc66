use Rattle.std.proofs.Common.{ℕ, subst, sym}
use Rattle.precedence.specs.Pairs.{HasBit}
use Rattle.cps_network.proofs.GroupLemmas.{both_have, have_both}
use Rattle.cps_network.proofs.ahead.Ahead.free_of.Goals as goal

pub returns-clause-some : goal.returns-clause-some
returns-clause-some c j has =
    let both = both_have c.args.accepted c.from.result j has in
    (both.0, subst (λ (n : ℕ). HasBit n j) c.from.ensures both.1)

pub returns-clause-all : goal.returns-clause-all
returns-clause-all c j accepted open_bit =
    let h = c.if-free-accepted.false in
    subst (λ (n : ℕ). HasBit n j) (sym c.if-free-accepted.false)
    (have_both c.args.accepted c.from-2.result j accepted
    (subst (λ (n : ℕ). HasBit n j) (sym c.from-2.ensures) open_bit))
