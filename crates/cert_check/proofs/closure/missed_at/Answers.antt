-- A state of the right shape has a last rank.
use Rattle.std.proofs.Common.{rules}
use Rattle.cert_check.proofs.Shapes.{last_is_rank}
use Rattle.cert_check.proofs.closure.missed_at.Goals as goal

pub first_missed-requires-clause-last : goal.first_missed-requires-clause-last
first_missed-requires-clause-last c = search (rules, last_is_rank)
