-- The order of the states to the node.
use Rattle.std.proofs.Common.{rules}
use Rattle.std.proofs.lemmas.Fn.{always_returns_same}
use Rattle.cert_check.proofs.closure.find.Goals as goal

pub returns-clause-found : goal.returns-clause-found
returns-clause-found c = search (rules, always_returns_same)
