use Rattle.std.proofs.Common.{rules}
use Rattle.std.proofs.lemmas.Iterator.Consumers.{count_from_yields_List}
use Rattle.std.proofs.lemmas.List.Sums.{length-filter}
use Rattle.cert_check.proofs.shape.ones.Goals as goal

pub returns : goal.returns
returns c = search (rules, count_from_yields_List, length-filter)
