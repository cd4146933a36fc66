-- Where no equal closure stands, none is taken out.
use Rattle.std.proofs.Common.{rules}
use Rattle.landing_windows.proofs.Without.{none_without}
use Rattle.landing_windows.proofs.closures.Closures.remove.Goals as goal

pub returns-clause-absent : goal.returns-clause-absent
returns-clause-absent c = search (rules, none_without)
