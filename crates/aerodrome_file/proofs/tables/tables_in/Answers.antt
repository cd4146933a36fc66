use Rattle.std.proofs.Common.{rules}
use Rattle.aerodrome_file.proofs.Items.{over_most}
use Rattle.aerodrome_file.proofs.tables.tables_in.Goals as goal

pub returns-then-values-most-clause-value : goal.returns-then-values-most-clause-value
returns-then-values-most-clause-value c = search (rules, over_most)
