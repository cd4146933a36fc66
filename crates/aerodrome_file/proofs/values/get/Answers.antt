-- The member of the table that toml shows.
use Rattle.toml.proofs.Views.{table_get}
use Rattle.aerodrome_file.proofs.values.get.Goals as goal

pub returns : goal.returns
returns c = table_get c.get.result c.args.key.now c.args.table.now.entries c.get.ensures.value
