-- A block as the rules see it.
use Rattle.plan_file.specs.declared.block.Block.{Block}
use Rattle.landing_rules.specs.Audit as rules

abbrev pub seen_block : Block → rules.Block
seen_block b = record { objective = b.objective; plan = record { value = b.value; landings = b.lines } }
