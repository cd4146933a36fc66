use Rattle.std.proofs.Common.{rules}
use Rattle.indexmap.proofs.CallerLemmas.{insert_entry-new}
use Rattle.situations.proofs.Keyed.{not_yet, one_more}
use Rattle.situations.proofs.by_callsign.by_callsign.Goals as goal

pub loop-flight-preserved : goal.loop-flight-preserved
loop-flight-preserved c = search (rules, not_yet, insert_entry-new, one_more)
