use Rattle.std.proofs.Common.{rules, tests, sym, ◌∙◌}
use Rattle.std.proofs.lemmas.Iterator.{YieldsList-from_slice}
use Rattle.std.proofs.lemmas.Iterator.Search.{all_from_yields_List}
use Rattle.aerodrome_file.proofs.Items.{is_table, tables_view}
use Rattle.aerodrome_file.proofs.tables.are_tables.Goals as goal

pub returns : goal.returns
returns c =
    all_from_yields_List is_table _ _ c.all.result c.all.ensures.ran (YieldsList-from_slice c.args.values.now (cc))
    (λ x b q k. search (rules, tests)) ∙ sym (tables_view c.args.values.now)
