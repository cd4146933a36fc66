-- So far the row has the separation behind each leader.
use Rattle.std.proofs.Common.{◌≡◌, ◌<◌, length}
use Rattle.std.specs.Prelude.{slice_index}
use Rattle.wake_table.specs.declared.category.Category.{Category}
use Rattle.wake_table.specs.Letters.{place, category_count}
use Rattle.wake_table.specs.Table.{separation}
use Rattle.wake_table.proofs.table.PairTable.separations_behind.Given as goal

abbrev pub invariant-loop-i : goal.invariant-loop-i
invariant-loop-i l = record {
  count : length l.row ≡ category_count;
  behind : (leader : Category) → place leader < l.i
      → slice_index l.row (place leader) ≡ separation l.self-inside.rows leader l.follower;
}
