-- One entry more.
use Rattle.std.proofs.Common.{rules, arith, ◌≡◌, ◌∙◌, ◌<◌, length, Some}
use Rattle.toml.specs.Data.{as_table}
use Rattle.toml.specs.View.{view, table_view}
use Rattle.aerodrome_file.proofs.Entries.{frozen_more, frozen_step}
use Rattle.aerodrome_file.proofs.frozen.frozen_from.Goals as goal
use Rattle.cps_base.specs.Limits.{most_flights}

pub loop-rest-preserved-in-Ok : goal.loop-rest-preserved-in-Ok
loop-rest-preserved-in-Ok c =
    let given = rw c.as_slice.ensures.value at c.in_ok-entry.ensures.value in
    let new = rw c.as_slice.ensures.value at c.in_ok-entry.ensures.new in
    let room : length c.loop-rest.entries.items < most_flights = omega arith in
    let is : as_table (view c.first-item.result) ≡ Some (table_view c.in-Some.table.now) = search rules in
    let step = frozen_step c.loop-rest.number c.args.clock c.args.freeze c.loop-rest.entries.items c.loop-rest.rest.now
    c.first-item.result _ c.in_ok-entry.entry c.first-item.is (omega arith) is given in
    let more = frozen_more c.args.clock c.args.freeze c.loop-rest.entries.items c.in_ok-entry.entry
    c.loop-rest.invariant.3 c.in_ok-entry.ensures.range new room in (
      rw c.in-Ok.ensures.items (step ∙ c.loop-rest.invariant.0),
      search rules,
      search rules,
      rw c.in-Ok.ensures.items more,
    )
