-- Each byte goes on, or ends a field or the record.
use Rattle.std.proofs.Common.{◌+◌, arith}
use Rattle.csv_records.proofs.Scans.{scan_goes_on, scan_field, scan_wide, scan_ends, scan_over}
use Rattle.csv_records.proofs.width.record_end.Goals as goal
use Rattle.csv_records.proofs.width.record_end.Goals.{in-GoesOn, in-EndsField+else-ended-most}

pub returns-then-ended-most : goal.returns-then-ended-most
returns-then-ended-most c =
    scan_wide c.args.text.now c.args.most (c.loop-i.ended + 1) (c.loop-i.i + 1) c.if-ended-most.true
    (scan_field c.args.text.now c.loop-i.place c.loop-i.ended c.loop-i.i c.loop-i-test.true
    c.loop-i.invariant.0 c.in-EndsField.ensures)

pub returns-in-EndsRecord : goal.returns-in-EndsRecord
returns-in-EndsRecord c = scan_ends c.args.text.now c.loop-i.place c.args.most c.loop-i.ended
    c.loop-i.i c.loop-i-test.true c.loop-i.invariant.1 c.loop-i.invariant.0 c.in-EndsRecord.ensures

pub loop-i-preserved : goal.loop-i-preserved
loop-i-preserved c = elim c.match-next_turn.branch [
  | in-GoesOn w ↦ rw (w.place-is, w.ended-is) (
    scan_goes_on c.args.text.now c.loop-i.place w.in-GoesOn.next c.loop-i.ended c.loop-i.i
        c.loop-i-test.true c.loop-i.invariant.0 w.in-GoesOn.ensures,
    c.loop-i.invariant.1,
  )
  | in-EndsField+else-ended-most w ↦ rw (w.place-is, w.ended-is) (
    scan_field c.args.text.now c.loop-i.place c.loop-i.ended c.loop-i.i c.loop-i-test.true
        c.loop-i.invariant.0 w.in-EndsField.ensures,
    w.if-ended-most.false,
  )
]

pub returns : goal.returns
returns c = scan_over c.args.text.now c.loop-i.place c.args.most c.loop-i.ended c.loop-i.i c.loop-i.invariant.1
    (omega (arith, c.loop-i-test.false, c.loop-i.auto.i-end)) c.loop-i.invariant.0
