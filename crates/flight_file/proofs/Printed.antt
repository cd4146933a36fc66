-- The plain spelling of flights reads as these flights.
use Rattle.std.proofs.Common.{◌≡◌, ◌+◌, ◌<◌, ◌≤◌, List, [], ◌∷◌, ◌++◌, false, length, Ok, refl, sym, ap}
use Rattle.std.proofs.Common.{◌∙◌, arith, append_assoc, length-append}
use Rattle.std.specs.Prelude.{map, decimal, nat_le}
use Rattle.std.proofs.lemmas.List.{append-nil}
use Rattle.cps_base.specs.Limits.{most_flights}
use Rattle.csv.specs.Reading.{strip_bom}
use Rattle.wake_table.specs.Letters.{letter}
use Rattle.csv_records.specs.Rows.{Fields, records_of}
use Rattle.csv_records.specs.Values.{value_in, values_in, values_by}
use Rattle.csv_records.specs.Plain.{plain_text, IsPlainRow, ArePlainRows}
use Rattle.csv_records.specs.PlainLaw.{plain_high, records_of-plain}
use Rattle.arrivals.specs.declared.flight.Flight.{Flight}
use Rattle.flight_file.specs.Fields.{flight_at}
use Rattle.flight_file.specs.Reading.{header, has_callsign, flight_in, flights, flights_of}
use Rattle.flight_file.specs.Printed.{flight_fields, flights_text, names_text, windows_text}
use Rattle.arrivals.specs.Flights.{AreArrivals}
use Rattle.flight_file.specs.Kept.{AreKept}
use Rattle.flight_file.proofs.Printable.{IsPrintable, ArePrintable, are_printable}
use Rattle.flight_file.proofs.PrintedFields.{number_read, category_read, high_letter, decimal_digits, high_digits}
use Rattle.flight_file.proofs.PrintedFields.{windows_text_read, high_windows_text, names_text_read, high_names_text}
use Rattle.flight_file.proofs.PrintedFields.{high_callsign}

-- one record
flight_read : (fs : List Flight) (f : Flight) → IsPrintable f → has_callsign fs f.callsign ≡ false
    → length fs < most_flights → value_in flights fs (flight_fields f) ≡ Ok f
unfolding flight_in flight_at
flight_read fs f h other room = grind (arith, nat_le, category_read, number_read, windows_text_read, names_text_read)

-- the records behind the header
rows_read : (fs gs : List Flight) → ArePrintable fs gs → length fs + length gs ≤ most_flights
    → values_in flights fs (map flight_fields gs) ≡ Ok (fs ++ gs)
unfolding values_in
rows_read fs [] h room = ap Ok (sym (append-nil fs))
rows_read fs (g ∷ gs) h room =
    rw (flight_read fs g h.0 h.1 (omega arith)) ((rows_read (fs ++ g ∷ []) gs h.2 (omega (
      arith,
      room,
      length-append fs (g ∷ []),
    ))) ∙ ap Ok (append_assoc fs (g ∷ []) gs))

row_plain : (f : Flight) → IsPrintable f → IsPlainRow (flight_fields f)
row_plain f h = (
  plain_high f.callsign (high_callsign f.callsign h.callsign),
  (
    plain_high (letter f.category ∷ []) (high_letter f.category, tt),
    (
      plain_high (decimal f.eta) (high_digits _ (decimal_digits f.eta (omega (arith, h.eta)))),
      (
        plain_high (decimal f.weight) (high_digits _ (decimal_digits f.weight (omega (arith, h.weight.1)))),
        (
          plain_high (windows_text f.windows) (high_windows_text f.windows h.in_days),
          (plain_high (names_text f.after) (high_names_text f.callsign f.after h.after), tt),
        ),
      ),
    ),
  ),
)

rows_plain : (fs gs : List Flight) → ArePrintable fs gs → ArePlainRows (map flight_fields gs)
rows_plain fs [] h = tt
rows_plain fs (g ∷ gs) h = (row_plain g h.0, rows_plain (fs ++ g ∷ []) gs h.2)

header_plain : IsPlainRow header
header_plain = (refl, (refl, (refl, (refl, (refl, (refl, tt))))))

no_mark : (rows : List Fields) → strip_bom (plain_text (header ∷ rows)) ≡ plain_text (header ∷ rows)
unfolding strip_bom
no_mark rows = refl

-- reading what was printed gives the flights again
pub read_printed : (fs : List Flight) → AreArrivals fs → AreKept fs → flights_of (flights_text fs) ≡ Ok fs
unfolding values_by
read_printed fs can kept =
    let h : ArePrintable [] fs = are_printable fs can kept in
    let rows = header ∷ map flight_fields fs in
    let read : records_of (plain_text rows) ≡ rows =
    records_of-plain rows (header_plain, rows_plain [] fs h) (no_mark (map flight_fields fs)) in
    rw read (rows_read [] fs h (omega (arith, can.few)))
