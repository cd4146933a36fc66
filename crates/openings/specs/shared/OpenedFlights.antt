-- As many flights are active in an opening situation as the file has.
use Rattle.std.proofs.Common.{◌≡◌, List, length, map, ap, arith}
use Rattle.std.proofs.lemmas.List.{length-map}
use Rattle.landing_rules.specs.Events.{opening_flight, opening_situation}
use Rattle.landing_rules.specs.Flights.{Situation}
use Rattle.arrivals.specs.declared.aerodrome.Aerodrome.{Aerodrome}
use Rattle.arrivals.specs.declared.flight.Flight.{Flight}
use Rattle.arrivals.specs.Seen.{flight_of}
use Rattle.sequencer.specs.Opened.{opening_of}

pub as_many : (a : Aerodrome) (fs : List Flight) (s : Situation)
    → s ≡ opening_situation (opening_of a) (map flight_of fs) → length s.active ≡ length fs
as_many a fs s is =
    let all = length-map (map flight_of fs) (opening_flight (opening_of a)) in
    let each = length-map fs flight_of in
    let same = ap (λ (t : Situation). length t.active) is in
    omega (arith, all, each, same)
