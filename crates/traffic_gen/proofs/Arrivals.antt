-- What the flights that a state makes are: so many, of numbers in their ranges, with callsigns apart.
use Rattle.std.proofs.Common.{◌≡◌, ◌≢◌, ℕ, zero, suc, ◌+◌, ◌*◌, ◌/◌, ◌%◌, ◌<◌, ◌≤◌, List, [], ◌∷◌, length, arith, refl}
use Rattle.std.proofs.Common.{ap, ◌∙◌, ◌++◌, append_assoc}
use Rattle.std.specs.Prelude.{All, AllPairs}
use Rattle.std.proofs.lemmas.List.Elements.{All-nil, All-cons}
use Rattle.std.proofs.lemmas.List.Kept.{AllPairs-cons}
use Rattle.arrivals.specs.declared.flight.Flight.{Flight}
use Rattle.arrivals.specs.Flights.{AreOthers, IsArrival, AreArrivals}
use Rattle.cps_base.specs.Limits.{most_waiting}
use Rattle.landing_rules.specs.Rules.{last_second}
use Rattle.traffic_gen.specs.Draws.{next, drawn}
use Rattle.traffic_gen.specs.Flights.{callsign, flight, flights_from, after_three}

pub flights_length : (n number before x : ℕ) → length (flights_from n number before x) ≡ n
unfolding flights_from
flights_length zero number before x = refl
flights_length (suc n) number before x =
    ap suc (flights_length n (number + 1) (before + 60 + drawn 60 (next x)) (after_three x))

drawn_below : (most x : ℕ) → 0 < most → drawn most x < most
unfolding drawn
drawn_below most x h = omega arith

no_others : (own : List ℕ) → AreOthers own []
no_others own = record { other = λ k d h. absurd (omega arith); once = λ i j d h g. absurd (omega arith) }

of_file : (number before x : ℕ) → before + 119 ≤ last_second → IsArrival (flight number before x)
unfolding flight
of_file number before x h = record {
  eta = let less = drawn_below 60 (next x) (omega arith) in omega arith;
  weight = let less = drawn_below 5 (next (next (next x))) (omega arith) in (omega arith, omega arith);
  after = no_others (callsign number);
}

all_of_file : (n number before x : ℕ) → before + 119 * n ≤ last_second → All IsArrival (flights_from n number before x)
unfolding flights_from
all_of_file zero number before x h = All-nil IsArrival
all_of_file (suc n) number before x h =
    let less = drawn_below 60 (next x) (omega arith) in
    All-cons IsArrival (flight number before x) (flights_from n (number + 1) (before + 60 + drawn 60 (next x))
    (after_three x))
    (of_file number before x (omega arith))
    (all_of_file n (number + 1) (before + 60 + drawn 60 (next x)) (after_three x) (omega arith))

-- numbers of three digits have callsigns of their own
apart : (i j : ℕ) → i < j → j < 1000 → callsign i ≢ callsign j
unfolding callsign
apart i j h g same =
    let hundreds : 48 + i / 100 % 10 ≡ 48 + j / 100 % 10 = cc in
    let tens : 48 + i / 10 % 10 ≡ 48 + j / 10 % 10 = cc in
    let ones : 48 + i % 10 ≡ 48 + j % 10 = cc in
    omega arith

flight_callsign : (number before x : ℕ) → (flight number before x).callsign ≡ callsign number
unfolding flight
flight_callsign number before x = refl

later : (i n number before x : ℕ) → i < number → number + n ≤ 1000 →
    All (λ f. callsign i ≢ f.callsign) (flights_from n number before x)
unfolding flights_from
later i zero number before x h g = All-nil (λ f. callsign i ≢ f.callsign)
later i (suc n) number before x h g =
    All-cons (λ f. callsign i ≢ f.callsign) (flight number before x)
    (flights_from n (number + 1) (before + 60 + drawn 60 (next x)) (after_three x))
    (rw (flight_callsign number before x) (apart i number h (omega arith)))
    (later i n (number + 1) (before + 60 + drawn 60 (next x)) (after_three x) (omega arith) (omega arith))

all_apart : (n number before x : ℕ) → number + n ≤ 1000 →
    AllPairs (λ f later. f.callsign ≢ later.callsign) (flights_from n number before x)
unfolding flights_from
all_apart zero number before x g = λ i j d h k. absurd (omega arith)
all_apart (suc n) number before x g =
    AllPairs-cons (λ f later. f.callsign ≢ later.callsign) (flight number before x)
    (flights_from n (number + 1) (before + 60 + drawn 60 (next x)) (after_three x))
    (rw (flight_callsign number before x) (later number n (number + 1) (before + 60 + drawn 60 (next x))
    (after_three x) (omega arith) (omega arith)))
    (all_apart n (number + 1) (before + 60 + drawn 60 (next x)) (after_three x) (omega arith))

-- one flight more is made, and the flights behind it are left to make
pub one_more : (made all : List Flight) (k n number before x : ℕ) → k ≡ suc n
    → made ++ flights_from k number before x ≡ all →
    (made ++ flight number before x ∷ []) ++ flights_from n (number + 1) (before + 60 + drawn 60 (next x))
    (after_three x) ≡ all
unfolding flights_from
one_more made all k n number before x h e =
    let whole : made ++ flights_from (suc n) number before x ≡ all = rw h at e in
    append_assoc made (flight number before x ∷ [])
    (flights_from n (number + 1) (before + 60 + drawn 60 (next x)) (after_three x)) ∙ whole

pub can_be_read : (n seed : ℕ) → n ≤ most_waiting → AreArrivals (flights_from n 1 3600 seed)
can_be_read n seed h = record {
  few = let so_many = flights_length n 1 3600 seed in omega arith;
  flights = all_of_file n 1 3600 seed (omega arith);
  callsigns = all_apart n 1 3600 seed (omega arith);
}
