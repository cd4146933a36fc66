-- The cost of landings in the two days, of flights with weights in their range, is small.
use Rattle.std.proofs.Common.{ℕ, ◌*◌, ◌-◌, ◌≤◌, List, [], ◌∷◌, length, map, arith}
use Rattle.std.specs.Prelude.{All, sum_by}
use Rattle.std.proofs.lemmas.Grind.{common_steps}
use Rattle.std.proofs.lemmas.List.Elements.{All-nil, All-cons, All-head, All-tail}
use Rattle.std.proofs.lemmas.List.Sums.{sum_by-cons}
use Rattle.landing_rules.specs.declared.objective.Objective.{Objective}
use Rattle.landing_rules.specs.declared.objective.Objective.TheVariants.{Makespan, Delay}
use Rattle.landing_rules.specs.Flights.{Active, Landing, Schedule, landing, landings}
use Rattle.cps_base.specs.Limits.{dearest_landing, greatest_value, greatest_weight, most_flights}
use Rattle.landing_rules.specs.Rules.{cost, delay, greatest, last_second}
use Rattle.landing_rules.specs.Sound.{IsGoodFlight}
use Rattle.plan_file.specs.shared.Landings.{length_landings}

-- a landing of a flight of a weight in its range, in the two days
pub record IsLight (f : Landing) : Type 0 where
  pub weight : f.flight.weight ≤ greatest_weight
  pub second : f.second ≤ last_second

greatest_low : (all : List Landing) → All IsLight all → greatest (map (λ f. f.second) all) ≤ last_second
greatest_low [] h = omega arith
greatest_low (f ∷ all) h = grind (arith, All-head, All-tail, greatest_low all (All-tail IsLight f all h))

product_low : (w s : ℕ) → w ≤ greatest_weight → s ≤ last_second → w * s ≤ dearest_landing
product_low w s p q = grind (arith, common_steps)

delays_low : (all : List Landing) → All IsLight all → sum_by delay all ≤ dearest_landing * length all
delays_low [] h = omega arith
delays_low (f ∷ all) h =
    let own = All-head IsLight f all h in
    let here = own.second in
    let one = product_low f.flight.weight (f.second - f.flight.eta) own.weight (omega (arith, here)) in
    let rest = delays_low all (All-tail IsLight f all h) in
    let both = sum_by-cons delay f all in
    omega (arith, one)

pub cost_low : (o : Objective) (all : List Landing) → All IsLight all → length all ≤ most_flights
    → cost o all ≤ greatest_value
cost_low Makespan all h few = let a = greatest_low all h in omega arith
cost_low Delay all h few = let a = delays_low all h in omega (arith, a)

light_landings : (active : List Active) (t : Schedule) → All (λ (a : Active). IsGoodFlight a.flight) active
    → All (λ (f : Landing). f.second ≤ last_second) (landings active t) → All IsLight (landings active t)
light_landings [] t good days = All-nil IsLight
light_landings (a ∷ active) [] good days = All-nil IsLight
light_landings (a ∷ active) (x ∷ t) good days =
    All-cons IsLight (landing a x) (landings active t)
    (record {
      weight = (All-head (λ (b : Active). IsGoodFlight b.flight) a active good).weight.1;
      second = All-head (λ (f : Landing). f.second ≤ last_second) (landing a x) (landings active t) days;
    })
    (light_landings active t (All-tail (λ (b : Active). IsGoodFlight b.flight) a active good)
    (All-tail (λ (f : Landing). f.second ≤ last_second) (landing a x) (landings active t) days))

-- a schedule of seconds in the two days
pub schedule_low : (o : Objective) (active : List Active) (t : Schedule)
    → All (λ (a : Active). IsGoodFlight a.flight) active
    → length active ≤ most_flights → All (λ (f : Landing). f.second ≤ last_second) (landings active t)
    → cost o (landings active t) ≤ greatest_value
schedule_low o active t good few days = grind (arith, length_landings, cost_low, light_landings)
