-- Laws of the definitions alone.
use Rattle.std.specs.Prelude.{◌≡◌, ◌≢◌, ℕ, ◌≤◌, List, length, All, Any, AllPairs}
use Rattle.landing_rules.specs.declared.objective.Objective.TheVariants.{Makespan, Delay}
use Rattle.landing_rules.specs.Flights.{Flight, Situation, Schedule, Landing}
use Rattle.landing_rules.specs.Rules.{rank, IsTight, HaveSameOrder, cost, delay}

-- each rank from 1 to the number of flights is the rank of exactly one flight
pub record RanksAreBijective (flights : List Flight) : Type 0 where
  pub in_range : All (λ f. (1 ≤ rank flights f) × (rank flights f ≤ length flights)) flights
  pub one_to_one : AllPairs (λ f g. rank flights f ≢ rank flights g) flights
  pub onto : (r : ℕ) → 1 ≤ r → r ≤ length flights → Any (λ f. rank flights f ≡ r) flights

abbrev pub HaveOwnCallsigns : List Flight → Type 0
HaveOwnCallsigns flights = AllPairs (λ f g. f.callsign ≢ g.callsign) flights

-- where the callsigns differ, the ranks are a bijection onto 1 to n
abbrev pub RankLaw : Type 0
RankLaw = (flights : List Flight) → HaveOwnCallsigns flights → RanksAreBijective flights

-- an order has at most one tight schedule
abbrev pub TightLaw : Type 0
TightLaw = (s : Situation) (t u : Schedule) → IsTight s t → IsTight s u → HaveSameOrder t u → t ≡ u

-- a schedule costs at least what each of its landings does
abbrev pub MakespanLaw : Type 0
MakespanLaw = (all : List Landing) → All (λ f. f.second ≤ cost Makespan all) all

abbrev pub DelayLaw : Type 0
DelayLaw = (all : List Landing) → All (λ f. delay f ≤ cost Delay all) all
