-- Which ranks may land at a stage, and behind which landings.
use Rattle.std.specs.Prelude.{◌≡◌, ℕ, ◌+◌, ◌≤◌, length}
use Rattle.landing_joint.specs.RankedProblem.{start_at}
use Rattle.landing_rules.specs.Problem.{Problem}
use Rattle.landing_rules.specs.Rules.{last_second}

-- the stage of a problem at which so many flights have landed
pub record StageOf : Type 0 where
  pub problem : Problem
  pub number : ℕ

-- a rank may land as the flight of this number: it is at most k places from its own
pub record IsInReach (p : Problem) (number rank : ℕ) : Type 0 where
  pub from_one : 1 ≤ rank
  pub to_count : rank ≤ length p.flights
  pub late : number ≤ rank + p.k
  pub early : rank ≤ number + p.k

-- a rank may have landed just before, as the flight of the number before; rank 0 stands for no landing
pub record MayLead (p : Problem) (number rank : ℕ) : Type 0 where
  pub to_count : rank ≤ length p.flights
  pub late : number ≤ rank + 1 + p.k
  pub early : rank + 1 ≤ number + p.k

-- the latest landing may be that of a rank at this second: it waited for what the rank must wait for as the first. With
-- no landing rank and second are 0
pub record IsLatest (p : Problem) (rank second : ℕ) : Type 0 where
  pub none : rank ≡ 0 → second ≡ 0
  pub started : 1 ≤ rank → start_at p rank ≤ second
  pub in_days : second ≤ last_second
