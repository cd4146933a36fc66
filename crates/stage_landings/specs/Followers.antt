-- What the landings of a rank at a stage need.
use Rattle.std.specs.Prelude.{◌≡◌, ℕ, ◌+◌, ◌-◌, ◌*◌, ◌%◌, ◌<◌, ◌≤◌, max, List, length, Some, slice_index, slice_index_or}
use Rattle.cps_base.specs.Limits.{greatest_weight, latest_horizon}
use Rattle.landing_joint.specs.RankedProblem.{apart_at, cost_at, first_at, start_at}
use Rattle.landing_rules.specs.Problem.{Problem}
use Rattle.landing_rules.specs.Rules.{last_second}
use Rattle.stage_landings.specs.Reach.{IsInReach, MayLead}
use Rattle.stage_landings.specs.declared.follower.Follower.{Follower}
use Rattle.wake_table.specs.Table.{greatest_separation}

-- a rank lands so many seconds behind another; behind rank 0, no landing, it is from when on it may land as the first
pub record IsApart (p : Problem) (leader rank seconds : ℕ) : Type 0 where
  pub first : leader ≡ 0 → seconds ≡ start_at p rank
  pub behind : 1 ≤ leader → seconds ≡ apart_at p leader rank
  pub small : seconds ≤ latest_horizon + greatest_separation

-- so it is behind each rank that may have landed just before, at the place that its last three bits tell
pub record AreApart (p : Problem) (number rank : ℕ) (apart : List ℕ) : Type 0 where
  pub count : length apart ≡ 8
  pub each : (leader : ℕ) → MayLead p number leader → IsApart p leader rank (slice_index apart (leader % 8))

-- when a rank is ready before the end of this span, it lands then, or at the span's first second
pub record IsFirstSpan (p : Problem) (rank : ℕ) (span : ℕ × ℕ) : Type 0 where
  pub lands : (t : ℕ) → start_at p rank ≤ t → t < span.1 → first_at p rank t ≡ Some (max t span.0)
  pub begins : span.0 ≤ last_second
  pub ends : span.1 ≤ last_second + 1

-- what is known of a rank is so
pub record IsFollower (p : Problem) (number rank : ℕ) (follower : Follower) : Type 0 where
  pub apart : AreApart p number rank follower.apart
  pub span : IsFirstSpan p rank follower.«open»
  pub cost_is : (t : ℕ) → cost_at p rank t ≡ follower.price * (t - follower.eta)
  pub light : follower.price ≤ greatest_weight

-- it is known of each rank in reach of a stage, at the place that its last three bits tell
pub record AreFollowers (p : Problem) (number : ℕ) (followers : List Follower) : Type 0 where
  pub count : length followers ≡ 8
  pub each : (rank : ℕ) (d : Follower) → IsInReach p number rank
      → IsFollower p number rank (slice_index_or followers (rank % 8) d)
