-- So far each rank has what it needs at its place.
use Rattle.std.proofs.Common.{◌≡◌, ℕ, ◌%◌, ◌<◌, ◌≤◌, length}
use Rattle.std.specs.Prelude.{slice_index_or}
use Rattle.stage_landings.specs.declared.follower.Follower.{Follower}
use Rattle.stage_landings.specs.Followers.{IsFollower}
use Rattle.stage_landings.proofs.landings.StageLandings.of.Given as goal

abbrev pub invariant-loop-rank : goal.invariant-loop-rank
invariant-loop-rank l = (length l.followers ≡ 8)
    × ((r : ℕ) (d : Follower) → l.initial.rank ≤ r → r < l.rank
    → IsFollower l.problem l.number r (slice_index_or l.followers (r % 8) d))
