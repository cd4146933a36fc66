-- So far each rank has its seconds at its place.
use Rattle.std.proofs.Common.{◌≡◌, ℕ, ◌%◌, ◌<◌, ◌≤◌, length}
use Rattle.std.specs.Prelude.{slice_index}
use Rattle.stage_landings.specs.Followers.{IsApart}
use Rattle.stage_landings.proofs.follower.apart_of.Given as goal

abbrev pub invariant-loop-leader : goal.invariant-loop-leader
invariant-loop-leader l = (length l.apart ≡ 8)
    × ((r : ℕ) → l.initial.leader ≤ r → r < l.leader → IsApart l.problem r l.rank (slice_index l.apart (r % 8)))
