-- The entries of the pieces so far are answers for their places.
use Rattle.std.proofs.Common.{◌≡◌, ℕ, ◌+◌, ◌*◌, ◌<◌, length, slice_index}
use Rattle.label_workers.proofs.numbers.fill_lane.Given as goal

abbrev pub invariant-loop-piece : goal.invariant-loop-piece
invariant-loop-piece g l = (length l.part ≡ l.len) × ((k : ℕ) → k < l.piece * 1024 → k < l.len
    → goal.F-post g l.f (l.start + k) (slice_index l.part k))
