-- The entries written so far are answers for their places, and those before them stay.
use Rattle.std.proofs.Common.{◌≡◌, ℕ, ◌+◌, ◌<◌, ◌≤◌, length, slice_index}
use Rattle.label_workers.proofs.numbers.fill_piece.Given as goal

abbrev pub invariant-loop-k : goal.invariant-loop-k
invariant-loop-k g l = (length l.part ≡ length l.fn.part)
    × (((j : ℕ) → j < l.from → slice_index l.part j ≡ slice_index l.fn.part j)
    × ((j : ℕ) → l.from ≤ j → j < l.k → goal.F-post g l.f (l.start + j) (slice_index l.part j)))
