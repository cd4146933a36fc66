-- The items made so far are Ok answers for their places.
use Rattle.std.proofs.Common.{◌≡◌, ℕ, ◌+◌, ◌<◌, length, Ok, slice_index_or}
use Rattle.label_workers.proofs.lists.lane_from.Given as goal

abbrev pub invariant-loop-k : goal.invariant-loop-k
invariant-loop-k g l = (length l.items.items ≡ l.k) × ((j : ℕ) (d : g.row.T.Denot) → j < l.k
    → goal.F-post g l.f (l.from + j) (Ok (slice_index_or l.items.items j d)))
