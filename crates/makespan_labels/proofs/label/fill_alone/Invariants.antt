-- So far each entry is the label of its window.
use Rattle.std.proofs.Common.{◌≡◌, ℕ, ◌<◌, length}
use Rattle.std.specs.Prelude.{slice_index}
use Rattle.makespan_labels.specs.Entries.{IsLabelAt}
use Rattle.makespan_labels.proofs.label.fill_alone.Given as goal

abbrev pub invariant-loop-i : goal.invariant-loop-i
invariant-loop-i g l = (length l.entries ≡ length l.initial.entries)
    × ((m : ℕ) → m < l.i → IsLabelAt l.problem l.stage m (slice_index l.entries m))
