-- A column whose entries were written as a whole.
use Rattle.std.proofs.Common.{◌≡◌, ℕ, ◌<◌, ◌++◌, List, length, take, drop, arith}
use Rattle.std.specs.Prelude.{ℤ, slice_index}
use Rattle.std.proofs.Math.Seq.{take-append_seam}
use Rattle.landing_rules.specs.Problem.{Problem}
use Rattle.makespan_labels.specs.Entries.{IsLabelAt}
use Rattle.makespan_labels.specs.Labels.{AreLabels}

pub as_written : {A : Type 0} (part items : List A) (n : ℕ) → n ≡ length part
    → take n (part ++ drop (length part) items) ≡ part
as_written part items n e = grind (arith, take-append_seam)

module _ (p : Problem) (stage : ℕ × List (List ℤ)) (part : List ℕ) (long : length part ≡ length stage.1) (at : (i : ℕ)
    → i < length part → IsLabelAt p stage i (slice_index part i)) where
  pub labels_written : AreLabels p stage part
  labels_written = grind arith
