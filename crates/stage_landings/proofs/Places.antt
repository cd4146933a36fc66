-- Ranks that differ by less than eight stand at different places.
use Rattle.std.proofs.Common.{◌≡◌, ℕ, ◌+◌, ◌%◌, ◌<◌, ◌≤◌, List, length, set, ◌∙◌, ap, arith}
use Rattle.std.specs.Prelude.{slice_index}
use Rattle.std.proofs.lemmas.List.{get_or-set_same, get_or-set_other}

apart : (r s : ℕ) → r < s → s ≤ r + 7 → r % 8 ≡ s % 8 → ⊥
apart r s lo hi same = omega (arith, lo, hi, same)

pub other_place : (r s place : ℕ) → r < s → s ≤ r + 7 → place ≡ s % 8 → r % 8 ≡ place → ⊥
other_place r s place lo hi is same = apart r s lo hi (same ∙ is)

pub set_there : (xs : List ℕ) (place at x : ℕ) → at ≡ place → place < length xs → slice_index (set xs place x) at ≡ x
set_there xs place at x e lt = ap (slice_index (set xs place x)) e ∙ get_or-set_same xs place x _ lt

pub set_elsewhere : (xs : List ℕ) (place at x : ℕ) → (at ≡ place → ⊥)
    → slice_index (set xs place x) at ≡ slice_index xs at
set_elsewhere xs place at x away = get_or-set_other xs place at x _ away
