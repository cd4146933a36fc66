-- Arrivals in first-come order.
use Rattle.std.specs.Prelude.{ℕ, ◌≤◌, List, [], ◌∷◌, length, if◌then◌else◌}
use Rattle.std.specs.List.Sorted.{IsStrictlySortedBy}
use Rattle.std.specs.Ordering.{is_lt, is_eq}
use Rattle.cps_base.specs.Limits.{most_waiting}
use Rattle.landing_rules.specs.Rules.{first_come_cmp}

-- ascending, no arrival twice, and no more than may wait
pub record IsOrder (arrivals : List (ℕ × List ℕ)) : Type 0 where
  pub ascending : IsStrictlySortedBy first_come_cmp arrivals
  pub few : length arrivals ≤ most_waiting

-- with one more, before the first that does not come before it
abbrev pub with_arrival : ℕ × List ℕ → List (ℕ × List ℕ) → List (ℕ × List ℕ)
with_arrival a [] = a ∷ []
with_arrival a (b ∷ rest) = if is_lt (first_come_cmp b a) then b ∷ with_arrival a rest else a ∷ b ∷ rest

-- without one
abbrev pub without : ℕ × List ℕ → List (ℕ × List ℕ) → List (ℕ × List ℕ)
without a [] = []
without a (b ∷ rest) = if is_eq (first_come_cmp b a) then rest else b ∷ without a rest
