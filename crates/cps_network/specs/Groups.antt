-- Windows of a stage that share a tail, and so lead to the same windows.
use Rattle.std.specs.Prelude.{◌≡◌, ℕ, ℤ, ◌<◌, ◌≤◌, ◌↔◌, List, length, drop}
use Rattle.cps_network.specs.Lists.{node_at}

-- the windows with the same offsets from the second on as that at a place are those from there up to another place
pub record IsGroup (before : List (List ℤ)) (from to : ℕ) : Type 0 where
  pub some : from < to
  pub within : to ≤ length before
  pub exact : (j : ℕ) → j < length before → (drop 1 (node_at before j) ≡ drop 1 (node_at before from))
      ↔ ((from ≤ j) × (j < to))
