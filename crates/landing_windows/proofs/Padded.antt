-- Pairs in an array with zeros behind them, one pair more.
use Rattle.std.proofs.Common.{◌≡◌, ℕ, ◌+◌, ◌<◌, ◌≤◌, List, [], ◌∷◌, ◌++◌, length, take, slice_set, All, arith}
use Rattle.std.proofs.lemmas.Grind.{common_steps}
use Rattle.std.proofs.Math.Seq.{set-append_seam}
use Rattle.cps_base.specs.Limits.{most_closures}
use Rattle.landing_rules.specs.Flights.{Span}
use Rattle.cps_base.specs.Padded.{padded}
use Rattle.landing_windows.specs.Closed.{IsClosure}

-- the first len of these pairs are closures, and zeros stand behind them
abbrev pub Keeps : List Span → ℕ → Type 0
Keeps pairs len = (pairs ≡ padded (0, 0) most_closures (take len pairs)) × (length (take len pairs) ≡ len)
    × (len ≤ most_closures) × All IsClosure (take len pairs)

pub padded_one_more : (xs : List Span) (p : Span) → length xs < most_closures
    → slice_set (padded (0, 0) most_closures xs) (length xs) p ≡ padded (0, 0) most_closures (xs ++ p ∷ [])
padded_one_more xs p h = grind (arith, common_steps, set-append_seam)

pub push_kept : (pairs : List Span) (len : ℕ) (p : Span) → Keeps pairs len → len < most_closures → IsClosure p
    → Keeps (slice_set pairs len p) (len + 1)
push_kept pairs len p k room is = grind (arith, common_steps, padded_one_more)
