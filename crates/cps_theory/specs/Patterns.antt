-- A prefix by the pattern of the placed ranks round its stage and its latest rank: a certificate's node.
use Rattle.std.specs.Prelude.{◌<◌, count_by, ◌≡◌, ℕ, zero, suc, ◌+◌, ◌-◌, ◌*◌, ◌≤◌, ◌⊎◌, List, [], ◌∷◌, length, Bool}
use Rattle.std.specs.Prelude.{true, false, ◌||◌}
use Rattle.std.proofs.Common.{leb, eqb, get_or}
use Rattle.cps_theory.specs.LandingTrail.{last_rank}
use Rattle.cps_theory.specs.LegalPrefix.{MayCome, OrderRules}

-- a stage, the digits of the ranks from its own less k, plus 1, to its own plus k, and the latest rank
abbrev pub PatternNode : Type 0
PatternNode = ℕ × List Bool × ℕ

-- the outcomes of a test at m numbers from y on
abbrev pub tests_from : (ℕ → Bool) → ℕ → ℕ → List Bool
tests_from t y zero = []
tests_from t y (suc m) = t y ∷ tests_from t (suc y) m

-- x is in the list
abbrev pub is_member : ℕ → List ℕ → Bool
is_member x [] = false
is_member x (r ∷ rs) = eqb x r || is_member x rs

-- is rank `y - k` placed; ranks below 1 are
abbrev pub pattern_digit : ℕ → List ℕ → ℕ → Bool
pattern_digit k rs y = leb y k || is_member (y - k) rs

-- the node of a prefix
abbrev pub pattern_node : OrderRules → List ℕ → PatternNode
pattern_node g rs = (length rs, tests_from (pattern_digit g.most rs) (suc (length rs)) (2 * g.most), last_rank rs)

-- what a pattern says is placed
abbrev pub IsPlacedByPattern : OrderRules → PatternNode → ℕ → Type 0
IsPlacedByPattern g w x = (x + g.most ≤ w.0) ⊎ (get_or w.1 (x + g.most - suc w.0) false ≡ true)

-- rank r may come next
abbrev pub PatternPermits : OrderRules → PatternNode → ℕ → Type 0
PatternPermits g w r = MayCome g w.0 (IsPlacedByPattern g w) r

-- the node when rank r has come next
abbrev pub pattern_push : OrderRules → PatternNode → ℕ → PatternNode
pattern_push g w r = (
  suc w.0,
  tests_from (λ y. eqb y (r + g.most) || get_or w.1 (y - suc w.0) false)
      (suc (suc w.0)) (2 * g.most),
  r,
)

-- the latest rank
abbrev pub pattern_newest : PatternNode → ℕ
pattern_newest w = w.2

-- the shape of a node of n flights: 2k digits of which k are set, ranks below 1 placed and none above n, and the latest
-- rank near its place and placed
pub record IsShaped (k n : ℕ) (w : PatternNode) : Type 0 where
  pub stage : w.0 ≤ n
  pub digits : length w.1 ≡ 2 * k
  pub ones : count_by (λ d. d) w.1 ≡ k
  pub below_one : (y : ℕ) → suc w.0 ≤ y → y ≤ w.0 + 2 * k → y ≤ k → get_or w.1 (y - suc w.0) false ≡ true
  pub above_count : (y : ℕ) → suc w.0 ≤ y → y ≤ w.0 + 2 * k → n + k < y → get_or w.1 (y - suc w.0) false ≡ false
  pub latest : w.2 ≤ n
  pub near : (w.0 ≤ w.2 + k) × (w.2 ≤ w.0 + k)
  pub latest_placed : (w.2 + k ≤ w.0) ⊎ (get_or w.1 (w.2 + k - suc w.0) false ≡ true)
