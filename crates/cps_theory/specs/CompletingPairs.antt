-- What may still follow a node: the pairs that complete it, and orders of least choices.
use Rattle.std.specs.Prelude.{◌≡◌, ℕ, ◌+◌, ◌<◌, ◌≤◌, ◌⊎◌, List, [], ◌∷◌, Option, Some}
use Rattle.cps_theory.specs.Separation.{Landing}
use Rattle.cps_theory.specs.LandingTrail.{Landed, cost_of, latest_landing, ranks}
use Rattle.cps_theory.specs.Labels.{Pair}
use Rattle.cps_theory.specs.Feasible.{earliest}

-- a list, earliest first, put one after another in front of one that is latest first
abbrev pub onto : {A : Type 0} → List A → List A → List A
onto [] xs = xs
onto (y ∷ ys) xs = onto ys (y ∷ xs)

-- no smaller order of ranks, the earliest first, differs from it first
abbrev pub NoGreaterOrder : List ℕ → List ℕ → Type 0
NoGreaterOrder [] bs = Unit {0}
NoGreaterOrder (a ∷ as') [] = ⊥
NoGreaterOrder (a ∷ as') (b ∷ bs) = (a < b) ⊎ ((a ≡ b) × NoGreaterOrder as' bs)

-- no landing is at a second that is too late
abbrev pub AllLow : (ℕ → Type 0) → List Landing → Type 0
AllLow Low [] = Unit {0}
AllLow Low (x ∷ xs) = Low x.1 × AllLow Low xs

-- these flights, the earliest first, follow from a node whose last flight lands at b, up to a final node
abbrev pub Follows : (W : Type 0) → (ℕ → ℕ → Type 0) → (ℕ → ℕ → ℕ → ℕ) → (W → ℕ → Type 0) → (W → ℕ → W)
    → (W → ℕ) → (W → Type 0) → (ℕ → Type 0) → W → ℕ → List Landing → Type 0
Follows W Open after Permitted push newest Final Low w b [] = Final w
Follows W Open after Permitted push newest Final Low w b (y ∷ ys) = Permitted w y.0 × Open y.0 y.1
    × (after (newest w) b y.0 ≤ y.1) × Low y.1 × Follows W Open after Permitted push newest Final Low
    (push w y.0) y.1 ys

-- some legal prefix of this node lands its last flight at b or before
pub record Reached {W : Type 0} (Open : ℕ → ℕ → Type 0) (after : ℕ → ℕ → ℕ → ℕ) (Legal : List ℕ
    → Type 0) (node : List ℕ → W) (w : W) (b : ℕ) : Type 0 where
  pub landings : List Landing
  pub legal : Legal (ranks landings)
  pub landed : Landed Open after landings
  pub at : node (ranks landings) ≡ w
  pub by : (latest_landing landings).1 ≤ b

-- the pair (b, c) completes the node: with its last flight at b the others can follow, and cost c together
pub record Completes (W : Type 0) (Open : ℕ → ℕ → Type 0) (after : ℕ → ℕ → ℕ → ℕ) (cost : ℕ
    → ℕ → ℕ) (Legal : List ℕ → Type 0) (node : List ℕ → W) (Permitted : W → ℕ → Type 0) (push : W
    → ℕ → W) (newest : W → ℕ) (Final : W → Type 0) (Low : ℕ → Type 0) (w : W) (q : Pair) : Type 0 where
  pub opened : Open (newest w) q.0
  pub reached : Reached Open after Legal node w q.0
  pub low : Low q.0
  pub rest : List Landing
  pub follows : Follows W Open after Permitted push newest Final Low w q.0 rest
  pub cost_is : cost_of cost rest ≡ q.1

-- at least as late, and at most as dear
abbrev pub NoEarlierNoDearer : Pair → Pair → Type 0
NoEarlierNoDearer p q = (q.0 ≤ p.0) × (p.1 ≤ q.1)

-- the kept pairs of a node: each completes it, and each that does has a kept one at least as late and at most as dear
pub record KeptCompleting (Completing Keeps : Pair → Type 0) : Type 0 where
  pub completes : (q : Pair) → Keeps q → Completing q
  pub covers : (q : Pair) → Completing q → (p : Pair) × Keeps p × NoEarlierNoDearer p q

-- of no two completing pairs is this one the worse
pub record UndominatedCompleting (Completing : Pair → Type 0) (p : Pair) : Type 0 where
  pub completes : Completing p
  pub best : (q : Pair) → Completing q → NoEarlierNoDearer q p → q ≡ p

-- a kept pair of the node lets a prefix at (b, c) end within the budget
abbrev pub CanEndWithin : {W : Type 0} → (W → Pair → Type 0) → ℕ → W → Pair → Type 0
CanEndWithin Keeps budget w p = (o : Pair) × Keeps w o × (p.0 ≤ o.0) × (p.1 + o.1 ≤ budget)

-- r may come next at its first open second t, and the order can still end within the budget
pub record Choice (W : Type 0) (first : ℕ → ℕ → Option ℕ) (after : ℕ → ℕ → ℕ → ℕ) (cost : ℕ
    → ℕ → ℕ) (Permitted : W → ℕ → Type 0) (push : W → ℕ → W) (newest : W → ℕ) (Keeps : W → Pair
    → Type 0) (budget : ℕ) (w : W) (p : Pair) (r t : ℕ) : Type 0 where
  pub permitted : Permitted w r
  pub found : first r (after (newest w) p.0 r) ≡ Some t
  pub can_end : CanEndWithin Keeps budget (push w r) (t, p.1 + cost r t)

-- each next rank is the least that can still be completed, with the prefix at its earliest seconds
abbrev pub LeastChoices : (W : Type 0) → (ℕ → ℕ → Option ℕ) → (ℕ → ℕ → ℕ → ℕ) → (ℕ → ℕ → ℕ)
    → (W → ℕ → Type 0) → (W → ℕ → W) → (W → ℕ) → (W → Type 0) → (W → Pair → Type 0) → ℕ → W → Pair → List ℕ → Type 0
LeastChoices W first after cost Permitted push newest Final Keeps budget w p [] = Final w
LeastChoices W first after cost Permitted push newest Final Keeps budget w p (r ∷ qs) =
    (t : ℕ) × Choice W first after cost Permitted push newest Keeps budget w p r t
    × ((q u : ℕ) → Choice W first after cost Permitted push newest Keeps budget w p q u → r ≤ q)
    × LeastChoices W first after cost Permitted push newest Final Keeps budget (push w r) (t, p.1 + cost r t) qs

-- a whole order, latest first, whose earliest landings are low and within the budget
pub record OrderWithinBudget {W : Type 0} (first : ℕ → ℕ → Option ℕ) (after : ℕ → ℕ → ℕ → ℕ) (cost : ℕ
    → ℕ → ℕ) (Legal : List ℕ → Type 0) (node : List ℕ → W) (Final : W → Type 0) (Low : ℕ
    → Type 0) (budget : ℕ) (rs : List ℕ) : Type 0 where
  pub legal : Legal rs
  pub final : Final (node rs)
  pub landings : List Landing
  pub earliest_is : earliest first after rs ≡ Some landings
  pub low : AllLow Low landings
  pub cheap : cost_of cost landings ≤ budget
