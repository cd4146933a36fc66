-- Lists of pairs, as they are stored.
use Rattle.std.proofs.Common.{ℕ, zero, suc, ◌<◌, List, [], ◌∷◌, length, get_or, map, sym, subst, arith}
use Rattle.std.specs.Prelude.{All}
use Rattle.std.proofs.lemmas.List.{get_or-map}
use Rattle.std.proofs.lemmas.List.Elements.{All-head, All-tail, All-nil}
use Rattle.cps_theory.specs.Labels.{Pair}
use Rattle.cps_network.specs.Pairs.{list_at}
use Rattle.delay_labels.specs.Bounds.{IsInDays}

module _ {V : Type 0} (pairs_of : V → List Pair) where
  -- a list of those that are in the days, also where there is none
  pub lists_in_days : (vs : List V) → All (λ v. All IsInDays (pairs_of v)) vs → (i : ℕ)
      → All IsInDays (list_at (map pairs_of vs) i)
  lists_in_days [] all i = All-nil IsInDays
  lists_in_days (v ∷ vs) all zero = All-head (λ v. All IsInDays (pairs_of v)) v vs all
  lists_in_days (v ∷ vs) all (suc i) = lists_in_days vs (All-tail (λ v. All IsInDays (pairs_of v)) v vs all) i

  -- what holds of each that is stored holds of the list at its place
  pub each_list : (P : ℕ → List Pair → Type 0) (vs : List V)
      → ((i : ℕ) (d : V) → i < length vs → P i (pairs_of (get_or vs i d)))
      → (i : ℕ) → i < length vs → P i (list_at (map pairs_of vs) i)
  each_list P [] all i lt = absurd (omega arith)
  each_list P (v ∷ vs) all i lt = subst (P i) (sym (get_or-map pairs_of (v ∷ vs) i v [] lt)) (all i v lt)
