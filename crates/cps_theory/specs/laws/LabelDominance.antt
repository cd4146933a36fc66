-- A pair no later and no dearer has successors no later and no dearer, so what is closed under successors covers every
-- landing.
use Rattle.std.proofs.Common.{arith}
use Rattle.std.proofs.Common.{◌≡◌, ℕ, ◌+◌, ◌≤◌, List, [], ◌∷◌, Option, Some, option_map, ap, le_trans}
use Rattle.std.proofs.Common.{le_refl, add-le-add}
use Rattle.cps_theory.specs.Separation.{Landing}
use Rattle.cps_theory.specs.Retiming.{IsFirstOpen, NeverEarlier}
use Rattle.cps_theory.specs.LandingTrail.{Landed, last_rank, latest_landing, pair_of, ranks}
use Rattle.cps_theory.specs.Labels.{NeverCheaper, NoWorse, Pair, next_pair}
use Rattle.cps_theory.specs.LegalPrefix.{Legal}
use Rattle.cps_theory.specs.ClosedSets.{ClosedPairs}
use Rattle.cps_theory.specs.laws.OptionSteps.{mapped}

pub no_worse_trans : (p q r : Pair) → NoWorse p q → NoWorse q r → NoWorse p r
no_worse_trans p q r h k = (le_trans h.0 k.0, le_trans h.1 k.1)

pub last_ranks : (xs : List Landing) → last_rank (ranks xs) ≡ (latest_landing xs).0
last_ranks xs = grind arith

module _ (Open : ℕ → ℕ → Type 0) (first : ℕ → ℕ → Option ℕ) (after : ℕ → ℕ → ℕ → ℕ) (cost : ℕ
    → ℕ → ℕ) (opens : IsFirstOpen Open first) (later : NeverEarlier after) (dearer : NeverCheaper cost) where
  -- a landing after a pair has a successor, from any pair no worse, that is no worse than it
  pub next_covers : (l : ℕ) (a b : Pair) (r t : ℕ) → NoWorse a b → Open r t → after l b.0 r ≤ t
      → (p : Pair) × (next_pair first after cost l a r ≡ Some p) × NoWorse p (t, b.1 + cost r t)
  next_covers l a b r t le open' at =
      let f = opens.least r (after l a.0 r) t open' (le_trans (later.mono l a.0 b.0 r le.0) at) in (
        (f.0, a.1 + cost r f.0),
        ap (option_map _) f.1,
        (f.2, add-le-add le.1 (dearer.mono r f.0 t f.2)),
      )

  -- a successor of landed flights is landed
  pub next_lands : (xs : List Landing) (r : ℕ) (p : Pair) → Landed Open after xs
      → next_pair first after cost (last_rank (ranks xs)) (pair_of cost xs) r ≡ Some p
      → (Landed Open after ((r, p.0) ∷ xs)) × (pair_of cost ((r, p.0) ∷ xs) ≡ p)
  next_lands xs r p l e =
      let m = mapped _ _ p (rw (last_ranks xs) at e) in
      let found = opens.found r (after (latest_landing xs).0 (latest_landing xs).1 r) m.0 m.1 in grind arith

  -- what is closed under successors has for each legal landed prefix a pair no later and no dearer
  pub closed_covers : (Legal : List ℕ → Type 0) → ((r : ℕ) (rs : List ℕ) → Legal (r ∷ rs) → Legal rs)
      → (Listed : List ℕ → Pair → Type 0) → ClosedPairs first after cost Legal Listed → (xs : List Landing)
      → Legal (ranks xs) → Landed Open after xs → (p : Pair) × Listed (ranks xs) p × NoWorse p (pair_of cost xs)
  closed_covers Legal shorter Listed closed [] legal l = ((0, 0), closed.start, (le_refl 0, le_refl 0))
  closed_covers Legal shorter Listed closed (x ∷ xs) legal l =
      let before = closed_covers _ shorter _ closed xs (shorter x.0 (ranks xs) legal) l.2 in
      let c = next_covers _ _ _ x.0 x.1 before.2 l.0 l.1 in grind arith
