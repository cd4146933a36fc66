-- Of all landings of one order the earliest are least at every place.
use Rattle.std.proofs.Common.{arith}
use Rattle.std.proofs.Common.{◌≡◌, ℕ, ◌≤◌, List, [], ◌∷◌, Option, Some, option_and_then, option_map, refl, ap}
use Rattle.std.proofs.Common.{◌∙◌, le_refl, le_trans}
use Rattle.cps_theory.specs.Separation.{Landing}
use Rattle.cps_theory.specs.Retiming.{IsFirstOpen, NeverEarlier}
use Rattle.cps_theory.specs.LandingTrail.{Landed, latest_landing, ranks}
use Rattle.cps_theory.specs.Feasible.{earliest}
use Rattle.cps_theory.specs.laws.OptionSteps.{bound, mapped}

-- no flight of the first list lands later than in the second
abbrev pub NoLater : List Landing → List Landing → Type 0
NoLater [] [] = Unit {0}
NoLater [] (y ∷ ys) = ⊥
NoLater (x ∷ xs) [] = ⊥
NoLater (x ∷ xs) (y ∷ ys) = (x.0 ≡ y.0) × (x.1 ≤ y.1) × NoLater xs ys

no_later_last : (xs ys : List Landing) → NoLater xs ys → ((latest_landing xs).0 ≡ (latest_landing ys).0)
    × ((latest_landing xs).1 ≤ (latest_landing ys).1)
no_later_last xs ys n = grind (arith, le_refl)

module _ (Open : ℕ → ℕ → Type 0) (first : ℕ → ℕ → Option ℕ) (after : ℕ → ℕ → ℕ
    → ℕ) (opens : IsFirstOpen Open first) where
  pub earliest_lands : (rs : List ℕ) (xs : List Landing) → earliest first after rs ≡ Some xs
      → Landed Open after xs × (ranks xs ≡ rs)
  earliest_lands (r ∷ rs) ys e = grind (arith, bound, mapped, earliest_lands rs)
  earliest_lands rs ys e = grind arith

  pub earliest_least : NeverEarlier after → (ys : List Landing) → Landed Open after ys
      → (xs : List Landing) × (earliest first after (ranks ys) ≡ Some xs) × NoLater xs ys
  earliest_least later [] l = ([], refl, tt)
  earliest_least later (y ∷ ys) l =
      let rest = earliest_least later ys l.2 in
      let n = no_later_last _ ys rest.2 in
      let start =
      le_trans (grind arith) l.1 in
      let f = opens.least y.0 (after (latest_landing rest.0).0 (latest_landing rest.0).1 y.0) y.1 l.0 start in (
        (y.0, f.0) ∷ rest.0,
        ap (option_and_then (λ xs. option_map _ _)) rest.1 ∙ ap (option_map _) f.1,
        (refl, f.2, rest.2),
      )
