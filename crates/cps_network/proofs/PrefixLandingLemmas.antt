-- Landings that keep the separation after the one before keep it after every earlier one, and back.
use Rattle.std.proofs.Common.{[], zero, suc, ◌+◌, ◌≤◌, List, ◌∷◌, get_or, AllPairs, arith}
use Rattle.std.specs.Prelude.{All}
use Rattle.std.proofs.lemmas.List.Elements.{All-nil, All-cons, All-head, All-tail}
use Rattle.wake_table.specs.Table.{separation, IsWakeTable}
use Rattle.landing_rules.specs.Problem.{Problem}
use Rattle.cps_theory.specs.Feasible.{next_from}
use Rattle.cps_theory.specs.LandingTrail.{latest_landing, ranks}
use Rattle.cps_theory.specs.LegalPrefix.{Legal}
use Rattle.cps_theory.specs.ProblemNetwork.{LandedIn}
use Rattle.cps_theory.specs.Separation.{Landing}
use Rattle.landing_joint.specs.RankedProblem.{ranked, start_at}
use Rattle.cps_network.specs.PrefixLandings.{category_of, IsOpenLanding, IsAfterFrozen, IsSeparatedFrom, LandsWith}
use Rattle.cps_network.specs.PrefixLandings.{NeighboursSuffice, AttainsByPrefixes}

module _ (p : Problem) where
  module _ (table : IsWakeTable p.table) where
    -- by way of the landing before
    by_way_of : (x y : Landing) (xs : List Landing) → IsSeparatedFrom p x y → All (IsSeparatedFrom p y) xs
        → All (IsSeparatedFrom p x) xs
    by_way_of x y xs near all k d lt =
        let a : (get_or xs k d).1 + separation p.table (category_of p (get_or xs k d).0) (category_of p y.0) ≤ y.1 =
        all k d lt in
        let b = table.triangle (category_of p (get_or xs k d).0) (category_of p y.0) (category_of p x.0) in
        omega (arith, near)

    behind_each : (x : Landing) (xs : List Landing) → Legal (ranked p).rules (ranks xs)
        → next_from (ranked p) (latest_landing xs).0 (latest_landing xs).1 x.0 ≤ x.1 → AllPairs (IsSeparatedFrom p) xs
        → All (IsSeparatedFrom p x) xs
    behind_each x [] legal late all = All-nil (IsSeparatedFrom p x)
    behind_each x (y ∷ ys) legal late all =
        let near : IsSeparatedFrom p x y = grind (arith, legal.0.fits.from_one) in
        All-cons (IsSeparatedFrom p x) y ys near
        (by_way_of x y ys near (λ k d lt. all zero (suc k) d (omega arith) (omega arith)))

    lands_with : (xs : List Landing) → Legal (ranked p).rules (ranks xs) → LandedIn (ranked p) xs → LandsWith p xs
    lands_with [] legal landed = grind arith
    lands_with (x ∷ xs) legal landed =
        let rest = lands_with xs legal.1 landed.2 in
        let start : start_at p x.0 ≤ x.1 = grind arith in grind (arith, behind_each)

    later : (x : Landing) (xs : List Landing) → LandsWith p (x ∷ xs) → LandsWith p xs
    later x xs lands = record {
      opened = All-tail (IsOpenLanding p) x xs lands.opened;
      from_horizon = All-tail (λ (y : Landing). p.horizon ≤ y.1) x xs lands.from_horizon;
      after_frozen = All-tail (IsAfterFrozen p) x xs lands.after_frozen;
      separated = λ i j d lt le. lands.separated (suc i) (suc j) d (omega arith) (omega arith);
    }

    landed_in : (xs : List Landing) → LandsWith p xs → LandedIn (ranked p) xs
    landed_in [] lands = tt
    landed_in (x ∷ []) lands = grind (arith, All-head)
    landed_in (x ∷ (y ∷ ys)) lands =
        let far : IsSeparatedFrom p x y = lands.separated 0 1 x (omega arith) (omega arith) in
        grind (arith, All-head, landed_in (y ∷ ys) (later x (y ∷ ys) lands))

    pub neighbours_suffice : NeighboursSuffice p
    neighbours_suffice xs legal = (lands_with xs legal, landed_in xs)

    pub attains_by_prefixes : AttainsByPrefixes p
    attains_by_prefixes stage xs q = (
      λ a. grind (arith, lands_with),
      λ l. grind (arith, landed_in),
    )
