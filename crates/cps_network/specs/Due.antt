-- The candidates of a problem's stages, and how many of them are due where some of its stages are held already.
use Rattle.std.specs.Prelude.{◌≡◌, ℕ, ℤ, zero, suc, ◌+◌, ◌*◌, ◌≤◌, ◌↔◌, Bool, true, false, leb, List, length, Option}
use Rattle.std.specs.Prelude.{Some, None, Contains}
use Rattle.cps_theory.specs.Agreement.{counts}
use Rattle.landing_rules.specs.Problem.{Problem}
use Rattle.cps_problem.specs.FirstDifference.{IsFirstDifference}
use Rattle.cps_network.specs.Landable.{IsCandidate}
use Rattle.cps_network.specs.Lists.{IsAscending}

-- the stage after one has so many candidates
pub record HasCandidates (p : Problem) (stage count : ℕ) : Type 0 where
  pub candidates : List (List ℤ)
  pub ascending : IsAscending candidates
  pub each : (xs : List ℤ) → Contains candidates xs ↔ IsCandidate p stage xs
  pub counted : length candidates ≡ count

-- the same where that stage counts, and 0 where it does not
abbrev pub HasCandidatesIf : Bool → Problem → ℕ → ℕ → Type 0
HasCandidatesIf true p stage count = HasCandidates p stage count
HasCandidatesIf false p stage count = count ≡ 0

-- those of the stages 1 to n that pass a test have so many candidates together
abbrev pub HasCandidatesWhere : (ℕ → Bool) → Problem → ℕ → ℕ → Type 0
HasCandidatesWhere test p zero total = total ≡ 0
HasCandidatesWhere test p (suc n) total = (count : ℕ) × (before : ℕ) × HasCandidatesIf (test (suc n)) p n count
    × HasCandidatesWhere test p n before × (total ≡ before + count)

-- all of the stages 1 to n have so many candidates together
abbrev pub HasCandidatesUpto : Problem → ℕ → ℕ → Type 0
HasCandidatesUpto p n total = HasCandidatesWhere (λ _. true) p n total

-- the stages from a number on, up to n, have so many candidates together
abbrev pub HasCandidatesFrom : ℕ → Problem → ℕ → ℕ → Type 0
HasCandidatesFrom first p n total = HasCandidatesWhere (leb first) p n total

-- so many steps are due for a problem where another is held with all its stages, or none is: the candidates of the
-- stages that are not below the first difference less k, or were not held
abbrev pub IsDue : Option Problem → Problem → ℕ → Type 0
IsDue None p total = HasCandidatesWhere (counts 1 p.k 0) p (length p.flights) total
IsDue (Some held) p total = (d : ℕ) × IsFirstDifference held p d
    × HasCandidatesWhere (counts d p.k (length held.flights)) p (length p.flights) total

-- what is due are the candidates of the stages from a number on
abbrev pub IsDueFrom : Option Problem → Problem → ℕ → Type 0
IsDueFrom held p first = (total : ℕ) → HasCandidatesFrom first p (length p.flights) total → IsDue held p total

-- they are at most b for each flight
abbrev pub DueIsBounded : Problem → ℕ → Type 0
DueIsBounded p b = (held : Option Problem) (total : ℕ) → IsDue held p total → total ≤ length p.flights * b
