-- The latest of landed flights waited for what it must wait for as the first.
use Rattle.std.proofs.Common.{◌≡◌, ℕ, zero, suc, ◌≤◌, List, [], ◌∷◌, refl, arith}
use Rattle.std.proofs.lemmas.Bool.{false≢true}
use Rattle.cps_theory.specs.Feasible.{RankedProblem, next_from}
use Rattle.cps_theory.specs.LandingTrail.{latest_landing}
use Rattle.cps_theory.specs.ProblemNetwork.{LandedIn}
use Rattle.cps_theory.specs.Separation.{Landing}
use Rattle.landing_joint.specs.RankedProblem.{ranked, start_at}
use Rattle.landing_rules.specs.Problem.{Problem}
use Rattle.landing_rules.specs.Rules.{last_second}
use Rattle.stage_landings.specs.Reach.{IsLatest}

start_low : (q : RankedProblem) (l u r : ℕ) → q.start r ≤ next_from q l u r
start_low q zero u r = omega arith
start_low q (suc l) u r = omega arith

-- rank 0 never lands
lands_some : (p : Problem) (r t : ℕ) (xs : List Landing) → LandedIn (ranked p) ((r, t) ∷ xs) → r ≡ 0 → t ≡ 0
lands_some p zero t xs landed e = absurd (false≢true landed.0)
lands_some p (suc r) t xs landed e = absurd (omega (arith, e))

lands_started : (p : Problem) (r t : ℕ) (xs : List Landing) → LandedIn (ranked p) ((r, t) ∷ xs) → start_at p r ≤ t
lands_started p r t xs landed =
    let low = start_low (ranked p) (latest_landing xs).0 (latest_landing xs).1 r in
    omega (arith, low, landed.1)

pub is_latest : (p : Problem) (xs : List Landing) → LandedIn (ranked p) xs → (latest_landing xs).1 ≤ last_second
    → IsLatest p (latest_landing xs).0 (latest_landing xs).1
is_latest p [] landed low = record {
  none = λ e. refl;
  started = λ one. absurd (omega (arith, one));
  in_days = low;
}
is_latest p (x ∷ xs) landed low = record {
  none = lands_some p x.0 x.1 xs landed;
  started = λ one. lands_started p x.0 x.1 xs landed;
  in_days = low;
}
