-- The objective of a schedule by its greatest second or its sum.
use Rattle.std.proofs.Common.{◌≡◌, ℕ, ◌+◌, false, List, [], ◌∷◌, length, refl, sym}
use Rattle.std.specs.Prelude.{nat_eq}
use Rattle.std.proofs.lemmas.Bool.{true≢false}
use Rattle.landing_rules.specs.declared.objective.Objective.TheVariants.{Makespan, Delay}
use Rattle.landing_rules.specs.Flights.{Schedule}
use Rattle.landing_rules.specs.Problem.{Problem, Waiting, list_objective}
use Rattle.cps_theory.specs.RankLists.{of_rank, upto}
use Rattle.cps_theory.specs.Feasible.{greatest, total}
use Rattle.landing_joint.specs.RankedProblem.{cost_at, makespan_by}
use Rattle.landing_joint.specs.shared.BestLists.{list_value}

some_waiting : (fs : List Waiting) (p : Problem) (t : ℕ) → nat_eq (length fs) 0 ≡ false → makespan_by fs p t ≡ t
some_waiting [] p t e = absurd (true≢false e)
some_waiting (f ∷ fs) p t e = refl

pub makespan_value : (p : Problem) (s : Schedule) → p.objective ≡ Makespan → length s ≡ length p.flights
    → nat_eq (length p.flights) 0 ≡ false → greatest (of_rank 0 s) (length s) ≡ list_objective p s
makespan_value p s o long some = rw (list_value p s long, o, long) (sym (some_waiting p.flights _ _ some))

pub delay_value : (p : Problem) (s : Schedule) (costs : ℕ) → p.objective ≡ Delay → length s ≡ length p.flights
    → costs ≡ total (λ r. cost_at p r (of_rank 0 s r)) (upto (length p.flights)) → p.base + costs ≡ list_objective p s
delay_value p s costs o long e = rw (e, list_value p s long, o) refl
