-- A landing behind the latest: the separation alone counts, since the latest itself waited for the horizon and for the
-- frozen ones.
use Rattle.std.proofs.Common.{◌≡◌, ℕ, zero, suc, ◌+◌, ◌%◌, ◌<◌, ◌≤◌, max, List, Option, Some, None, refl, sym, subst, arith}
use Rattle.std.specs.Prelude.{slice_index, slice_index_or}
use Rattle.wake_table.specs.declared.category.Category.{Category}
use Rattle.wake_table.specs.Table.{separation, IsWakeTable}
use Rattle.landing_rules.specs.Problem.{Problem}
use Rattle.cps_theory.specs.Feasible.{RankedProblem, next_from}
use Rattle.cps_theory.specs.RankLists.{of_rank}
use Rattle.landing_joint.specs.RankedProblem.{no_waiting, ranked, after_last, first_at}
use Rattle.landing_joint.specs.RankedProblem.{landing_after}
use Rattle.stage_landings.specs.declared.follower.Follower.{Follower}
use Rattle.stage_landings.specs.Followers.{AreFollowers, IsApart, IsFirstSpan}
use Rattle.stage_landings.specs.Reach.{IsInReach, IsLatest, MayLead}

by_triangle : (table : List (List ℕ)) (horizon second : ℕ) (last : Option (ℕ × Category)) (l r : Category)
    → IsWakeTable table
    → max horizon (after_last table last l) ≤ second
    → max horizon (after_last table last r) ≤ second + separation table l r
by_triangle table horizon second None l r is le = omega (arith, le)
by_triangle table horizon second (Some c) l r is le = let t = is.triangle c.1 l r in omega (arith, le, t)

pub ready_is : (p : Problem) (leader second rank seconds : ℕ) → IsWakeTable p.table → IsLatest p leader second
    → IsApart p leader rank seconds → second + seconds ≡ next_from (ranked p) leader second rank
ready_is p zero second rank seconds table latest is =
    let none = latest.none refl in
    let first = is.first refl in
    omega (arith, none, first)
ready_is p (suc l) second rank seconds table latest is =
    let behind = is.behind (omega arith) in
    let t = by_triangle p.table p.horizon second p.last (of_rank no_waiting p.flights (suc l)).category
    (of_rank no_waiting p.flights rank).category table (latest.started (omega arith)) in
    omega (arith, behind, t)

start_low : (q : RankedProblem) (l u r : ℕ) → q.start r ≤ next_from q l u r
start_low q zero u r = omega arith
start_low q (suc l) u r = omega arith

-- ready before the end of the first span, a rank lands then or at the first second of it
pub lands_in_span : (p : Problem) (leader second rank ready : ℕ) (span : ℕ × ℕ) → IsFirstSpan p rank span
    → ready ≡ next_from (ranked p) leader second rank → ready < span.1
    → Some (max ready span.0) ≡ landing_after p leader second rank
lands_in_span p leader second rank ready span is e lt =
    let low = start_low (ranked p) leader second rank in
    sym (subst (λ (t : ℕ). first_at p rank t ≡ Some (max ready span.0)) e
    (is.lands ready (omega (arith, e, low)) lt))

-- what is known of a rank stands at its place
pub apart_there : (p : Problem) (number : ℕ) (followers : List Follower) (rank leader place at : ℕ) (d : Follower)
    → AreFollowers p number followers → IsInReach p number rank → MayLead p number leader → place ≡ rank % 8
    → at ≡ leader % 8 → IsApart p leader rank (slice_index (slice_index_or followers place d).apart at)
apart_there p number followers rank leader place at d are reach may place_is at_is =
    let one = (are.each rank d reach).apart.each leader may in
    subst (λ (n : ℕ). IsApart p leader rank (slice_index (slice_index_or followers place d).apart n)) (sym at_is)
    (subst (λ (n : ℕ). IsApart p leader rank (slice_index (slice_index_or followers n d).apart (leader % 8)))
    (sym place_is) one)
