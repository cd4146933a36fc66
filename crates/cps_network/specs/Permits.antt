-- Which ranks may land next after a window, and the windows that then follow.
use Rattle.std.specs.Prelude.{◌≡◌, ℕ, ℤ, pos, ◌+◌, ◌≤◌, ◌↔◌, List, length, Contains}
use Rattle.precedence.specs.Pairs.{MustPrecede}
use Rattle.cps_nodes.specs.Windows.{Accepts, IsPlaced, shifted}
use Rattle.cps_nodes.specs.Laws.{offset_after}
use Rattle.cps_nodes.specs.Windows.{IsWindow}
use Rattle.cps_nodes.specs.Leads.{TailMeetsHead}
use Rattle.landing_rules.specs.Problem.{Problem}
use Rattle.cps_problem.specs.Seen.{passed_at}

-- a rank is permitted after a window of a stage: it is 1 to n, it lands at most k places before its own, and at most k
-- less the flights that passed it behind it; the window accepts its offset, and each of its predecessors is placed
pub record IsPermitted (p : Problem) (stage : ℕ) (xs : List ℤ) (rank : ℕ) : Type 0 where
  pub from_one : 1 ≤ rank
  pub to_count : rank ≤ length p.flights
  pub early : rank ≤ stage + 1 + p.k
  pub late : stage + 1 + passed_at p rank ≤ rank + p.k
  pub accepted : Accepts xs (offset_after stage rank)
  pub after : (first : ℕ) → MustPrecede p.pairs first rank → IsPlaced xs (pos stage) (pos first)

-- a window extends another, of a stage, by a permitted rank
abbrev pub IsSuccessor : Problem → ℕ → List ℤ → List ℤ → Type 0
IsSuccessor p stage xs next = (rank : ℕ) × IsPermitted p stage xs rank × (next ≡ shifted xs (offset_after stage rank))

-- the windows that extend one of a stage by a permitted rank, and no others
abbrev pub IsNextOf : Problem → ℕ → List (List ℤ) → List (List ℤ) → Type 0
IsNextOf p stage before after = (next : List ℤ) → Contains after next
    ↔ ((window : List ℤ) × Contains before window × IsSuccessor p stage window next)

-- where one window of a stage extends to another by a permitted rank, so does each window that leads to it
abbrev pub LeadAlike : Problem → ℕ → Type 0
LeadAlike p width = (stage : ℕ) (xs ys next : List ℤ) → IsWindow width xs → IsWindow width ys
    → TailMeetsHead ys next → IsSuccessor p stage xs next → IsSuccessor p stage ys next
