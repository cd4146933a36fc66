-- Which seconds a prefix of flights may land with, pair by pair over the whole prefix.
use Rattle.std.specs.Prelude.{◌≡◌, ℕ, ℤ, ◌+◌, ◌≤◌, ◌↔◌, List, All, AllPairs, MatchOption, IsTrue, ⊤}
use Rattle.std.specs.List.{list_any}
use Rattle.wake_table.specs.declared.category.Category.{Category}
use Rattle.wake_table.specs.Table.{separation}
use Rattle.landing_rules.specs.Rules.{is_within}
use Rattle.landing_rules.specs.Problem.{Problem}
use Rattle.cps_theory.specs.Labels.{Pair}
use Rattle.cps_theory.specs.LandingTrail.{pair_of, ranks}
use Rattle.cps_theory.specs.LegalPrefix.{Legal}
use Rattle.cps_theory.specs.ProblemNetwork.{LandedIn}
use Rattle.cps_theory.specs.RankLists.{of_rank}
use Rattle.cps_theory.specs.Separation.{Landing}
use Rattle.landing_joint.specs.RankedProblem.{no_waiting, ranked, cost_at}
use Rattle.cps_network.specs.Landable.{Attains}
use Rattle.cps_network.specs.Nodes.{node_of}

abbrev pub category_of : Problem → ℕ → Category
category_of p rank = (of_rank no_waiting p.flights rank).category

-- the second is open for the flight
abbrev pub IsOpenLanding : Problem → Landing → Type 0
IsOpenLanding p x = IsTrue (list_any (is_within x.1) (of_rank no_waiting p.flights x.0).open_spans)

-- it keeps the separation after the last frozen landing, where there is one
abbrev pub IsAfterFrozen : Problem → Landing → Type 0
IsAfterFrozen p x = MatchOption p.last ⊤ (λ l. l.0 + separation p.table l.1 (category_of p x.0) ≤ x.1)

-- it keeps the separation after an earlier one
abbrev pub IsSeparatedFrom : Problem → Landing → Landing → Type 0
IsSeparatedFrom p later earlier =
    earlier.1 + separation p.table (category_of p earlier.0) (category_of p later.0) ≤ later.1

-- a prefix, the latest landing first, lands with these seconds: each is open for its flight, at or after the horizon,
-- and keeps the separation after the last frozen landing and after every earlier one of the prefix
pub record LandsWith (p : Problem) (landings : List Landing) : Type 0 where
  pub opened : All (IsOpenLanding p) landings
  pub from_horizon : All (λ x. p.horizon ≤ x.1) landings
  pub after_frozen : All (IsAfterFrozen p) landings
  pub separated : AllPairs (IsSeparatedFrom p) landings

-- to land late enough after the landing before alone is to land so after every earlier one
abbrev pub NeighboursSuffice : Problem → Type 0
NeighboursSuffice p = (landings : List Landing) → Legal (ranked p).rules (ranks landings)
    → LandedIn (ranked p) landings ↔ LandsWith p landings

-- a legal prefix ends in this window of a stage and lands with seconds of which this is the pair: the last of them, and
-- what these landings cost together
pub record LandsInWindow (p : Problem) (stage : ℕ) (xs : List ℤ) (q : Pair) : Type 0 where
  pub landings : List Landing
  pub legal : Legal (ranked p).rules (ranks landings)
  pub lands : LandsWith p landings
  pub ends : node_of p.k (ranks landings) ≡ (stage, xs)
  pub pair : pair_of (cost_at p) landings ≡ q

-- a window attains exactly the pairs of such prefixes
abbrev pub AttainsByPrefixes : Problem → Type 0
AttainsByPrefixes p = (stage : ℕ) (xs : List ℤ) (q : Pair) → Attains p stage xs q ↔ LandsInWindow p stage xs q
