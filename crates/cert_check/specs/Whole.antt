-- A certificate that leaves nothing out: the states are those where some prefix lands, each with exactly the
-- undominated pairs, and the landings are a best list, or there is none where nothing is feasible.
use Rattle.std.specs.Prelude.{◌≡◌, ◌≤◌, ◌↔◌, List, [], true, All, Contains}
use Rattle.landing_rules.specs.Problem.{Problem}
use Rattle.cps_theory.specs.Feasible.{next_from}
use Rattle.cps_theory.specs.Labels.{InPairs, NoWorse, Pair}
use Rattle.cps_theory.specs.LegalPrefix.{Legal}
use Rattle.cps_theory.specs.Network.{Attained, Undominated}
use Rattle.cps_theory.specs.Patterns.{PatternNode, pattern_node}
use Rattle.landing_joint.specs.RankedProblem.{ranked, cost_at}
use Rattle.certificate.specs.declared.certificate.Claim.{Claim}
use Rattle.certificate.specs.declared.certificate.Claim.TheVariants as claim
use Rattle.certificate.specs.States.{State, AreAscending, rises}
use Rattle.certificate.specs.Reading.{Cert}
use Rattle.cert_check.specs.Landings.{Landings}
use Rattle.cert_check.specs.Meaning.{IsShownOptimal, NothingIsFeasible}
use Rattle.cert_check.specs.States.{node_of, rules_of}

-- a legal prefix of this stage, placed set and last rank can land at open seconds that are late enough one after
-- another, the last of them at this second and all of them at this cost
abbrev pub Attains : Problem → PatternNode → Pair → Type 0
Attains p w q = Attained (λ r u. (ranked p).is_open r u ≡ true) (next_from (ranked p)) (cost_at p)
    (Legal (rules_of p)) (pattern_node (rules_of p)) w q

-- a state behind the start where some prefix lands, with exactly the undominated pairs that such prefixes land with;
-- each of these has one that is no later and no dearer; the seconds rise and the costs fall
pub record IsWholeState (p : Problem) (s : State) : Type 0 where
  pub begun : 1 ≤ s.stage
  pub landable : (q : Pair) × Attains p (node_of s) q
  pub undominated : (q : Pair) → InPairs q s.pairs ↔ Undominated (Attains p (node_of s)) q
  pub covers : (q : Pair) → Attains p (node_of s) q → (o : Pair) × InPairs o s.pairs × NoWorse o q
  pub rising : rises s.pairs ≡ true

-- some state has this node
abbrev pub HasNode : List State → PatternNode → Type 0
HasNode ss w = (s : State) × Contains ss s × (node_of s ≡ w)

-- the states, in strictly ascending order, are exactly those behind the start where some prefix lands
pub record AreWholeStates (p : Problem) (ss : List State) : Type 0 where
  pub each : All (IsWholeState p) ss
  pub every : (w : PatternNode) (q : Pair) → 1 ≤ w.0 → Attains p w q → HasNode ss w
  pub ascending : AreAscending ss

-- the landings are a best list with the claimed objective; or there is none, and nothing is feasible
abbrev pub IsAnswered : Problem → Claim → Landings → Type 0
IsAnswered p (claim.Optimal v) ls = IsShownOptimal p ls v
IsAnswered p claim.Infeasible ls = (ls ≡ []) × NothingIsFeasible p

-- a certificate that leaves nothing out
pub record IsWhole (p : Problem) (c : Cert) : Type 0 where
  pub answer : IsAnswered p c.claim c.landings
  pub states : AreWholeStates p c.states
