-- What holds of certificates that leave nothing out.
use Rattle.std.specs.Prelude.{◌≡◌, ℕ, ◌≤◌, ◌<◌, List, All, length, map, reverse, true}
use Rattle.std.specs.List.{list_all}
use Rattle.cps_base.specs.Limits.{greatest_word}
use Rattle.landing_rules.specs.Flights.{Schedule}
use Rattle.landing_rules.specs.Problem.{Problem, IsBestList, list_objective}
use Rattle.cps_theory.specs.RankLists.{Distinct, IsRank, of_rank}
use Rattle.cps_theory.specs.Labels.{InPairs}
use Rattle.cps_theory.specs.Network.{Kept}
use Rattle.cps_problem.specs.WellFormed.{IsWellFormed}
use Rattle.certificate.specs.declared.certificate.Claim.{Claim}
use Rattle.certificate.specs.declared.certificate.Claim.TheVariants as claim
use Rattle.certificate.specs.States.{State, AreStates, is_pair, rises}
use Rattle.certificate.specs.Reading.{Cert}
use Rattle.cert_check.specs.declared.verdict.Verdict.{Verdict}
use Rattle.cert_check.specs.declared.verdict.Verdict.TheVariants as verdict
use Rattle.cert_check.specs.Landings.{Landings, count, flight}
use Rattle.cert_check.specs.Meaning.{IsShownOptimal}
use Rattle.cert_check.specs.States.{node_of}
use Rattle.cert_check.specs.Verdict.{verdict_of}
use Rattle.cert_check.specs.Whole.{Attains, IsWholeState, AreWholeStates, IsWhole}

-- what is claimed, as a verdict
abbrev pub claimed : Claim → Verdict
claimed (claim.Optimal v) = verdict.Optimal v
claimed claim.Infeasible = verdict.Infeasible

-- a certificate that leaves nothing out is accepted
abbrev pub WholeIsAcceptedLaw : Type 0
WholeIsAcceptedLaw = (p : Problem) (c : Cert) → IsWellFormed p → IsWhole p c → verdict_of p c ≡ claimed c.claim

-- pairs of which each is attained, and of which each attained pair has one that is no later and no dearer, are exactly
-- the undominated ones, where their seconds rise and their costs fall
abbrev pub KeptIsWholeLaw : Type 0
KeptIsWholeLaw = (p : Problem) (s : State) → 1 ≤ s.stage → 1 ≤ length s.pairs
    → Kept (Attains p (node_of s)) (λ q. InPairs q s.pairs)
    → rises s.pairs ≡ true → IsWholeState p s

-- a problem has one list of states that leaves nothing out
abbrev pub WholeIsUniqueLaw : Type 0
WholeIsUniqueLaw = (p : Problem) (ss ts : List State) → AreWholeStates p ss → AreWholeStates p ts → ss ≡ ts

-- its states keep the form of a certificate's, where their pairs are in range
abbrev pub WholeIsInFormLaw : Type 0
WholeIsInFormLaw = (p : Problem) (ss : List State) → IsWellFormed p → AreWholeStates p ss
    → All (λ s. list_all is_pair s.pairs ≡ true) ss
    → AreStates ss × (length ss < greatest_word)

-- the landings of an order of ranks at the seconds of a list
abbrev pub landings_in : Problem → Schedule → List ℕ → Landings
landings_in p t order = map (λ r. ((flight p r).callsign, of_rank 0 t r)) order

-- the landings of a best list in an order that has each rank once, whichever comes first, are shown optimal
abbrev pub BestOrderIsShownLaw : Type 0
BestOrderIsShownLaw = (p : Problem) (t : Schedule) (order : List ℕ) → IsWellFormed p → IsBestList p t
    → length order ≡ count p → All (IsRank (count p)) order → Distinct (reverse order)
    → IsShownOptimal p (landings_in p t order) (list_objective p t)
