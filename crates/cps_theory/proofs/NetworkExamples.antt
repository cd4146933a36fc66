-- Examples of networks: what the nodes of two flights attain, and what the start keeps and completes where nobody
-- waits.
use Rattle.std.proofs.Common.{max, ◌≤◌, ◌≡◌, ℕ, inl, inr, List, [], ◌∷◌, true, false, Option, Some, leb, zero-le}
use Rattle.std.proofs.Common.{refl, ap, arith}
use Rattle.std.proofs.lemmas.Bool.{false≢true, leb-true}
use Rattle.cps_theory.specs.RankLists.{IsRank}
use Rattle.cps_theory.specs.Labels.{InPairs}
use Rattle.cps_theory.specs.LegalPrefix.{Legal}
use Rattle.cps_theory.specs.Patterns.{PatternNode, PatternPermits, pattern_newest, pattern_node, pattern_push}
use Rattle.cps_theory.specs.ClosedSets.{ClosedPairs}
use Rattle.cps_theory.specs.Feasible.{Feasible, LandsAllRanks, RankedProblem, next_from}
use Rattle.cps_theory.specs.ProblemNetwork.{FindsFirstOpen, IsClosedCertificate, IsObjective, LandedIn}
use Rattle.cps_theory.specs.CompletingPairs.{Choice, KeptCompleting, LeastChoices, NoEarlierNoDearer, NoGreaterOrder}
use Rattle.cps_theory.specs.CompletingPairs.{OrderWithinBudget, onto}
use Rattle.cps_theory.specs.FirstBest.{Ascends, BuiltByNodes, CompletesNode, FirstBest, InLandingOrder, ListsCompleting}
use Rattle.cps_theory.specs.FirstBest.{ReachedIn}
use Rattle.cps_theory.proofs.NodeExamples.{two}
use Rattle.cps_theory.proofs.ScheduleExamples.{pair_of_flights, in_rank_order}

in_order_legal : Legal two (2 ∷ 1 ∷ [])
in_order_legal = grind (arith, false≢true)

pattern_reached : ReachedIn pair_of_flights (pattern_node two (2 ∷ 1 ∷ [])) 1200
pattern_reached = record {
  landings = (2, 1060) ∷ (1, 1000) ∷ [];
  legal = in_order_legal;
  landed = grind arith;
  at = refl;
  by = omega arith;
}

-- ---- nobody waits

abbrev nobody : RankedProblem
nobody = record {
  rules = record { count = 0; most = 1; back = λ r. 1; before = λ a r. false };
  is_open =
      λ r u. true;
  start = λ r. 0;
  apart = λ q r. 60;
}

abbrev at_once : ℕ → ℕ → Option ℕ
at_once r t = Some t

no_rank : (r : ℕ) → IsRank 0 r → ⊥
no_rank r i = absurd (omega arith)

finds_open : FindsFirstOpen nobody at_once
finds_open = record {
  found = λ r t u e. (refl, let s : t ≡ u = cc in omega arith);
  least = search;
}

closed_certificate : IsClosedCertificate nobody at_once (λ r t. 0) (λ w. (0, 0) ∷ [])
closed_certificate = record { start = inl refl; step = λ w r p q l m e. absurd (omega arith) }

closed_pairs : ClosedPairs at_once (next_from nobody) (λ r t. 0) (Legal nobody.rules) (λ rs q. InPairs q ((0, 0) ∷ []))
closed_pairs = record { start = inl refl; step = λ r rs l p q i e. absurd (omega arith) }

last_second_is_objective : IsObjective (λ q. q.0)
last_second_is_objective = λ a b le. le.0

start_completes : CompletesNode nobody (λ r t. 0) (λ t. true) (pattern_node nobody.rules []) (0, 0)
start_completes = grind (arith, zero-le)

lists_completing : ListsCompleting nobody (λ r t. 0) (λ t. true) (λ w. [])
lists_completing = λ rs r l. absurd (omega arith)

built_of_none : BuiltByNodes nobody at_once (λ r t. 0) (λ w. []) 0 []
built_of_none = tt

feasible_none : (t : ℕ → ℕ) → Feasible nobody t
feasible_none t = grind (arith, no_rank)

first_best_none : (t : ℕ → ℕ) → FirstBest nobody (λ u. 0) t
first_best_none t = record {
  best = record { feasible = feasible_none t; least = λ u f. zero-le };
  tight = record { feasible = feasible_none t; least = λ u f s r i. absurd (no_rank r i) };
  least = λ u b tight qs os q o. none qs os q;
}
  where
    none : (qs os : List ℕ) → InLandingOrder 0 t qs → NoGreaterOrder qs os
    none [] os q = tt
    none (x ∷ qs) os q = absurd (no_rank x (q.ranked x (inl refl)))

-- ---- orders, earliest first

behind_each_other : onto {A = ℕ} (3 ∷ 1 ∷ []) (2 ∷ []) ≡ 1 ∷ 3 ∷ 2 ∷ []
behind_each_other = refl

smaller_at_second : NoGreaterOrder (1 ∷ 2 ∷ []) (1 ∷ 3 ∷ [])
smaller_at_second = inr (refl, inl (omega arith))

later_and_cheaper : NoEarlierNoDearer (1010, 3) (1000, 5)
later_and_cheaper = omega arith

-- ---- more of the two flights

lands_all : LandsAllRanks pair_of_flights in_rank_order (2 ∷ 1 ∷ [])
lands_all = record { legal = in_order_legal; whole = refl; landed = (refl, omega arith, (refl, omega arith, tt)) }

landed_in : LandedIn pair_of_flights ((2, 1060) ∷ (1, 1000) ∷ [])
landed_in = (refl, omega arith, (refl, omega arith, tt))

ascends : Ascends in_rank_order (1 ∷ 2 ∷ [])
ascends = ((λ y i. elim i [ inl e ↦ (omega (arith, ap in_rank_order e)) | inr j ↦ absurd j ]), ((λ y i. absurd i), tt))

abbrev first : ℕ → ℕ → Option ℕ
first r t = Some (max t 1000)

-- rank 1 may be chosen first, where a kept pair lets the rest land by 1000
choose_one : Choice PatternNode first (next_from pair_of_flights) (λ r t. 0) (PatternPermits two)
    (pattern_push two) pattern_newest (λ w q. InPairs q ((1000, 0) ∷ [])) 0 (pattern_node two []) (0, 0) 1 1000
choose_one = record {
  permitted = grind arith;
  found = refl;
  can_end = ((1000, 0), inl refl, omega arith, omega arith);
}

-- where no second after 0 is allowed, the start keeps one completing pair
completing_kept : KeptCompleting (CompletesNode nobody (λ r t. 0) (λ t. leb t 0) (pattern_node nobody.rules []))
    (λ q. InPairs q ((0, 0) ∷ []))
completing_kept = record {
  completes = grind arith;
  covers = λ q c. ((0, 0), inl refl, (leb-true q.0 0 c.low, zero-le));
}

no_choices : LeastChoices PatternNode at_once (next_from nobody) (λ r t. 0) (PatternPermits nobody.rules)
    (pattern_push nobody.rules) pattern_newest (λ w. w.0 ≡ 0) (λ w q. InPairs q []) 0 (pattern_node nobody.rules [])
    (0, 0) []
no_choices = refl

order_of_none : OrderWithinBudget at_once (next_from nobody) (λ r t. 0) (Legal nobody.rules)
    (pattern_node nobody.rules) (λ w. w.0 ≡ 0) (λ t. t ≤ 0) 0 []
order_of_none = record { legal = tt; final = refl; landings = []; earliest_is = refl; low = tt; cheap = omega arith }
