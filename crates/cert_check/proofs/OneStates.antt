-- The states that leave nothing out are one for a situation: what a node attains asks of the pairs of ranks only
-- whether a rank must land before another.
use Rattle.std.proofs.Common.{◌≡◌, ℕ, List, Bool, true, ◌-◌, length, subst, sym}
use Rattle.precedence.specs.Pairs.{must_precede}
use Rattle.landing_rules.specs.Problem.{Problem}
use Rattle.cps_theory.specs.Feasible.{RankedProblem, next_from}
use Rattle.cps_theory.specs.Labels.{Pair}
use Rattle.cps_theory.specs.LegalPrefix.{Legal}
use Rattle.cps_theory.specs.Network.{Attained, Undominated}
use Rattle.cps_theory.specs.Patterns.{PatternNode, pattern_node}
use Rattle.cps_theory.specs.RankLists.{of_rank}
use Rattle.landing_joint.specs.RankedProblem.{apart_at, cost_at, no_waiting, ranked, start_at}
use Rattle.certificate.specs.States.{State}
use Rattle.cert_check.specs.Situations.{OneStatesLaw}
use Rattle.cert_check.specs.States.{node_of}
use Rattle.cert_check.specs.Whole.{AreWholeStates, Attains, IsWholeState}
use Rattle.cps_problem.specs.shared.OneProblem.{same_but_pairs, same_order, with_pairs}
use Rattle.cert_check.proofs.WholeUnique.{whole_is_unique}

module _ (p : Problem) (xs : List ℕ) (same : must_precede xs ≡ must_precede p.pairs) where
  abbrev q : Problem
  q = with_pairs p xs

  -- the problem by rank, by that test
  abbrev ranked_by : (ℕ → ℕ → Bool) → RankedProblem
  ranked_by before = record {
    rules = record {
      count = length p.flights;
      most = p.k;
      back = λ r. p.k - (of_rank no_waiting p.flights r).passed;
      before = before;
    };
    is_open = (ranked p).is_open;
    start = start_at p;
    apart = apart_at p;
  }

  abbrev attains_by : (ℕ → ℕ → Bool) → PatternNode → Pair → Type 0
  attains_by before w x = Attained (λ r u. (ranked p).is_open r u ≡ true) (next_from (ranked_by before))
      (cost_at p) (Legal (ranked_by before).rules) (pattern_node (ranked_by before).rules) w x

  there : (w : PatternNode) (x : Pair) → Attains q w x → Attains p w x
  there w x = subst (λ (before : ℕ → ℕ → Bool). attains_by before w x) same

  back : (w : PatternNode) (x : Pair) → Attains p w x → Attains q w x
  back w x = subst (λ (before : ℕ → ℕ → Bool). attains_by before w x) (sym same)

  undominated_there : (w : PatternNode) (x : Pair) → Undominated (Attains q w) x → Undominated (Attains p w) x
  undominated_there w x h = record { attained = there w x h.attained; best = λ y a le. h.best y (back w y a) le }

  undominated_back : (w : PatternNode) (x : Pair) → Undominated (Attains p w) x → Undominated (Attains q w) x
  undominated_back w x h = record { attained = back w x h.attained; best = λ y a le. h.best y (there w y a) le }

  state_there : (s : State) → IsWholeState q s → IsWholeState p s
  state_there s h = record {
    begun = h.begun;
    landable = (h.landable.0, there (node_of s) h.landable.0 h.landable.1);
    undominated = λ x. (
      λ i. undominated_there (node_of s) x ((h.undominated x).0 i),
      λ u. (h.undominated x).1 (undominated_back (node_of s) x u),
    );
    covers = λ x a. h.covers x (back (node_of s) x a);
    rising = h.rising;
  }

  pub states_there : (ss : List State) → AreWholeStates q ss → AreWholeStates p ss
  states_there ss h = record {
    each = λ i d lt. state_there _ (h.each i d lt);
    every = λ w x one a. h.every w x one (back w x a);
    ascending = h.ascending;
  }

pub one_states : OneStatesLaw
one_states s p q ss ts h k wp wq = whole_is_unique q ss ts (states_there q p.pairs
    (same_order s p q h k) ss (subst (λ (x : Problem). AreWholeStates x ss) (same_but_pairs s p q h k) wp)) wq
