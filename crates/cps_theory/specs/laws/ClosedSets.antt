-- Closed sets of pairs have one no later and no dearer for every landing of every legal prefix.
use Rattle.std.proofs.Common.{arith}
use Rattle.std.proofs.Common.{true, ◌≡◌, ℕ, ◌≤◌, List, [], length, Option, Some, sym, subst}
use Rattle.cps_theory.specs.Separation.{Landing}
use Rattle.cps_theory.specs.Retiming.{IsFirstOpen, NeverEarlier}
use Rattle.cps_theory.specs.LandingTrail.{Landed, pair_of, ranks}
use Rattle.cps_theory.specs.Labels.{NeverCheaper, NoWorse, Pair, next_pair}
use Rattle.cps_theory.specs.LegalPrefix.{Legal, OrderRules}
use Rattle.cps_theory.specs.Network.{Network}
use Rattle.cps_theory.specs.Patterns.{PatternNode, PatternPermits, pattern_newest, pattern_node, pattern_push}
use Rattle.cps_theory.specs.ClosedSets.{ClosedNodes}
use Rattle.cps_theory.specs.laws.LabelDominance.{closed_covers}
use Rattle.cps_theory.specs.laws.PatternNetwork.{pattern_network}

module _ (Open : ℕ → ℕ → Type 0) (first : ℕ → ℕ → Option ℕ) (after : ℕ → ℕ → ℕ → ℕ) (cost : ℕ
    → ℕ → ℕ) (opens : IsFirstOpen Open first) (later : NeverEarlier after) (dearer : NeverCheaper cost) where
  -- over any nodes, what is closed under successors covers every landed legal prefix
  pub closed_nodes_cover : (W : Type 0) (Legal : List ℕ → Type 0) (node : List ℕ → W) (Permitted : W
      → ℕ → Type 0) (push : W → ℕ → W) (newest : W → ℕ) → Network W Legal node Permitted push newest
      → (Lists : W → Pair → Type 0) → ClosedNodes first after cost Permitted push newest (node []) Lists
      → (xs : List Landing) → Legal (ranks xs) → Landed Open after xs → (p : Pair) × Lists (node (ranks xs)) p
      × NoWorse p (pair_of cost xs)
  closed_nodes_cover W Legal node Permitted push newest net Lists c =
      closed_covers _ _ _ _ opens later dearer _ (λ r rs l. (net.shrinks r rs l).0) _
      (record {
        start = c.start;
        step = λ r rs legal p q listed e.
            let s = net.shrinks r rs legal in
            let e' = subst (λ k. next_pair first after cost k p r ≡ Some q) (sym (net.newest_is rs s.0)) e in
            let o = c.step (node rs) r p q listed s.1 e' in grind arith;
      })

  module _ (g : OrderRules) (ones : (a r : ℕ) → g.before a r ≡ true → 1 ≤ a) (Lists : PatternNode
      → Pair → Type 0) (c : ClosedNodes first after cost (PatternPermits g) (pattern_push g) pattern_newest
      (pattern_node g []) Lists) where
    -- no whole landing is below the claim, if no listed pair of the last stage is
    pub closed_landings_optimal : (value : Pair → ℕ) → ((p q : Pair) → NoWorse p q → value p ≤ value q)
        → (v : ℕ) → ((w : PatternNode) (p : Pair) → w.0 ≡ g.count → Lists w p → v ≤ value p)
        → (xs : List Landing) → Legal g (ranks xs) → Landed Open after xs → length (ranks xs) ≡ g.count
        → v ≤ value (pair_of cost xs)
    closed_landings_optimal value mono v final xs legal landed whole =
        let k = closed_nodes_cover _ _ _ _ _ _ (pattern_network g ones) _ c xs legal landed in grind arith

    -- nothing lands at all, if the last stage has no state
    pub closed_landings_infeasible : ((w : PatternNode) (p : Pair) → w.0 ≡ g.count → Lists w p → ⊥)
        → (xs : List Landing) → Legal g (ranks xs) → Landed Open after xs → length (ranks xs) ≡ g.count → ⊥
    closed_landings_infeasible none xs legal landed whole =
        let k = closed_nodes_cover _ _ _ _ _ _ (pattern_network g ones) _ c xs legal landed in search
