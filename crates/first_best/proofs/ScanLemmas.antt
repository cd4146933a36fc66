-- The pairs of a node, found from the latest second on.
use Rattle.std.proofs.Common.{◌≡◌, ℕ, ◌+◌, ◌-◌, ◌*◌, ◌<◌, ◌≤◌, ◌⊎◌, inl, inr, List, [], ◌∷◌, ◌++◌, length, reverse}
use Rattle.std.proofs.Common.{Option, Some, None, refl, le_refl, arith}
use Rattle.std.proofs.lemmas.Bool.{cases_eq, cases_lt}
use Rattle.cps_base.specs.Limits.{dearest_landing}
use Rattle.landing_rules.specs.Rules.{last_second}
use Rattle.landing_rules.specs.Problem.{Problem}
use Rattle.cps_theory.specs.Labels.{InPairs, Pair}
use Rattle.cps_theory.specs.CompletingPairs.{NoEarlierNoDearer}
use Rattle.cps_network.specs.shared.PairLists.{in_left, in_right}
use Rattle.first_best.specs.declared.node.EarlyNode.{EarlyNode}
use Rattle.first_best.specs.Completing.{AreFalling, ArePairsOf, IsWithinBudget, IsLeastOf, IsPairOf, StageAhead}
use Rattle.first_best.proofs.PairLemmas.{each_pair, falls_more, falls_rises, in_reversed, reversed_in}
use Rattle.first_best.proofs.UseLemmas.{room_below}

module _ (p : Problem) (v : ℕ) (budget : Option ℕ) (stage : ℕ) (node : EarlyNode) (next : StageAhead) (limit : ℕ)
    (limits : (cost : ℕ) → cost < 4294967296 → IsWithinBudget budget node.cheapest cost → cost < limit) where
  abbrev pub Is : Pair → Type 0
  Is q = IsPairOf p v stage node next q

  abbrev pub Room : Pair → Type 0
  Room q = IsWithinBudget budget node.cheapest q.1

  -- the pairs from a second on for which there is room are found, and the least cost of them, or the limit with none,
  -- is this
  pub record Scanned (from least : ℕ) (pairs : List Pair) : Type 0 where
    pub found : AreFalling p v budget stage node next from pairs
    pub least_of : (q : Pair) → InPairs q pairs → least ≤ q.1
    pub dear : (c : ℕ) → least ≤ c → c < limit → (o : Pair) × InPairs o pairs × (o.1 ≤ c)

  -- one second earlier, whose least cost is this
  module _ (from second least : ℕ) (pairs : List Pair) (before : from ≡ second + 1) (scanned : Scanned from least pairs)
      (cost_here : Option ℕ) (least_here : IsLeastOf (λ d. Is (second, d)) cost_here) where
    s : Scanned (second + 1) least pairs
    s = rw before at scanned

    is_least : (o : Option ℕ) → cost_here ≡ o → IsLeastOf (λ d. Is (second, d)) o
    is_least o e = rw e at least_here

    -- what is found one second earlier
    earlier_are : (q : Pair) → InPairs q pairs → Is q × (second ≤ q.0)
    earlier_are q i = (let a = s.found.are q i in (a.0, (let b = a.1 in omega arith)))

    split : (q : Pair) → second ≤ q.0 → (q.0 ≡ second) ⊎ (second + 1 ≤ q.0)
    split q le = elim (cases_eq q.0 second) [ inl e ↦ inl e | inr ne ↦ inr (omega arith) ]

    at_second : (q : Pair) → q.0 ≡ second → Is q → Is (second, q.1)
    at_second q e h = rw e at h

    kept : ((q : Pair) → Is q → q.0 ≡ second → Room q → (o : Pair) × InPairs o pairs × NoEarlierNoDearer o q)
        → Scanned second least pairs
    kept here = record {
      found = record {
        are = earlier_are;
        cover = λ q h le r. elim (split q le) [ inl e ↦ here q h e r | inr more ↦ s.found.cover q h more r ];
        falling = s.found.falling;
        in_reach = s.found.in_reach;
      };
      least_of = s.least_of;
      dear = s.dear;
    }

    pub nothing_here : cost_here ≡ None → Scanned second least pairs
    nothing_here none = kept (λ q h e r. absurd (is_least None none q.1 (at_second q e h)))

    pub no_cheaper : (cost : ℕ) → cost_here ≡ Some cost → least ≤ cost → cost < 4294967296 → Scanned second least pairs
    no_cheaper cost is le fits = kept (λ q h e r.
        let a = (is_least (Some cost) is).1 q.1 (at_second q e h) in
        let d = s.dear cost le (limits cost fits (room_below budget node.cheapest cost q.1 a r)) in
        let b = (s.found.are d.0 d.1).1 in
        let f = d.2 in
        (d.0, d.1, (omega arith, omega arith)))

    pub cheaper : (cost : ℕ) → cost_here ≡ Some cost → cost < least → second ≤ last_second
        → cost ≤ dearest_landing * (length p.flights - stage) → Scanned second cost (pairs ++ (second, cost) ∷ [])
    cheaper cost is lt in_days small =
        let l = is_least (Some cost) is in
        let here = in_right (second, cost) pairs ((second, cost) ∷ []) (inl refl) in
        record {
          found = record {
            are = each_pair (λ q. Is q × (second ≤ q.0)) pairs (second, cost) earlier_are (l.0, le_refl second);
            cover = λ q h le r. elim (split q le) [
              | inl e ↦ (let a = l.1 q.1 (at_second q e h) in ((second, cost), here, (omega arith, a)))
              | inr more ↦ (let a = s.found.cover q h more r in (a.0, in_left a.0 pairs ((second, cost) ∷ []) a.1, a.2))
            ];
            falling = falls_more pairs (second, cost) s.found.falling (λ o i.
                let a = (s.found.are o i).1 in
                let b = s.least_of o i in
                (omega arith, omega arith));
            in_reach = each_pair (λ q. (q.0 ≤ last_second) × (q.1 ≤ dearest_landing * (length p.flights - stage))) pairs
                (second, cost) s.found.in_reach (in_days, small);
          };
          least_of = each_pair (λ q. cost ≤ q.1) pairs (second, cost)
              (λ q a. let b = s.least_of q a in omega arith) (le_refl cost);
          dear = λ c le fits. ((second, cost), here, le);
        }

  -- where nothing is cheaper, or no second is left, all are found
  pub scanned_free : (from least : ℕ) (pairs : List Pair) → least ≡ 0 → Scanned from least pairs
      → AreFalling p v budget stage node next node.earliest pairs
  scanned_free from least pairs free s = record {
    are = λ q i. (let a = s.found.are q i in (a.0, a.0.reached));
    cover = λ q h le r.
        let none : 0 < limit = limits 0 (omega arith) (room_below budget node.cheapest 0 q.1 (omega arith) r) in
        let d = s.dear 0 (omega (arith, free)) none in
        elim (cases_lt q.0 from) [
          | inr le ↦ s.found.cover q h le r
          | inl le ↦ (let a = (s.found.are d.0 d.1).1 in let b =
              d.2 in (d.0, d.1, (omega (arith, a, le), omega (arith, b))))
        ];
    falling = s.found.falling;
    in_reach = s.found.in_reach;
  }

  pub scanned_all : (from least : ℕ) (pairs : List Pair) → from ≤ node.earliest → Scanned from least pairs
      → AreFalling p v budget stage node next node.earliest pairs
  scanned_all from least pairs le s = record {
    are = λ q i. (let a = s.found.are q i in (a.0, a.0.reached));
    cover = λ q h l r. s.found.cover q h (omega (arith, le, l)) r;
    falling = s.found.falling;
    in_reach = s.found.in_reach;
  }

-- the other way round
pub turned : (p : Problem) (v : ℕ) (budget : Option ℕ) (stage : ℕ) (node : EarlyNode) (next : StageAhead)
    (pairs : List Pair) → AreFalling p v budget stage node next node.earliest pairs
    → ArePairsOf p v budget stage node next (reverse pairs)
turned p v budget stage node next pairs f = record {
  are = λ q i. (f.are q (in_reversed pairs q i)).0;
  cover = λ q h r. (let a = f.cover q h h.reached r in (a.0, reversed_in pairs a.0 a.1, a.2));
  rising = falls_rises pairs f.falling;
  in_reach = λ q i. f.in_reach q (in_reversed pairs q i);
}
