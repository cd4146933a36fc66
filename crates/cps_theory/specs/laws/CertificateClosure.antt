-- Listed states of which no successor pair is missed are closed under successor pairs.
use Rattle.std.proofs.Common.{◌≡◌, ℕ, ◌+◌, inl, inr, Bool, true, false, ◌&&◌, List, [], ◌∷◌, Option, Some, None, refl}
use Rattle.std.proofs.Common.{sym, subst, arith}
use Rattle.std.specs.List.{list_any}
use Rattle.std.proofs.lemmas.Bool.{or_cases, or_parts, and_parts}
use Rattle.cps_theory.specs.Labels.{InPairs, NoWorse, Pair, next_pair, no_worse}
use Rattle.cps_theory.specs.LegalPrefix.{OrderRules}
use Rattle.cps_theory.specs.Patterns.{PatternNode, PatternPermits, pattern_newest, pattern_node, pattern_push}
use Rattle.cps_theory.specs.ClosedSets.{ClosedNodes}
use Rattle.cps_theory.specs.CertificateClosure.{IsListed, IsListedOrStart, covers, first_missed}
use Rattle.cps_theory.specs.CertificateClosure.{missed_from}
use Rattle.cps_theory.specs.laws.FirstFound.{from_none, or_none, with_number_none}
use Rattle.cps_theory.specs.laws.NodeOrder.{node_tie, eq_of}
use Rattle.cps_theory.specs.laws.PatternTests.{permits_is}
use Rattle.cps_theory.specs.laws.UndominatedPairs.{no_worse_true}

and_false : (a b : Bool) → a && b ≡ false → a ≡ true → b ≡ false
and_false a b e p = cc

no_worse_found : (q : Pair) (ps : List Pair) → list_any (λ o. no_worse o q) ps ≡ true
    → (o : Pair) × InPairs o ps × NoWorse o q
no_worse_found q [] e = absurd (cc)
no_worse_found q (o ∷ ps) e = elim (or_cases _ _ e) [
  | inl h ↦ (o, inl refl, no_worse_true o q h)
  | inr h ↦ grind (arith, no_worse_found q ps)
]

any_false : (p : Pair → Bool) (b : Pair) (ps : List Pair) → list_any p ps ≡ false → InPairs b ps → p b ≡ false
any_false p b [] e i = absurd i
any_false p b (o ∷ ps) e i = grind (arith, or_parts, any_false p b ps)

module _ {S : Type 0} (node_of : S → PatternNode) (pairs_of : S → List Pair) where
  pub covers_listed : (w : PatternNode) (q : Pair) (ss : List S) → covers node_of pairs_of ss w q ≡ true
      → (o : Pair) × IsListed node_of pairs_of ss w o × NoWorse o q
  unfolding covers
  covers_listed w q [] e = absurd (cc)
  covers_listed w q (s ∷ ss) e =
      search (arith, or_cases, and_parts, no_worse_found, node_tie, eq_of, covers_listed w q ss)

  module _ (g : OrderRules) (first : ℕ → ℕ → Option ℕ) (after : ℕ → ℕ → ℕ → ℕ) (cost : ℕ → ℕ → ℕ) (all : List S) where
    -- a node of which nothing is missed: each permitted successor of its pairs is covered
    none_missed : (w : PatternNode) (pairs : List Pair)
        → first_missed node_of pairs_of g first after cost all w pairs ≡ None → (r : ℕ) (b q : Pair)
        → PatternPermits g w r → InPairs b pairs → next_pair first after cost w.2 b r ≡ Some q
        → covers node_of pairs_of all (pattern_push g w r) q ≡ true
    unfolding first_missed
    none_missed w pairs e r b q m i n =
        let out = from_none _ 1 g.count e r m.from_one (omega arith) in
        let kept = any_false _ b _ (and_false _ _ out (permits_is g w r m)) i in grind arith

    listed_missed : (i : ℕ) (ss : List S) → missed_from node_of pairs_of g first after cost all i ss ≡ None
        → (w : PatternNode) (b : Pair) → IsListed node_of pairs_of ss w b → (s : S) × (node_of s ≡ w)
        × InPairs b (pairs_of s) × (first_missed node_of pairs_of g first after cost all (node_of s)
        (pairs_of s) ≡ None)
    unfolding missed_from
    listed_missed i [] e w b l = absurd l
    listed_missed i (s ∷ ss) e w b (inl h) = (s, h.0, h.1, with_number_none i _ (or_none _ _ e).0)
    listed_missed i (s ∷ ss) e w b (inr l) = listed_missed (i + 1) ss (or_none _ _ e).1 w b l

    -- where nothing is missed, what is listed is closed under successor pairs
    pub closure_closed : first_missed node_of pairs_of g first after cost all (pattern_node g []) ((0, 0) ∷ []) ≡ None
        → missed_from node_of pairs_of g first after cost all 1 all ≡ None
        → ClosedNodes first after cost (PatternPermits g) (pattern_push g) pattern_newest (pattern_node g [])
        (IsListedOrStart node_of pairs_of g all)
    closure_closed from_start from_states = record {
      start = inl (refl, refl);
      step = λ w r p q l m e. elim l [
        | inl s ↦
            let m' = subst (λ (z : PatternNode). PatternPermits g z r) s.0 m in
            let e' = subst (λ (z : PatternNode). next_pair first after cost z.2 (0, 0) r ≡ Some q) s.0 (cc) in
            let c = none_missed (pattern_node g []) ((0, 0) ∷ []) from_start r (0, 0) q m' (inl refl) e' in
            let o = covers_listed (pattern_push g (pattern_node g []) r) q all c in (
              o.0,
              inr (subst (λ (z : PatternNode). IsListed node_of pairs_of all (pattern_push g z r) o.0) (sym s.0) o.1),
              o.2,
            )
        | inr b ↦
            let k = listed_missed 1 all from_states w p b in
            let e' = subst (λ (z : PatternNode). next_pair first after cost z.2 p r ≡ Some q) (sym k.1) e in
            let c = none_missed (node_of k.0) (pairs_of k.0) k.3 r p q
            (subst (λ (z : PatternNode). PatternPermits g z r) (sym k.1) m) k.2 e' in grind (arith, covers_listed)
      ];
    }
