-- What keeps the pairs of each node, as the entries of windows do, makes the states that leave nothing out.
use Rattle.std.proofs.Common.{rules, ◌≡◌, ◌≤◌, inl, true, List, [], ◌∷◌, length, get_or, refl, arith}
use Rattle.std.specs.Prelude.{All}
use Rattle.std.proofs.lemmas.Bool.{and_parts, ltb-true}
use Rattle.landing_rules.specs.Problem.{Problem}
use Rattle.cps_theory.specs.Labels.{InPairs, NoWorse, Pair}
use Rattle.cps_theory.specs.Network.{Kept}
use Rattle.cps_theory.specs.Patterns.{PatternNode}
use Rattle.cps_theory.specs.UndominatedPairs.{Staircase}
use Rattle.cps_theory.specs.laws.LabelDominance.{no_worse_trans}
use Rattle.cps_theory.specs.laws.NetworkLabels.{kept_undominated, undominated_kept}
use Rattle.cps_theory.specs.laws.Staircases.{staircase_apart}
use Rattle.certificate.specs.States.{State, AreAscending, rises}
use Rattle.cert_check.specs.States.{node_of}
use Rattle.cert_check.specs.Whole.{Attains, HasNode, IsWholeState, AreWholeStates}

-- seconds that rise and costs that fall are a staircase
pub rising_staircase : (ps : List Pair) → rises ps ≡ true → Staircase ps
rising_staircase [] h = tt
rising_staircase (a ∷ []) h = omega arith
rising_staircase (a ∷ b ∷ ps) h =
    let t = and_parts _ _ h in
    let s = and_parts _ _ t.0 in
    let x = ltb-true a.0 b.0 s.0 in
    let y = ltb-true b.1 a.1 s.1 in
    let rest = rising_staircase (b ∷ ps) t.1 in search rules

pub staircase_rises : (ps : List Pair) → Staircase ps → rises ps ≡ true
staircase_rises [] h = refl
staircase_rises (a ∷ []) h = refl
staircase_rises (a ∷ b ∷ ps) h =
    let m = h.0 b (inl refl) in grind (arith, staircase_rises (b ∷ ps) h.1)

first_pair : (ps : List Pair) → 1 ≤ length ps → (q : Pair) × InPairs q ps
first_pair [] h = absurd (omega arith)
first_pair (q ∷ ps) h = (q, inl refl)

-- kept pairs of which none is worse than another are the undominated ones
pub kept_is_whole : (p : Problem) (s : State) → 1 ≤ s.stage → 1 ≤ length s.pairs
    → Kept (Attains p (node_of s)) (λ q. InPairs q s.pairs) → rises s.pairs ≡ true → IsWholeState p s
kept_is_whole p s begun some kept rising =
    let q = first_pair s.pairs some in
    let anti = staircase_apart s.pairs (rising_staircase s.pairs rising) in
    record {
      begun = begun;
      landable = (q.0, kept.attained q.0 q.1);
      undominated = λ x. (
        kept_undominated (Attains p (node_of s)) (λ q. InPairs q s.pairs) kept anti x,
        undominated_kept (Attains p (node_of s)) (λ q. InPairs q s.pairs) kept x,
      );
      covers = kept.covers;
      rising = rising;
    }

-- ---- states from entries

-- a state behind the start has pairs that are entries of its node, and for each entry one that is no later and no
-- dearer
pub record HoldsEntries (Entry : PatternNode → Pair → Type 0) (s : State) : Type 0 where
  pub begun : 1 ≤ s.stage
  pub some : 1 ≤ length s.pairs
  pub found : (q : Pair) → InPairs q s.pairs → Entry (node_of s) q
  pub covers : (q : Pair) → Entry (node_of s) q → (o : Pair) × InPairs o s.pairs × NoWorse o q
  pub rising : rises s.pairs ≡ true

-- the states hold the entries, and each entry behind the start has its state
pub record HoldAllEntries (Entry : PatternNode → Pair → Type 0) (ss : List State) : Type 0 where
  pub each : All (HoldsEntries Entry) ss
  pub every : (d : PatternNode) (q : Pair) → 1 ≤ d.0 → Entry d q → HasNode ss d
  pub ascending : AreAscending ss

module _ (p : Problem) (Entry : PatternNode → Pair → Type 0) (keeps : (d : PatternNode) → 1 ≤ d.0
    → Kept (Attains p d) (Entry d)) where
  holds_whole : (s : State) → HoldsEntries Entry s → IsWholeState p s
  holds_whole s h =
      let k = keeps (node_of s) h.begun in
      kept_is_whole p s h.begun h.some (record {
        attained = λ q i. k.attained q (h.found q i);
        covers = λ q a. let e = k.covers q a in let o =
            h.covers e.0 e.1 in (o.0, o.1, no_worse_trans o.0 e.0 q o.2 e.2);
      }) h.rising

  pub entries_are_whole : (ss : List State) → HoldAllEntries Entry ss → AreWholeStates p ss
  entries_are_whole ss h = record {
    each = λ i d lt. holds_whole (get_or ss i d) (h.each i d lt);
    every = λ d q one a. let e = (keeps d one).covers q a in h.every d e.0 one e.1;
    ascending = h.ascending;
  }
