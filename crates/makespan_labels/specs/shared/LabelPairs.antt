-- Labels for the makespan and pairs say the same: the label of a window is its one undominated pair, whose cost is 0.
use Rattle.std.proofs.Common.{rules, ◌≡◌, ℕ, zero, suc, ◌<◌, ◌≤◌, List, [], ◌∷◌, length, inl, inr, refl, sym, ap, ap₂}
use Rattle.std.proofs.Common.{subst, arith}
use Rattle.std.specs.Prelude.{ℤ, slice_index}
use Rattle.std.proofs.lemmas.Bool.{cases_lt}
use Rattle.std.proofs.lemmas.List.{length-map}
use Rattle.std.proofs.lemmas.List.Elements.{Contains-get_or}
use Rattle.landing_rules.specs.declared.objective.Objective.TheVariants.{Makespan}
use Rattle.landing_rules.specs.Problem.{Problem}
use Rattle.cps_theory.specs.Separation.{Landing}
use Rattle.cps_theory.specs.LandingTrail.{cost_of}
use Rattle.cps_theory.specs.Labels.{InPairs, NoWorse, Pair}
use Rattle.cps_theory.specs.Network.{Undominated}
use Rattle.landing_joint.specs.RankedProblem.{cost_at}
use Rattle.cps_network.specs.Lists.{node_at}
use Rattle.cps_network.specs.Landable.{Attains}
use Rattle.cps_network.specs.Pairs.{ArePairsOf, AreCosts, HoldsCosts, GivesPair, list_at}
use Rattle.makespan_labels.specs.Labels.{no_label, CanLandAt, IsLabel, AreLabels, HoldsLabels, GivesLabel}
use Rattle.makespan_labels.specs.LabelPairs.{label_pairs, column_pairs}
use Rattle.makespan_labels.specs.shared.NetworkSteps.{can_land}

-- ---- the pairs of a label

pub known_pairs : (label : ℕ) → label < no_label → label_pairs label ≡ (label, 0) ∷ []
known_pairs label lt = grind arith

pub no_pairs : (label : ℕ) → no_label ≤ label → label_pairs label ≡ []
no_pairs label le = grind arith

-- the list of a place is that of its label
pub list_of_label : (labels : List ℕ) (i : ℕ) → i < length labels
    → list_at (column_pairs labels) i ≡ label_pairs (slice_index labels i)
list_of_label [] i lt = absurd (omega arith)
list_of_label (x ∷ labels) zero lt = refl
list_of_label (x ∷ labels) (suc i) lt = list_of_label labels i (omega arith)

module _ (p : Problem) (makespan : p.objective ≡ Makespan) where
  -- ---- no landing costs anything

  free : (r t : ℕ) → cost_at p r t ≡ 0
  free r t = cc

  all_free : (xs : List Landing) → cost_of (cost_at p) xs ≡ 0
  all_free [] = refl
  all_free (x ∷ xs) = grind (arith, free, x.0, (all_free xs))

  pub attains_free : (stage : ℕ) (xs : List ℤ) (q : Pair) → Attains p stage xs q → q.1 ≡ 0
  attains_free stage xs q a = grind (arith, all_free)

  -- a pair is attained exactly where a landing at its second can be last, and its cost is 0
  can_attain : (stage : ℕ) (xs : List ℤ) (t : ℕ) → CanLandAt p stage xs t → Attains p stage xs (t, 0)
  can_attain stage xs t (cost, a) = grind (arith, attains_free)

  attains_can : (stage : ℕ) (xs : List ℤ) (q : Pair) → Attains p stage xs q → CanLandAt p stage xs q.0
  attains_can stage xs q a = (q.1, a)

  pair_is : (stage : ℕ) (xs : List ℤ) (q : Pair) (t : ℕ) → Attains p stage xs q → q.0 ≡ t → q ≡ (t, 0)
  pair_is stage xs q t a e = ap₂ (λ (x y : ℕ). (x, y)) e (attains_free stage xs q a)

  -- ---- the pairs of a window

  module _ (stage : ℕ) (xs : List ℤ) where
    one_pair : (label : ℕ) → label < no_label → IsLabel p stage xs label → ArePairsOf p stage xs ((label, 0) ∷ [])
    one_pair label lt is = record {
      undominated = λ q. (listed q, λ u. inl (found q u));
      covers = λ q a. ((label, 0), inl refl, low q a);
      falling = (λ q i. absurd i, tt);
    }
      where
        low : (q : Pair) → Attains p stage xs q → NoWorse (label, 0) q
        low q a = ((is.least q.0 (attains_can stage xs q a)).1, omega arith)

        here : Attains p stage xs (label, 0)
        here = can_attain stage xs label (is.attained lt)

        best : Undominated (Attains p stage xs) (label, 0)
        best = record {
          attained = here;
          best = λ o a le.
              let l = low o a in
              let m = le.0 in
              let n = l.0 in
              pair_is stage xs o label a (omega (arith, m, n));
        }

        listed : (q : Pair) → InPairs q ((label, 0) ∷ []) → Undominated (Attains p stage xs) q
        listed q (inl e) = subst (Undominated (Attains p stage xs)) (sym e) best
        listed q (inr i) = absurd i

        found : (q : Pair) → Undominated (Attains p stage xs) q → q ≡ (label, 0)
        found q u = sym (u.best (label, 0) here (low q u.attained))

    none_pairs : (label : ℕ) → no_label ≤ label → IsLabel p stage xs label → ArePairsOf p stage xs []
    none_pairs label le is = record {
      undominated = λ q. ((λ i. absurd i), λ u. absurd (never q u.attained));
      covers = λ q a. absurd (never q a);
      falling = tt;
    }
      where
        never : (q : Pair) → Attains p stage xs q → ⊥
        never q a = let lt = (is.least q.0 (attains_can stage xs q a)).0 in omega (arith, lt, le)

    pub pairs_of_label : (label : ℕ) → IsLabel p stage xs label → ArePairsOf p stage xs (label_pairs label)
    pairs_of_label label is = elim (cases_lt label no_label) [
      | inl lt ↦ grind (arith, known_pairs, one_pair)
      | inr le ↦ grind (arith, no_pairs, none_pairs)
    ]

    from_one : (label : ℕ) → label < no_label → ArePairsOf p stage xs ((label, 0) ∷ []) → IsLabel p stage xs label
    from_one label lt are = record {
      attained = grind arith;
      least = λ t l. search (rules, low, are.covers, can_attain);
    }
      where
        low : {t : ℕ} → (o : Pair) × InPairs o ((label, 0) ∷ []) × NoWorse o (t, 0) → label ≤ t
        low {t} (o, inl e, nw) = let f = ap (λ (q : Pair). q.0) e in let le = nw.0 in omega (arith, f, le)
        low {t} (o, inr i, nw) = absurd i

    from_none : (label : ℕ) → no_label ≤ label → ArePairsOf p stage xs [] → IsLabel p stage xs label
    from_none label le are = record {
      attained = λ lt. absurd (omega (arith, lt, le));
      least = λ t l. absurd (let o = are.covers (t, 0) (can_attain stage xs t l) in o.1);
    }

    pub label_of_pairs : (label : ℕ) → ArePairsOf p stage xs (label_pairs label) → IsLabel p stage xs label
    label_of_pairs label are = elim (cases_lt label no_label) [
      | inl lt ↦ grind (arith, from_one, known_pairs)
      | inr le ↦ grind (arith, from_none, no_pairs)
    ]

    -- an undominated pair is the label
    pub label_of_undominated : (q : Pair) → q.0 < no_label → Undominated (Attains p stage xs) q → IsLabel p stage xs q.0
    label_of_undominated q lt u = search (rules, attains_can, low)
      where
        low : (t : ℕ) → CanLandAt p stage xs t → q.0 ≤ t
        low t l = elim (cases_lt t q.0) [
          | inl less ↦ let e = ap (λ (x : Pair). x.0)
              (u.best (t, 0) (can_attain stage xs t l) (omega (arith, less), omega arith)) in
              absurd (omega (arith, less, e))
          | inr le ↦ le
        ]

  -- ---- the pairs of a stage

  pub costs_of_labels : (stage : ℕ × List (List ℤ)) (labels : List ℕ) → AreLabels p stage labels
      → AreCosts p stage (column_pairs labels)
  costs_of_labels stage labels are =
      grind (arith, length-map, label_pairs, stage.0, stage.1, list_of_label, pairs_of_label, slice_index, are.label)

  pub labels_of_costs : (stage : ℕ × List (List ℤ)) (labels : List ℕ) → AreCosts p stage (column_pairs labels)
      → AreLabels p stage labels
  labels_of_costs stage labels are =
      let one : length labels ≡ length stage.1 = grind (arith, length-map, label_pairs) in
      record {
        one_each = one;
        label = λ i lt.
            label_of_pairs stage.0 (node_at stage.1 i) (slice_index labels i)
            (subst (ArePairsOf p stage.0 (node_at stage.1 i)) (list_of_label labels i (omega (arith, lt, one)))
            (are.pairs i lt));
      }

  pub holds_costs : (stage : ℕ × List (List ℤ)) (labels : List ℕ) → HoldsLabels p stage labels
      → HoldsCosts p stage (column_pairs labels)
  holds_costs stage labels h = search (rules, costs_of_labels)

  pub holds_labels : (stage : ℕ × List (List ℤ)) (labels : List ℕ) → HoldsCosts p stage (column_pairs labels)
      → HoldsLabels p stage labels
  holds_labels stage labels h = search (rules, labels_of_costs)

  -- ---- which window gives a label

  -- each label that is held is known
  pub held_known : (stage : ℕ × List (List ℤ)) (labels : List ℕ) → HoldsLabels p stage labels
      → (i : ℕ) → i < length stage.1 → slice_index labels i < no_label
  held_known stage labels h i lt =
      ((h.labelled.label i lt).least _
      (can_land p stage.0 (node_at stage.1 i)
      ((h.landable (node_at stage.1 i)).0 (Contains-get_or stage.1 i [] lt)))).0

  -- a window gives a label where its one pair gives the label's pair
  pub gives_pair : (before : ℕ × List (List ℤ)) (labels : List ℕ) (node : List ℤ) (label place : ℕ)
      → HoldsLabels p before labels
      → GivesLabel p before labels node label place → GivesPair p before (column_pairs labels) node (label, 0) place 0
  gives_pair before labels node label place h gives =
      let known = held_known before labels h place gives.within in
      let list : list_at (column_pairs labels) place ≡ (slice_index labels place, 0) ∷ [] =
      grind (arith, list_of_label, known_pairs, slice_index) in
      record {
        within = gives.within;
        listed = (let e = ap length list in omega (arith, e));
        rank = gives.rank;
        permitted = gives.permitted;
        next = gives.next;
        lands = cc;
      }
