-- For each kind of labels: what is held of it as pairs, and what is left of the candidates.
use Rattle.std.proofs.Common.{◌≡◌, ℕ, suc, ◌+◌, List, [], ◌∷◌, length, refl, sym, ap, subst, ◌∙◌, arith}
use Rattle.std.specs.Prelude.{ℤ, Bool, true, false, ◌≤◌, map, Contains}
use Rattle.std.proofs.lemmas.List.Elements.{Contains-get_or}
use Rattle.landing_rules.specs.declared.objective.Objective.TheVariants.{Makespan, Delay}
use Rattle.landing_rules.specs.Problem.{Problem}
use Rattle.cps_theory.specs.Labels.{Pair}
use Rattle.cps_theory.specs.Network.{Undominated}
use Rattle.cps_network.specs.Compacted.{kept_where}
use Rattle.cps_network.specs.Landable.{Attains, HasEachLandable}
use Rattle.cps_network.specs.Lists.{node_at}
use Rattle.cps_network.specs.Nodes.{IsWindowNetwork}
use Rattle.cps_network.specs.Pairs.{AreCosts, HoldsCosts, GivesPair}
use Rattle.cps_network.specs.Permits.{IsSuccessor}
use Rattle.cps_network.specs.shared.PairSteps.{listed_given}
use Rattle.makespan_labels.specs.Columns as columns
use Rattle.makespan_labels.specs.LabelPairs.{column_pairs}
use Rattle.makespan_labels.specs.Labels.{AreLabels, HoldsLabels, GivesLabel}
use Rattle.makespan_labels.specs.shared.LabelPairs.{holds_costs, holds_labels, attains_free, gives_pair}
use Rattle.delay_labels.specs.Lists as lists
use Rattle.replan.specs.Labels.{StagePairs, AreLandableOf, HoldsPairs}

-- ---- a column, seen as pairs

abbrev pub of_column : List ℕ → StagePairs
of_column column = record { objective = Makespan; lists = column_pairs column }

abbrev pub of_costs : List (List Pair) → StagePairs
of_costs found = record { objective = Delay; lists = found }

module _ (p : Problem) (stage : ℕ × List (List ℤ)) (self : StagePairs) (column : List ℕ)
    (is : of_column column ≡ self) where
  pub column_makespan : HoldsPairs p stage self → p.objective ≡ Makespan
  column_makespan h = sym (subst (HoldsPairs p stage) (sym is) h).objective

  pub column_held : HoldsPairs p stage self → HoldsLabels p stage column
  column_held h = holds_labels p (column_makespan h) stage column (subst (HoldsPairs p stage) (sym is) h).held

-- ---- where a pair comes from

module _ (p : Problem) (net : IsWindowNetwork p) (before : ℕ × List (List ℤ)) (node : List ℤ)
    (q : Pair) (u : Undominated (Attains p (before.0 + 1) node) q) where
  next_is : before.0 + 1 ≡ suc before.0
  next_is = omega arith

  pub pair_given : (lists : List (List Pair)) → HoldsCosts p before lists → (j : ℕ) × (index : ℕ)
      × GivesPair p before lists node q j index
  pair_given lists held = listed_given p net before lists held node q (rw next_is at u)

  pub node_given : (lists : List (List Pair)) → HoldsCosts p before lists → (xs : List ℤ) × Contains before.1 xs
      × IsSuccessor p before.0 xs node
  node_given lists held = let given = (pair_given lists held).2 in (
    node_at before.1 (pair_given lists held).0,
    Contains-get_or before.1 (pair_given lists held).0 [] given.within,
    (given.rank, given.permitted, given.next),
  )

  module _ (self : StagePairs) (column : List ℕ) (is : of_column column ≡ self) (holds : HoldsPairs p before self) where
    pub column_gives : (place : ℕ) → GivesLabel p before column node q.0 place
        → GivesPair p before self.lists node q place 0
    column_gives place gives =
        let makespan = column_makespan p before self column is holds in
        let free : q ≡ (q.0, 0) = ap (λ c. (q.0, c)) (attains_free p makespan (before.0 + 1) node q u.attained) in
        subst (λ ls. GivesPair p before ls.lists node q place 0) is
        (subst (λ o. GivesPair p before (column_pairs column) node o place 0) (sym free)
        (gives_pair p makespan before column node q.0 place (column_held p before self column is holds) gives))

-- ---- what is left of the candidates

kept_short : {A : Type 0} (bs : List Bool) (xs : List A) → length (kept_where bs xs) ≤ length xs
kept_short [] xs = omega arith
kept_short (b ∷ bs) [] = omega arith
kept_short (true ∷ bs) (x ∷ xs) = let h = kept_short bs xs in omega arith
kept_short (false ∷ bs) (x ∷ xs) = let h = kept_short bs xs in omega arith

-- where as many are kept as there are, each is kept
kept_all : {A : Type 0} (bs : List Bool) (xs : List A) → length (kept_where bs xs) ≡ length xs → kept_where bs xs ≡ xs
kept_all [] [] k = refl
kept_all [] (x ∷ xs) k = absurd (omega arith)
kept_all (b ∷ bs) [] k = refl
kept_all (true ∷ bs) (x ∷ xs) k = ap (λ l. x ∷ l) (kept_all bs xs (omega arith))
kept_all (false ∷ bs) (x ∷ xs) k = let h = kept_short bs xs in absurd (omega arith)

module _ (p : Problem) (before after : ℕ × List (List ℤ)) (number : after.0 ≡ before.0)
    (each : HasEachLandable p before) where
  pub column_left : (column left : List ℕ) → p.objective ≡ Makespan → AreLabels p before column
      → ((q : Problem) → HasEachLandable q before → AreLabels q before column → HoldsLabels q after left)
      → after.1 ≡ columns.known_of column before.1 → AreLandableOf p before after (of_column left)
  column_left column left makespan are kept windows = record {
    held = record { objective = sym makespan; held = holds_costs p makespan after left (kept p each are) };
    number = number;
    all = λ same. windows ∙ kept_all (map columns.is_known column) before.1 (ap length (sym windows) ∙ same);
  }

  pub costs_left : (found left : List (List Pair)) → Delay ≡ p.objective → AreCosts p before found
      → ((q : Problem) → HasEachLandable q before → AreCosts q before found → HoldsCosts q after left)
      → after.1 ≡ lists.known_of found before.1 → AreLandableOf p before after (of_costs left)
  costs_left found left delay are kept windows = record {
    held = record { objective = delay; held = kept p each are };
    number = number;
    all = λ same. windows ∙ kept_all (map lists.has_some found) before.1 (ap length (sym windows) ∙ same);
  }
