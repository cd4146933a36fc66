-- Stages made from the last backward.
use Rattle.replan.specs.shared.Pushed.{each_upto}
use Rattle.std.proofs.Common.{◌≡◌, ℕ, ◌+◌, ◌-◌, ◌<◌, ◌≤◌, inl, inr, List, [], ◌∷◌, ◌++◌, length, sym, ap, subst, ◌∙◌}
use Rattle.std.proofs.Common.{arith, length-append}
use Rattle.std.specs.Prelude.{slice_index_or, Option, Some, None}
use Rattle.cps_theory.specs.Labels.{InPairs}
use Rattle.cps_theory.specs.Separation.{Landing}
use Rattle.std.proofs.lemmas.Bool.{cases_eq}
use Rattle.std.proofs.lemmas.List.{get_or_append_left}
use Rattle.landing_rules.specs.Problem.{Problem}
use Rattle.cps_theory.specs.LandingTrail.{ranks}
use Rattle.landing_joint.specs.CompletingPairs.{budget_of, IsCompletingPair}
use Rattle.cps_network.specs.Nodes as network
use Rattle.cps_network.specs.Pairs.{list_at}
use Rattle.cps_network.specs.WindowRanks.{TellTheirRanks}
use Rattle.replan.specs.Held.{HeldProblem}
use Rattle.replan.specs.Readers.{AreStagesOf, stage_in, window_in}
use Rattle.first_best.specs.declared.node.EarlyNode.{EarlyNode}
use Rattle.first_best.specs.Nodes.{AreNodesOf, IsLandedPrefix}
use Rattle.first_best.specs.Gathered.{IsGathered, place_at}
use Rattle.first_best.specs.Stages.{pairs_of, stage_of, AreCompleted, HasEachList, IsAheadBy, IsAheadOf, IsAheadWithin}
use Rattle.first_best.specs.Stages.{IsBehind, ListsAllCompleting, ListsAllOfUse}
use Rattle.first_best.specs.Uses.{IsWanted, KeepsWanted}
use Rattle.first_best.specs.Completing.{no_stage, Rises, StageAhead}
use Rattle.first_best.proofs.GatherLemmas.{gathered_nodes, window_prefix}
use Rattle.first_best.proofs.PairLemmas.{rises_undominated}
use Rattle.first_best.proofs.UseLemmas.{all_useful}

abbrev pub at : List StageAhead → ℕ → StageAhead
at stages i = slice_index_or stages i no_stage

-- so many stages are made, from the last on, behind one without a node
pub record IsAheadFrom (p : Problem) (v : ℕ) (budget : Option ℕ) (held : Option HeldProblem)
    (done : ℕ) (stages : List StageAhead) : Type 0 where
  pub long : length stages ≡ done + 1
  pub first : at stages 0 ≡ no_stage
  pub completed : (i : ℕ) → 1 ≤ i → i ≤ done → AreCompleted p v budget (length p.flights + 1 - i)
      (at stages i).nodes (at stages i).lists
  pub gathered : (i : ℕ) → 1 ≤ i → i ≤ done → IsGathered held (length p.flights + 1 - i) (at stages i).nodes
      (at stages i).places

module _ (p : Problem) (v : ℕ) (budget : Option ℕ) (held : Option HeldProblem) (done : ℕ) (stages : List StageAhead)
    (a : IsAheadFrom p v budget held done stages) where
  module _ (stage : ℕ) (is : stage ≡ length p.flights - done) (lt : done < length p.flights)
      (s : StageAhead) (completed : AreCompleted p v budget stage s.nodes s.lists)
      (gathered : IsGathered held stage s.nodes s.places) where
    old : (i : ℕ) → i ≤ done → at (stages ++ s ∷ []) i ≡ at stages i
    old i le = get_or_append_left stages (s ∷ []) no_stage i (let l = a.long in omega arith)

    each : (P : ℕ → StageAhead → Type 0) → ((i : ℕ) → 1 ≤ i → i ≤ done → P (length p.flights + 1 - i) (at stages i))
        → P stage s → (i : ℕ) → 1 ≤ i → i ≤ done + 1 → P (length p.flights + 1 - i) (at (stages ++ s ∷ []) i)
    each P before now i one le = each_upto (λ j t. 1 ≤ j → P (length p.flights + 1 - j) t) stages s no_stage (done + 1)
        a.long (λ j lt one. before j one (omega arith))
        (λ _. let f : length p.flights + 1 - (done + 1) ≡ stage = omega arith in rw f now) i (omega arith) one

    pub one_stage : IsAheadFrom p v budget held (done + 1) (stages ++ s ∷ [])
    one_stage = record {
      long = length-append stages (s ∷ []) ∙ ap (λ (n : ℕ). n + 1) a.long;
      first = old 0 (omega arith) ∙ a.first;
      completed = each (λ n t. AreCompleted p v budget n t.nodes t.lists) a.completed completed;
      gathered = each (λ n t. IsGathered held n t.nodes t.places) a.gathered gathered;
    }

  -- the last of them is behind the stage before it
  pub last_behind : (stage : ℕ) → stage ≡ length p.flights - done → done < length p.flights
      → (next : StageAhead) → next ≡ at stages done → IsBehind p v budget stage next
  last_behind stage is lt next e = elim (cases_eq done 0) [
    | inl none ↦ inl (omega (arith, is, none), e ∙ ap (at stages) none ∙ a.first)
    | inr some ↦
        let n : length p.flights + 1 - done ≡ stage + 1 = omega (arith, is, lt) in
        let c = a.completed done (omega (arith, some)) (omega arith) in
        inr (
          omega (arith, is, lt, some),
          subst (λ (s : StageAhead). AreCompleted p v budget (stage + 1) s.nodes s.lists)
              (sym e) (subst (λ (m : ℕ). AreCompleted p v budget m (at stages done).nodes (at stages done).lists) n c),
        )
  ]

  pub all_stages : done ≡ length p.flights → IsAheadBy p v budget held stages
  all_stages e = record {
    whole = a.long ∙ ap (λ (n : ℕ). n + 1) e;
    completed = λ s one le. subst (λ (n : ℕ). AreCompleted p v budget n (stage_of stages s).nodes
        (stage_of stages s).lists) (back s le) (a.completed (length stages - s) (low s le) (high s one));
    gathered = λ s one le. subst (λ (n : ℕ). IsGathered held n (stage_of stages s).nodes (stage_of stages s).places)
        (back s le) (a.gathered (length stages - s) (low s le) (high s one));
  }
    where
      back : (s : ℕ) → s ≤ length p.flights → length p.flights + 1 - (length stages - s) ≡ s
      back s le = (let l = a.long in omega arith)

      low : (s : ℕ) → s ≤ length p.flights → 1 ≤ length stages - s
      low s le = (let l = a.long in omega arith)

      high : (s : ℕ) → 1 ≤ s → length stages - s ≤ done
      high s one = (let l = a.long in omega arith)

-- the nodes of a stage that is held
pub held_nodes : (p : Problem) (held : Option HeldProblem) → network.IsWindowNetwork p → TellTheirRanks p
    → AreStagesOf p held → (stage : ℕ) → stage ≤ length p.flights → (nodes : List EarlyNode) (places : List ℕ)
    → IsGathered held stage nodes places → AreNodesOf p stage nodes
held_nodes p held net tell are stage le nodes places g =
    rw (are.number stage le) at (gathered_nodes p net tell _ _ (are.pairs stage le) nodes places g)

module _ (p : Problem) (v : ℕ) (budget : Option ℕ) (held : Option HeldProblem) (stages : List StageAhead)
    (a : IsAheadBy p v budget held stages) where
  pub each_listed : HasEachList p held stages
  each_listed s i one le lt =
      let g = a.gathered s one le in
      let c = a.completed s one le in
      record {
        from_one = one;
        to_last = (let w = a.whole in omega arith);
        place = (let l = g.long in omega arith);
        list = (let w = g.within i lt in let e = c.one_each in omega arith);
      }

  module _ (net : network.IsWindowNetwork p) (tell : TellTheirRanks p) (are : AreStagesOf p held)
      (s i : ℕ) (xs : List Landing) (one : 1 ≤ s) (le : s ≤ length p.flights) (lt : i < length (stage_in held s).1)
      (l : IsLandedPrefix p s xs) (at : network.node_of p.k (ranks xs) ≡ (s, window_in held s i)) where
    -- the list of a window of a landed prefix keeps the pairs that are wanted
    pub window_kept : KeepsWanted (IsCompletingPair p v (ranks xs)) (IsWanted p budget (ranks xs))
        (λ q. InPairs q (pairs_of stages s i))
    window_kept =
        let g = a.gathered s one le in
        let m = place_at _ i in
        let ends : network.node_of p.k (ranks xs) ≡ ((stage_in held s).0, window_in held s i) =
        at ∙ ap (λ n. (n, window_in held s i)) (sym (are.number s le)) in
        let of = window_prefix p net tell _ _ (are.pairs s le)
        _ _ _ l.legal ends (g.window i lt) in
        (a.completed s one le).kept m (ranks xs) (g.within i lt) l.legal l.long of

    pub window_rising : Rises (pairs_of stages s i)
    window_rising = (a.completed s one le).rising (place_at _ i)

-- where all are wanted the lists are exact
pub all_exact : (p : Problem) (v : ℕ) (held : Option HeldProblem) (stages : List StageAhead) → IsAheadOf p v held stages
    → network.IsWindowNetwork p → TellTheirRanks p → AreStagesOf p held → ListsAllCompleting p v held stages
all_exact p v held stages a net tell are s i xs one le lt l at =
    let k = window_kept p v None held stages a net tell are s i xs one le lt l at in
    let rising = window_rising p v None held stages a net tell are s i xs one le lt l at in
    record {
      undominated = rises_undominated (IsCompletingPair p v (ranks xs)) _ rising
          (record { completes = k.completes; covers = λ q c. k.covers q c tt });
      rising = rising;
    }

-- and where those of use are
pub all_of_use : (p : Problem) (v : ℕ) (held : Option HeldProblem) (stages : List StageAhead)
    → IsAheadWithin p v held stages → network.IsWindowNetwork p → TellTheirRanks p → AreStagesOf p held
    → ListsAllOfUse p v held stages
all_of_use p v held stages a net tell are s i xs one le lt l at = record {
  kept = window_kept p v (Some (budget_of p v)) held stages a net tell are s i xs one le lt l at;
  rising = window_rising p v (Some (budget_of p v)) held stages a net tell are s i xs one le lt l at;
}

-- what has all pairs has those of use
pub all_within : (p : Problem) (v : ℕ) (held : Option HeldProblem) (stages : List StageAhead)
    → IsAheadOf p v held stages → IsAheadWithin p v held stages
all_within p v held stages a = record {
  whole = a.whole;
  completed = λ s one le. (
      let c = a.completed s one le in
      record {
        are_nodes = c.are_nodes;
        one_each = c.one_each;
        kept = λ j rs lt legal long of. all_useful p (Some (budget_of p v)) rs (IsCompletingPair p v rs)
            (λ q. InPairs q (list_at (stage_of stages s).lists j)) (c.kept j rs lt legal long of);
        rising = c.rising;
        in_reach = c.in_reach;
      }
      );
  gathered = a.gathered;
}
