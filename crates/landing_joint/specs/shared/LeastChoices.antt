-- Taking at each place the least rank that can still be completed at the value lands the first best list.
use Rattle.std.proofs.Common.{◌≡◌, ℕ, suc, ◌<◌, ◌≤◌, true, zero-le, List, [], ◌∷◌, length, Some, arith, refl, sym, ap}
use Rattle.std.proofs.Common.{◌∙◌, le_trans}
use Rattle.std.proofs.lemmas.Bool.{leb-true, le-leb}
use Rattle.landing_rules.specs.declared.objective.Objective.{Objective}
use Rattle.landing_rules.specs.declared.objective.Objective.TheVariants.{Makespan, Delay}
use Rattle.landing_rules.specs.Problem as lists'
use Rattle.landing_rules.specs.FirstBest.{IsFirstBestList}
use Rattle.cps_theory.specs.RankLists.{IsRank, of_rank}
use Rattle.cps_theory.specs.Separation.{Landing}
use Rattle.cps_theory.specs.LandingTrail.{cost_of, latest_landing, pair_of, ranks}
use Rattle.cps_theory.specs.Labels.{Pair}
use Rattle.cps_theory.specs.Patterns.{PatternNode, PatternPermits, pattern_newest, pattern_node, pattern_push}
use Rattle.cps_theory.specs.Feasible.{Feasible, SoundProblem, at_seconds, next_from}
use Rattle.cps_theory.specs.ProblemNetwork.{LandedIn}
use Rattle.cps_theory.specs.CompletingPairs.{AllLow, Choice, KeptCompleting, NoEarlierNoDearer}
use Rattle.cps_theory.specs.FirstBest.{BuiltByLeastChoices, CompletesNode}
use Rattle.cps_theory.specs.laws.FeasibleOrder.{feasible_lands, ranks_at}
use Rattle.cps_theory.specs.laws.FirstBest.{built_first, built_goes_on}
use Rattle.cps_theory.specs.laws.FirstBestObjectives.{all_low, landed_low, low_last, low_true, no_cost}
use Rattle.cps_theory.specs.laws.LabelDominance.{last_ranks}
use Rattle.cps_theory.specs.laws.LandingOrder.{sorted}
use Rattle.cps_theory.specs.laws.LeastObjective.{pair_all}
use Rattle.landing_joint.specs.RankedProblem.{no_waiting, ranked, cost_at, cost_by, first_at, landing_after}
use Rattle.landing_joint.specs.RankedProblem.{makespan_by, value_at, value_by, value_of_map}
use Rattle.landing_joint.specs.CompletingPairs.{AreCompletingPairs, AreLeastChoices, CanChoose, IsLeastObjective}
use Rattle.landing_joint.specs.CompletingPairs.{IsLegal, budget_by, budget_of, is_low, low_by, seconds_by_rank}
use Rattle.landing_joint.specs.shared.RankedLists.{list_feasible, feasible_list, feasible_agree}
use Rattle.landing_joint.specs.shared.BestLists.{list_value}
use Rattle.landing_joint.specs.shared.FirstOpen.{is_first_open}
use Rattle.landing_joint.specs.shared.FirstBestLists.{costs_rise, first_best_listed, list_of, list_of_at, list_of_long}
use Rattle.landing_joint.specs.shared.FirstBestLists.{value_agree}
use Rattle.landing_joint.specs.shared.NodePairs.{net, completes_node, completes_one, node_completes, pattern_one}

-- what is low is low earlier
pub lower_by : (v : ℕ) (o : Objective) (t u : ℕ) → t ≤ u → low_by o v u ≡ true → low_by o v t ≡ true
lower_by v Makespan t u le h = le-leb t v (le_trans le (leb-true u v h))
lower_by v Delay t u le h = refl

module _ (p : lists'.Problem) (sound : SoundProblem (ranked p)) (passed : (r : ℕ) → IsRank (length p.flights) r
    → (of_rank no_waiting p.flights r).passed ≤ p.k) (v : ℕ) (value_is : IsLeastObjective p v) where
  -- ---- the value

  at_value : (q : Pair) × (value_at p q ≡ v)
  at_value = grind (arith, list_value)

  no_less : (u : ℕ → ℕ) → Feasible (ranked p) u → v ≤ value_of_map p u
  no_less u f =
      let w = list_of (length p.flights) u in
      let g = feasible_list p passed w (list_of_long _ u) (feasible_agree _ u _ (λ r q. sym (list_of_at _ u r q)) f) in
      let b = list_value p w (list_of_long _ u) in grind (arith, value_agree, list_of_at)

  last_low : (fs : List lists'.Waiting) (xs : List Landing) → length (ranks xs) ≡ length fs
      → makespan_by fs p (latest_landing xs).1 ≤ v → (latest_landing xs).1 ≤ v
  last_low fs xs e le = grind (arith, zero-le)

  last_back : (fs : List lists'.Waiting) (m t : ℕ) → makespan_by fs p m ≡ v → t ≤ v → makespan_by fs p t ≤ v
  last_back fs m t e le = grind arith

  -- a trail is within the value exactly where its seconds are low and its cost is within the budget
  within_by : (o : Objective) (xs : List Landing) → IsLegal p (ranks xs) → LandedIn (ranked p) xs
      → length (ranks xs) ≡ length p.flights
      → value_by o p (pair_of (λ r t. cost_by o (of_rank no_waiting p.flights r) t) xs) ≤ v
      → AllLow (λ t. low_by o v t ≡ true) xs
      × (cost_of (λ r t. cost_by o (of_rank no_waiting p.flights r) t) xs ≤ budget_by o p v)
  within_by Makespan xs l d whole le = (
    low_true _ sound _ (is_first_open p) v xs
        (landed_low _ sound _ (is_first_open p) v xs l d (last_low _ xs whole le)),
    omega (arith, no_cost _ sound _ (is_first_open p) xs),
  )
  within_by Delay xs l d whole le = (all_low _ sound _ (is_first_open p) xs, omega arith)

  back_by : (o : Objective) (q : Pair) → value_by o p q ≡ v → (xs : List Landing) → AllLow (λ t. low_by o v t ≡ true) xs
      → cost_of (λ r t. cost_by o (of_rank no_waiting p.flights r) t) xs ≤ budget_by o p v
      → value_by o p (pair_of (λ r t. cost_by o (of_rank no_waiting p.flights r) t) xs) ≤ v
  back_by Makespan q e xs a c = last_back _ q.0 _ e (low_last _ sound _ (is_first_open p) v xs a)
  back_by Delay q e xs a c = omega arith

  -- ---- the kept pairs of a pattern

  module _ (Keeps : List ℕ → Pair → Type 0) (kept : AreCompletingPairs p v Keeps) where
    abbrev node : List ℕ → PatternNode
    node rs = pattern_node (ranked p).rules rs

    record KeepsIn (w : PatternNode) (q : Pair) : Type 0 where
      pub last : Landing
      pub before : List Landing
      pub legal : IsLegal p (ranks (last ∷ before))
      pub landed : LandedIn (ranked p) (last ∷ before)
      pub at : pattern_node (ranked p).rules (ranks (last ∷ before)) ≡ w
      pub keeps : Keeps (ranks (last ∷ before)) q

    abbrev CompletesPattern : PatternNode → Pair → Type 0
    CompletesPattern w q = CompletesNode (ranked p) (cost_at p) (is_low p v) w q

    kept_in : (rs : List ℕ) (r : ℕ) → IsLegal p (r ∷ rs)
        → KeptCompleting (CompletesPattern (node (r ∷ rs))) (KeepsIn (node (r ∷ rs)))
    kept_in rs r l = record {
      completes = grind (arith, completes_node);
      covers = λ q c. by q c c.reached.landings c.reached.legal c.reached.landed c.reached.at;
    }
      where
        by : (q : Pair) → CompletesPattern (node (r ∷ rs)) q → (ls : List Landing) → IsLegal p (ranks ls)
            → LandedIn (ranked p) ls → node (ranks ls) ≡ node (r ∷ rs) → (o : Pair) × KeepsIn (node (r ∷ rs)) o
            × NoEarlierNoDearer o q
        by q c [] l' d e = absurd (omega (arith, ap (λ (w : PatternNode). w.0) e))
        by q c (x ∷ xs) l' d e =
            let done = completes_one p sound v _ _ q l l' (pattern_one p sound (r ∷ rs) _ l l' (sym e))
            (node_completes p sound v _ q l c) in
            let o = (kept x xs l' d).covers q done in
            (search)

    abbrev ChoiceIn : List Landing → ℕ → ℕ → Type 0
    ChoiceIn xs r t = Choice PatternNode (first_at p) (next_from (ranked p)) (cost_at p)
        (PatternPermits (ranked p).rules) (pattern_push (ranked p).rules) pattern_newest KeepsIn
        (budget_of p v) (node (ranks xs)) (pair_of (cost_at p) xs) r t

    abbrev Built : List Landing → Type 0
    Built xs = BuiltByLeastChoices PatternNode (first_at p) (next_from (ranked p)) (cost_at p)
        (pattern_node (ranked p).rules) (PatternPermits (ranked p).rules)
        (pattern_push (ranked p).rules) pattern_newest KeepsIn (budget_of p v) xs

    landed_more : (xs : List Landing) (r t : ℕ) → LandedIn (ranked p) xs
        → landing_after p (latest_landing xs).0 (latest_landing xs).1 r ≡ Some t → LandedIn (ranked p) ((r, t) ∷ xs)
    landed_more xs r t d e = let f =
        (is_first_open p).found r (next_from (ranked p) (latest_landing xs).0 (latest_landing xs).1 r) t e in
        (f.0, f.1, d)

    -- a choice is one by the pattern
    choice_in : (xs : List Landing) (r t : ℕ) → IsLegal p (ranks xs) → LandedIn (ranked p) xs
        → CanChoose p v Keeps xs r t → ChoiceIn xs r t
    choice_in xs r t l d c = record {
      permitted = ((net p sound).shrinks r (ranks xs) c.legal).1;
      found = ap (λ k. landing_after p k (latest_landing xs).1 r) (last_ranks xs) ∙ c.lands;
      can_end = (
        c.pair,
        record {
          last = (r, t);
          before = xs;
          legal = c.legal;
          landed = landed_more xs r t d c.lands;
          at = (net p sound).pushes r (ranks xs) l;
          keeps = c.kept;
        },
        c.in_time,
        c.cheap,
      );
    }

    choice_back : (xs : List Landing) (r t : ℕ) → IsLegal p (ranks xs) → LandedIn (ranked p) xs
        → ChoiceIn xs r t → CanChoose p v Keeps xs r t
    choice_back xs r t l d c =
        let legal = (net p sound).grows r (ranks xs) l c.permitted in
        let lands = sym (ap (λ k. landing_after p k (latest_landing xs).1 r) (last_ranks xs)) ∙ c.found in
        let o = c.can_end.0 in
        let k = c.can_end.1 in
        let at = k.at ∙ sym ((net p sound).pushes r (ranks xs) l) in
        let done = completes_one p sound v _ _ o k.legal legal (pattern_one p sound _ _ k.legal legal at)
        ((kept k.last k.before k.legal k.landed).completes o k.keeps) in
        let n = (kept (r, t) xs legal (landed_more xs r t d lands)).covers o done in grind (arith, le_trans)

    built_in : (xs : List Landing) → AreLeastChoices p v Keeps xs → Built xs × IsLegal p (ranks xs)
        × LandedIn (ranked p) xs
    built_in [] a = (tt, tt, tt)
    built_in (x ∷ xs) a =
        let ih = built_in xs a.2 in (
          (choice_in xs x.0 x.1 ih.1 ih.2 a.0, λ q u c. a.1 q u (choice_back xs q u ih.1 ih.2 c), ih.0),
          a.0.legal,
          landed_more xs x.0 x.1 ih.2 a.0.lands,
        )

    length_ranks : (xs : List Landing) → length (ranks xs) ≡ length xs
    length_ranks [] = refl
    length_ranks (x ∷ xs) = ap suc (length_ranks xs)

    -- a whole trail of least choices lands as the first best list
    pub choices_first_best : (xs : List Landing) → AreLeastChoices p v Keeps xs → length xs ≡ length p.flights
        → IsFirstBestList p (seconds_by_rank p xs)
    choices_first_best xs a whole =
        let b = built_in xs a in
        let f = built_first _ sound _ (is_first_open p) _ (costs_rise p) _ _ _ (λ rs. refl) _ _ _ (net p sound)
        _ (lower_by v _) _ kept_in _ (value_at p) v
        (within_by _) (λ ys l d w low cheap. back_by _ _ at_value.1 ys low cheap)
        no_less xs b.1 (length_ranks xs ∙ whole) b.0 in
        first_best_listed p sound passed _ f.0

    -- and while it is not whole some rank can be chosen
    pub choice_found : (xs : List Landing) → AreLeastChoices p v Keeps xs → length xs < length p.flights
        → (r : ℕ) × (t : ℕ) × CanChoose p v Keeps xs r t
    unfolding at_value
    choice_found xs a short =
        let b = built_in xs a in
        let u = of_rank 0 value_is.attained.0 in
        let fu = list_feasible p _ value_is.attained.1 in
        let rs = sorted u (length p.flights) in
        let us = at_seconds u rs in
        let fl = feasible_lands _ u sound fu in
        let same = ranks_at u rs in
        let value_us = ap (value_at p) (pair_all _ (cost_at p) sound u rs fl) ∙ at_value.1 in
        let w = within_by _ us (rw same fl.legal) fl.landed (cc) (omega (arith, value_us)) in
        let n = length_ranks xs in
        let c = built_goes_on _ sound _ (is_first_open p) _ (costs_rise p) _ _ _ (λ rs. refl) _ _ _ (net p sound)
        _ (lower_by v _) _ kept_in _ u fu w.0 w.1 xs b.0 b.1 (λ e. omega arith) in
        (c.0, c.1, choice_back xs c.0 c.1 b.1 b.2 c.2)
