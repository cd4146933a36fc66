-- The pairs of a window of the next stage, from those of the windows that lead to it.
use Rattle.std.proofs.Common.{rules, ◌≡◌, ℕ, suc, ◌+◌, ◌-◌, ◌*◌, ◌/◌, ◌<◌, ◌≤◌, ◌⊎◌, inl, inr, List, [], length}
use Rattle.std.proofs.Common.{get_or, Option, Some, None, true, refl, sym, ap, subst, ◌∙◌, arith}
use Rattle.std.specs.Prelude.{ℤ, pos, ◌+ℤ◌, Contains, All, IsSome, MatchOption}
use Rattle.std.specs.List.Sorted.{IsPermutation}
use Rattle.std.proofs.lemmas.Int.{ints}
use Rattle.std.proofs.lemmas.List.Sorted.{All-permutation}
use Rattle.std.proofs.lemmas.Option.{same_Some}
use Rattle.std.proofs.lemmas.List.{get_or_default}
use Rattle.std.proofs.lemmas.List.Elements.{Contains-get_or}
use Rattle.cps_nodes.specs.Windows.{offset_at, shifted}
use Rattle.cps_nodes.specs.Laws.{offset_after}
use Rattle.cps_theory.specs.Labels.{InPairs, NoWorse, Pair}
use Rattle.cps_theory.specs.LegalPrefix.{Legal}
use Rattle.cps_theory.specs.Feasible.{next_from}
use Rattle.cps_theory.specs.Network.{Attained, Kept}
use Rattle.cps_theory.specs.UndominatedPairs.{Staircase, InPairOrder, sweep}
use Rattle.cps_theory.specs.laws.LeastObjective.{next_later}
use Rattle.cps_theory.specs.laws.NetworkLabels.{kept_next, kept_undominated, undominated_kept}
use Rattle.cps_theory.specs.laws.Staircases.{staircase_apart, sweep_covers, sweep_staircase, sweep_subset}
use Rattle.landing_joint.specs.RankedProblem.{ranked, first_at, cost_at}
use Rattle.landing_joint.specs.shared.FirstBestLists.{costs_rise}
use Rattle.landing_joint.specs.shared.FirstOpen.{is_first_open}
use Rattle.landing_rules.specs.Problem.{Problem}
use Rattle.landing_rules.specs.Rules.{last_second}
use Rattle.cps_problem.specs.WellFormed.{IsWellFormed}
use Rattle.cps_network.specs.Lists.{node_at}
use Rattle.cps_network.specs.Nodes.{WindowNode, node_of, permits, land, latest}
use Rattle.cps_network.specs.Permits.{IsNextOf, IsSuccessor}
use Rattle.cps_network.specs.WindowLaws.{WindowLaws}
use Rattle.cps_network.specs.shared.LeadingWindows.{Sources, successor_at, place_at, rank_of, leader_at, landable_at}
use Rattle.cps_network.specs.shared.LeadingWindows.{leader_range, rank_range, some_range}
use Rattle.cps_network.specs.shared.LegalWindows.{landable_valid}
use Rattle.cps_network.specs.Landable.{Attains}
use Rattle.cps_network.specs.Pairs.{ArePairsOf, AreCosts, GivesPair, HoldsCosts, list_at, pair_at, successor}
use Rattle.stage_landings.specs.Reach.{IsInReach, IsLatest, MayLead, StageOf}
use Rattle.delay_labels.specs.Bounds.{IsInDays, IsLeading, beyond_costs, most_before}
use Rattle.delay_labels.specs.Lists.{IsGivenIn, successors_in}
use Rattle.delay_labels.specs.Sources.{GivesNone, IsFirstSource}
use Rattle.delay_labels.specs.StageLists.{IsListOf, IsStageBehind}
use Rattle.cps_network.specs.shared.PairSteps.{in_at, at_in, next_attained}
use Rattle.cps_network.specs.shared.PairLists.{all_in, in_permuted, permuted_in}
use Rattle.delay_labels.proofs.ListLemmas.{given_in_range, range_gives}
use Rattle.delay_labels.proofs.CostLemmas.{attained_latest, attained_small}

module _ (p : Problem) (wf : IsWellFormed p) (w stage : ℕ) (before : List (List ℤ)) (v : List ℤ)
    (from to : ℕ) (range : Sources p w stage before v from to) (lists : List (List Pair))
    (are : AreCosts p (stage, before) lists) (days : (i : ℕ) → All IsInDays (list_at lists i))
    (l r : ℕ) (leader_is : pos l ≡ pos stage +ℤ offset_at (node_at before from) (w - 1))
    (rank_is : pos r ≡ pos (suc stage) +ℤ offset_at v (w - 1)) where
  -- few flights have landed
  pub few : suc stage ≤ 63
  few = grind arith

  listed_attained : (j : ℕ) → j < length before → (o : Pair) → InPairs o (list_at lists j)
      → Attains p stage (node_at before j) o
  listed_attained j lt o i = (((are.pairs j lt).undominated o).0 i).attained

  -- what a listed pair costs leaves room for one landing more
  pub listed_small : (j : ℕ) → j < length before → All (λ (q : Pair). q.1 ≤ most_before) (list_at lists j)
  listed_small j lt i d within =
      let o : Pair = get_or (list_at lists j) i d in
      let has : InPairs (get_or (list_at lists j) i d) (list_at lists j) = search (rules, at_in, get_or_default) in
      let s = attained_small p wf stage (node_at before j) (get_or (list_at lists j) i d)
      (listed_attained j lt (get_or (list_at lists j) i d) has) (days j i d within) in
      omega (arith, s, few)

  -- one landing more may come behind a listed pair of the range
  pub listed_leading : (j : ℕ) → from ≤ j → j < to → All (IsLeading p l) (list_at lists j)
  listed_leading j lo hi i d within =
      let lt : j < length before = omega (arith, hi, range.within) in
      let o : Pair = get_or (list_at lists j) i d in
      let has : InPairs o (list_at lists j) = search (rules, at_in, get_or_default) in
      let lead : latest (stage, node_at before j) ≡ l = search (rules, leader_at) in record {
        latest =
            subst (λ (m : ℕ). IsLatest p m o.0) lead
            (attained_latest p range.laws.network stage (node_at before j) o (listed_attained j lt o has)
            (days j i d within));
        cost = listed_small j lt i d within;
      }

  -- the successors of the listed pairs of the range are those of the network
  gives : (j : ℕ) → from ≤ j → j < to → (o q : Pair) → InPairs o (list_at lists j) → successor p l o r ≡ Some q
      → (x : IsSuccessor p stage (node_at before j) v) × (successor p (latest (stage, node_at before j)) o x.0 ≡ Some q)
  gives j lo hi o q i e =
      let lt : j < length before = omega (arith, hi, range.within) in
      let s = successor_at p w stage before v from to range j lo hi in
      let same : s.0 ≡ r = search (rules, rank_of, landable_at) in
      let lead : latest (stage, node_at before j) ≡ l = search (rules, leader_at) in
      (s, grind arith)

  -- a successor of a listed pair is attained
  given_attained : (q : Pair) → IsGivenIn p l r lists from to q → Attains p (suc stage) v q
  given_attained q (j, lo, hi, o, i, e) =
      let lt : j < length before = omega (arith, hi, range.within) in
      let g = gives j lo hi o q i e in
      subst (λ (y : List ℤ). Attains p (suc stage) y q) (sym g.0.2)
      (next_attained p range.laws.network (stage, node_at before j) o g.0.0 q (listed_attained j lt o i) g.0.1 g.1)

  given_small : (q : Pair) → q.0 ≤ last_second → IsGivenIn p l r lists from to q → q.1 < beyond_costs
  given_small q low g = let s = attained_small p wf (suc stage) v q (given_attained q g) low in omega (arith, s, few)

  -- which pair of which place gives a successor
  pub given_pair : (q : Pair) → IsGivenIn p l r lists from to q → (place : ℕ) × (index : ℕ)
      × GivesPair p (stage, before) lists v q place index
  given_pair q (j, lo, hi, o, i, e) =
      let at = in_at o (list_at lists j) i in
      let g = gives j lo hi o q i e in grind arith

  -- which places and indices give a pair
  pub gives_at : (q : Pair) (j index : ℕ) → from ≤ j → j < to → index < length (list_at lists j)
      → successor p l (pair_at (list_at lists j) index) r ≡ Some q → GivesPair p (stage, before) lists v q j index
  gives_at q j index lo hi lt e = grind (arith, gives, at_in)

  pub given_at : (q : Pair) (j index : ℕ) → GivesPair p (stage, before) lists v q j index → (from ≤ j)
      × (j < to) × (index < length (list_at lists j)) × (successor p l (pair_at (list_at lists j) index) r ≡ Some q)
  given_at q j index g =
      let x : IsSuccessor p stage (node_at before j) v = (g.rank, g.permitted, g.next) in
      let found = place_at p w stage before v from to range j g.within x in
      let same : g.rank ≡ r = rank_of p w stage before v from to range r rank_is (node_at before j)
      (landable_at p w stage before v from to range j g.within) x in
      let lead : latest (stage, node_at before j) ≡ l = search (rules, leader_at) in grind arith

  -- where some place and index give the pair, some are found in the range
  pub source_known : (q : Pair) (j index : ℕ) → GivesPair p (stage, before) lists v q j index → (found : Option (ℕ × ℕ))
      → MatchOption found ((i : ℕ) → from ≤ i → i < to → GivesNone p l r (list_at lists i) q)
      (IsFirstSource p l r lists from to q) → IsSome found
  source_known q j index given None none = let g = given_at q j index given in absurd (none j g.0 g.1 index g.2 g.3)
  source_known q j index given (Some at) first = refl

  -- what is found is the first place and index that give the pair
  abbrev IsFirstToGive : Pair → ℕ × ℕ → Type 0
  IsFirstToGive q at = GivesPair p (stage, before) lists v q at.0 at.1 × ((place i : ℕ)
      → (place < at.0) ⊎ ((place ≡ at.0) × (i < at.1)) → GivesPair p (stage, before) lists v q place i → ⊥)

  pub first_to_give : (q : Pair) (found : Option (ℕ × ℕ)) (at : ℕ × ℕ)
      → MatchOption found ((i : ℕ) → from ≤ i → i < to → GivesNone p l r (list_at lists i) q)
      (IsFirstSource p l r lists from to q) → found ≡ Some at → IsFirstToGive q at
  first_to_give q None at none e = absurd (cc)
  first_to_give q (Some (place, i)) at (lo, hi, (within, lands, first), none) e =
      subst (IsFirstToGive q) (same_Some (place, i) at e)
      (gives_at q place i lo hi within lands, λ n m below other. let g = given_at q n m other in grind arith)

  abbrev Lists : WindowNode → Pair → Type 0
  Lists n q = (j : ℕ) × (j < length before) × (n ≡ (stage, node_at before j)) × InPairs q (list_at lists j)

  abbrev Here : WindowNode → Pair → Type 0
  Here n q = Attained (λ s u. (ranked p).is_open s u ≡ true) (next_from (ranked p)) (cost_at p)
      (Legal (ranked p).rules) (node_of p.k) n q

  source_kept : (n : WindowNode) → n.0 ≡ stage → Kept (Here n) (Lists n)
  source_kept n at = record {
    attained = grind (arith, listed_attained);
    covers = λ q a.
        let same : n ≡ (stage, n.1) = ap (λ (s : ℕ). (s, n.1)) at in
        let a' : Attains p stage n.1 q = subst (λ (m : WindowNode). Here m q) same a in
        let has = (range.holds n.1).1 (q, a') in
        let it : node_at before has.0 ≡ n.1 = get_or_default before has.0 [] n.1 has.1 ∙ has.2 in
        let c = (are.pairs has.0 has.1).covers q (subst (λ (y : List ℤ). Attains p stage y q) (sym it) a') in
        grind arith;
  }

  -- lists of which each pair is a successor, and each successor has one no later and no dearer
  node_kept : (pairs : List Pair) → ((q : Pair) → InPairs q pairs → IsGivenIn p l r lists from to q)
      → ((q : Pair) → IsGivenIn p l r lists from to q → (o : Pair) × InPairs o pairs × NoWorse o q)
      → Kept (Attains p (suc stage) v) (λ q. InPairs q pairs)
  node_kept pairs made enough = kept_next WindowNode (λ s u. (ranked p).is_open s u ≡ true) (first_at p) (next_from
      (ranked p)) (cost_at p) (Legal (ranked p).rules) (node_of p.k) (permits p) land latest (is_first_open p)
      (next_later (ranked p)) (costs_rise p) range.laws.network Lists (suc stage, v) (λ q. InPairs q pairs)
      (λ e. never (ap (λ (n : WindowNode). n.0) e))
      (λ n s may at. source_kept n (less (ap (λ (m : WindowNode). m.0) at))) (λ q i.
      let g = made q i in
      let lt : g.0 < length before = let h = g.2 in omega (arith, h, range.within) in
      let x = gives g.0 g.1 g.2 g.3 q g.4 g.5 in (
        (stage, node_at before g.0),
        x.0.0,
        g.3,
        x.0.1,
        ap (λ (y : List ℤ). (suc stage, y)) (sym x.0.2),
        (g.0, lt, refl, g.4),
        x.1,
      ))
      (λ n s o q may at k e. enough q (given_of n s o q may at k e))
    where
      never : 0 ≡ suc stage → ⊥
      never e = omega arith

      less : {a b : ℕ} → suc a ≡ suc b → a ≡ b
      less {a} {b} e = omega arith

      given_of : (n : WindowNode) (s : ℕ) (o q : Pair) → permits p n s → land n s ≡ (suc stage, v)
          → Lists n o → successor p (latest n) o s ≡ Some q → IsGivenIn p l r lists from to q
      given_of n s o q may at (j, lt, is, i) e =
          let may' : permits p (stage, node_at before j) s = subst (λ (m : WindowNode). permits p m s) is may in
          let next : v ≡ shifted (node_at before j) (offset_after stage s) =
          sym (ap (λ (m : WindowNode). m.1) at) ∙ ap (λ (m : WindowNode). (land m s).1) is in
          let x : IsSuccessor p stage (node_at before j) v = (s, may', next) in
          let found = place_at p w stage before v from to range j lt x in
          let same : s ≡ r = rank_of p w stage before v from to range r rank_is (node_at before j)
          (landable_at p w stage before v from to range j lt) x in
          let lead : latest n ≡ l =
          ap latest is ∙ leader_at p w stage before v from to range l leader_is j found.0 found.1 in (
            j,
            found.0,
            found.1,
            o,
            i,
            sym (ap (λ (y : ℕ). successor p y o s) lead ∙ ap (λ (y : ℕ). successor p l o y) same) ∙ e,
          )

  kept_pairs : (pairs : List Pair) → Kept (Attains p (suc stage) v) (λ q. InPairs q pairs)
      → Staircase pairs → ArePairsOf p (suc stage) v pairs
  kept_pairs pairs kept falling = record {
    undominated = λ q. (
      kept_undominated (Attains p (suc stage) v) (λ (z : Pair). InPairs z pairs) kept (staircase_apart pairs falling) q,
      undominated_kept (Attains p (suc stage) v) (λ (z : Pair). InPairs z pairs) kept q,
    );
    covers = kept.covers;
    falling = falling;
  }

  -- of the successors in order, those that are cheaper than all before them
  pub swept_pairs : (sorted : List Pair) → InPairOrder sorted → All IsInDays sorted
      → ((q : Pair) → InPairs q sorted → IsGivenIn p l r lists from to q)
      → ((q : Pair) → IsGivenIn p l r lists from to q → InPairs q sorted)
      → ArePairsOf p (suc stage) v (sweep beyond_costs sorted)
  swept_pairs sorted up in_days made all = kept_pairs (sweep beyond_costs sorted)
      (node_kept (sweep beyond_costs sorted) (λ q i. made q (sweep_subset beyond_costs sorted q i)) (λ q g.
      let i = all q g in
      elim (sweep_covers beyond_costs sorted up q i) [
        | inl c ↦ c
        | inr high ↦ absurd (let s = given_small q (all_in IsInDays sorted in_days q i) g in omega (arith, s, high))
      ]))
      (sweep_staircase beyond_costs sorted up)

-- ---- as the call has it

pub pairs_here : (p : Problem) → IsWellFormed p → (w : ℕ) (before after : ℕ × List (List ℤ)) (i from to : ℕ)
    → Sources p w before.0 before.1 (node_at after.1 i) from to → (lists : List (List Pair)) → AreCosts p before lists
    → ((i : ℕ) → All IsInDays (list_at lists i)) → (l r : ℕ)
    → pos l ≡ pos before.0 +ℤ offset_at (node_at before.1 from) (w - 1)
    → pos r ≡ pos (suc before.0) +ℤ offset_at (node_at after.1 i) (w - 1) → after.0 ≡ before.0 + 1 → to ≤ length lists
    → (found sorted : List Pair) → found ≡ successors_in p l r lists from to → IsPermutation found sorted
    → InPairOrder sorted → All IsInDays found → IsListOf p before lists after i (sweep beyond_costs sorted)
pairs_here p wf w before after i from to range lists are days l r leader_is rank_is
    number within found sorted is moved up in_days =
    let v = node_at after.1 i in
    let f : suc before.0 ≡ after.0 = omega (arith, number) in
    let made : (q : Pair) → InPairs q sorted → IsGivenIn p l r lists from to q =
    λ q i. given_in_range p l r lists from to q (subst (InPairs q) is (permuted_in found sorted moved q i)) in
    let all : (q : Pair) → IsGivenIn p l r lists from to q → InPairs q sorted =
    λ q g. in_permuted found sorted moved q
    (subst (InPairs q) (sym is) (range_gives p l r lists from to q within g)) in record {
      pairs_are =
          subst (λ (s : ℕ). ArePairsOf p s v (sweep beyond_costs sorted)) f
          (swept_pairs p wf w before.0 before.1 v from to range lists are days l r leader_is rank_is sorted up
          (All-permutation IsInDays found sorted moved in_days) made all);
      sources =
          λ q i. given_pair p wf w before.0 before.1 v from to range lists are days l r leader_is rank_is q
          (made q (sweep_subset beyond_costs sorted q i));
    }

-- the window that a pair comes from
pub given_source : (p : Problem) (before : ℕ × List (List ℤ)) (lists : List (List Pair)) (v : List ℤ)
    (q : Pair) (j index : ℕ) → GivesPair p before lists v q j index
    → (x : List ℤ) × Contains before.1 x × IsSuccessor p before.0 x v
given_source p before lists v q j index g = grind (arith, Contains-get_or)

-- the ranks that land last there, as numbers of flights
module _ {p : Problem} {w stage : ℕ} {before : List (List ℤ)} {v : List ℤ} {from to : ℕ}
    (range : Sources p w stage before v from to) where
  pub leader_within : (l : ℕ) → pos l ≡ pos stage +ℤ offset_at (node_at before from) (w - 1) → l ≤ length p.flights
  leader_within l is =
      let r = leader_range p w stage before v from to range in omega (arith, ints, is, r.0, r.1)

  pub rank_within : (r : ℕ) → pos r ≡ pos (suc stage) +ℤ offset_at v (w - 1) → (1 ≤ r) × (r ≤ length p.flights)
  rank_within r is =
      let k = rank_range p w stage before v from to range in grind arith

-- and as ranks in reach of the stage
module _ {p : Problem} {w stage : ℕ} {before : List (List ℤ)} {v : List ℤ} {from to : ℕ}
    (range : Sources p w stage before v from to) (number : ℕ) (next : number ≡ stage + 1) where
  pub may_lead : (l : ℕ) → pos l ≡ pos stage +ℤ offset_at (node_at before from) (w - 1) → MayLead p number l
  may_lead l is =
      let some = some_range p w stage before v from to range in
      let valid = landable_valid p w range.odd range.laws stage (node_at before from)
      (landable_at p w stage before v from to range from (omega (arith, some, range.within))) in
      let low = valid.low (w - 1) (omega (arith, range.odd)) in
      let high = valid.high (w - 1) (omega (arith, range.odd)) in
      let count = leader_within range l is in
      let half : w / 2 ≡ p.k = omega (arith, range.odd) in record {
        to_count = count;
        late = omega (arith, ints, is, low, half, next);
        early = omega (arith, ints, is, high, half, next);
      }

  pub in_reach : (r : ℕ) → pos r ≡ pos (suc stage) +ℤ offset_at v (w - 1) → IsInReach p number r
  in_reach r is =
      let s = range.node.2 in
      let same : s.0 ≡ r = rank_of p w stage before v from to range r is range.node.0
      ((range.holds range.node.0).0 range.node.1) s in
      let may = s.1 in record {
        from_one = omega (arith, same, may.from_one);
        to_count = omega (arith, same, may.to_count);
        late = omega (arith, same, may.late, next);
        early = omega (arith, same, may.early, next);
      }

-- ---- a whole stage

module _ (p : Problem) (landings : StageOf) (same : landings.problem ≡ p) (w : ℕ) (before : ℕ × List (List ℤ))
    (lists : List (List Pair)) (stage : ℕ × List (List ℤ)) where
  -- the landings are those of the problem
  pub stage_behind : landings.number ≡ stage.0 → IsWellFormed p → w ≡ 2 * p.k + 1 → WindowLaws p w
      → HoldsCosts p before lists → stage.0 ≡ before.0 + 1 → IsNextOf p before.0 before.1 stage.1
      → IsStageBehind landings w before lists stage
  stage_behind at formed width laws held number next = record {
    at = at;
    formed = subst IsWellFormed (sym same) formed;
    width = subst (λ (q : Problem). w ≡ 2 * q.k + 1) (sym same) width;
    laws = subst (λ (q : Problem). WindowLaws q w) (sym same) laws;
    held = subst (λ (q : Problem). HoldsCosts q before lists) (sym same) held;
    number = number;
    next = subst (λ (q : Problem). IsNextOf q before.0 before.1 stage.1) (sym same) next;
  }

  -- its lists are the pairs of its windows
  pub stage_costs : (costs : List (List Pair)) → length costs ≡ length stage.1
      → ((i : ℕ) → i < length stage.1 → IsListOf landings.problem before lists stage i (list_at costs i))
      → AreCosts p stage costs × ((i : ℕ) → i < length stage.1 → (q : Pair) → InPairs q (list_at costs i)
      → (place : ℕ) × (index : ℕ) × GivesPair p before lists (node_at stage.1 i) q place index)
  stage_costs costs long all =
      let here : (i : ℕ) → i < length stage.1 → IsListOf p before lists stage i (list_at costs i) =
      λ i lt. subst (λ (q : Problem). IsListOf q before lists stage i (list_at costs i)) same (all i lt) in (
        record { one_each = long; pairs = λ i lt. (here i lt).pairs_are },
        λ i lt. (here i lt).sources,
      )
