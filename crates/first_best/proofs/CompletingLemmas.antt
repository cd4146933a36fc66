-- The pairs of the nodes of a stage complete them, where those of the next stage do.
use Rattle.std.proofs.Common.{◌≡◌, ℕ, suc, ◌+◌, ◌-◌, ◌<◌, ◌≤◌, inl, inr, List, [], ◌∷◌, length, Option, true, refl, sym}
use Rattle.std.proofs.Common.{ap, subst, ◌∙◌, le_refl, le_trans, arith}
use Rattle.std.proofs.lemmas.Bool.{cases_lt}
use Rattle.std.proofs.lemmas.List.{get_or_past}
use Rattle.landing_rules.specs.Problem.{Problem}
use Rattle.cps_theory.specs.Feasible.{SoundProblem}
use Rattle.cps_theory.specs.Labels.{InPairs, Pair}
use Rattle.cps_theory.specs.LandingTrail.{last_rank}
use Rattle.cps_theory.specs.CompletingPairs.{KeptCompleting}
use Rattle.cps_theory.specs.laws.CompletingPairs.{no_earlier_no_dearer_trans}
use Rattle.landing_joint.specs.RankedProblem.{ranked, cost_at, landing_after}
use Rattle.landing_joint.specs.CompletingPairs.{CanLandBy, IsCompletingPair, IsLastPair, IsLegal, IsSuccessorPair}
use Rattle.landing_joint.specs.shared.RankedLists.{sound_ranked}
use Rattle.landing_joint.specs.shared.SuccessorPairs.{last_pairs, successor_pairs}
use Rattle.cps_problem.specs.WellFormed.{IsWellFormed}
use Rattle.cps_network.specs.Pairs.{list_at}
use Rattle.first_best.specs.declared.node.EarlyNode.{EarlyNode}
use Rattle.first_best.specs.Nodes.{node_at, AreNodesOf, IsPrefixOf, IsReached}
use Rattle.first_best.specs.Completing.{AreInReach, AreListsOf, ArePairsOf, IsWithinBudget, IsEnd, IsPairOf, Rises}
use Rattle.first_best.specs.Completing.{StageAhead}
use Rattle.first_best.specs.Uses.{IsWanted, KeepsWanted}
use Rattle.first_best.specs.Stages.{AreCompleted, IsBehind}
use Rattle.first_best.specs.Ranges.{IsNextIn}
use Rattle.first_best.proofs.NodeLemmas.{by_lands, lands_by, leads_on, node_one, on_leads, rank_of}
use Rattle.first_best.proofs.UseLemmas.{all_kept, wanted_next, wanted_room}

pub sound_of : (p : Problem) → IsWellFormed p → SoundProblem (ranked p)
sound_of p wf = sound_ranked p wf.table (λ q r b. let a = wf.between_ranks q r b in (a.0, a.1))

-- some node of the stage lists the pair for a prefix of it
pub record IsListed (nodes : List EarlyNode) (lists : List (List Pair)) (rs : List ℕ) (q : Pair) : Type 0 where
  pub place : ℕ
  pub within : place < length nodes
  pub of_node : IsPrefixOf rs (node_at nodes place)
  pub listed : InPairs q (list_at lists place)

-- the listed pairs of each prefix that can land complete it, and cover those that are wanted
pub listed_wanted : (p : Problem) (v : ℕ) (budget : Option ℕ) (stage : ℕ) (nodes : List EarlyNode)
    (lists : List (List Pair)) → AreCompleted p v budget stage nodes lists → (rs : List ℕ) (b : ℕ)
    → IsLegal p rs → length rs ≡ stage → CanLandBy p rs b
    → KeepsWanted (IsCompletingPair p v rs) (IsWanted p budget rs) (IsListed nodes lists rs)
listed_wanted p v budget stage nodes lists c rs b legal long can =
    let e = c.are_nodes.every can.landings
    (record { legal = can.legal; landed = can.landed; long = can.one_node.stage ∙ long }) in
    let of : IsPrefixOf rs (node_at nodes e.0) = node_one _ rs _ (record {
      stage = sym can.one_node.stage;
      placed = λ x. let a = can.one_node.placed x in (a.1, a.0);
      latest = sym can.one_node.latest;
    }) e.2 in
    record {
      completes = λ q k. (c.kept k.place rs k.within legal long k.of_node).completes q k.listed;
      covers = λ q h w. (let a = (c.kept e.0 rs e.1 legal long of).covers q h w in
          (a.0, record { place = e.0; within = e.1; of_node = of; listed = a.1 }, a.2));
    }

module _ (p : Problem) (wf : IsWellFormed p) (v : ℕ) (budget : Option ℕ) (stage : ℕ) (these : List EarlyNode)
    (are : AreNodesOf p stage these) (j : ℕ) (lt : j < length these) (rs : List ℕ) (legal : IsLegal p rs)
    (long : length rs ≡ stage) (of : IsPrefixOf rs (node_at these j)) (next : StageAhead) (pairs : List Pair)
    (made : ArePairsOf p v budget stage (node_at these j) next pairs) where
  opened_last : (b : ℕ) → (ranked p).is_open (node_at these j).last b ≡ true
      → (ranked p).is_open (last_rank rs) b ≡ true
  opened_last b o = rw of.last o

  last_opened : (b : ℕ) → (ranked p).is_open (last_rank rs) b ≡ true
      → (ranked p).is_open (node_at these j).last b ≡ true
  last_opened b o = rw of.last at o

  -- there is room for what costs no more than a pair that is wanted
  room : (q : Pair) (cost : ℕ) → cost ≤ q.1 → IsWanted p budget rs q
      → IsWithinBudget budget (node_at these j).cheapest cost
  room = wanted_room p budget rs _
      (λ xs l o. are.cheap j xs lt (record { legal = l.legal; landed = l.landed; long = l.long ∙ long }) o) of

  -- at the last stage
  pub last_complete : stage ≡ length p.flights
      → KeepsWanted (IsCompletingPair p v rs) (IsWanted p budget rs) (λ q. InPairs q pairs)
  last_complete whole = record {
    completes = λ q i.
        let h = made.are q i in
        each.completes q (record {
          opened = opened_last q.0 h.opened;
          reached = lands_by p stage these are j lt rs long of q.0 h.reached;
          low = h.low;
          cost_is = free q.0 q.1 h.end;
        });
    covers = λ q c w.
        let s = each.covers q c in
        let l = s.1 in
        let a = made.cover s.0 (record {
          opened = last_opened s.0.0 l.opened;
          reached = by_lands p stage these are j lt rs long of s.0.0 l.reached;
          low = l.low;
          end = inl (whole, l.cost_is);
        }) (room q s.0.1 s.2.1 w) in
        (a.0, a.1, no_earlier_no_dearer_trans a.0 s.0 q a.2 s.2);
  }
    where
      each : KeptCompleting (IsCompletingPair p v rs) (IsLastPair p v rs)
      each = last_pairs p (sound_of p wf) v rs legal (IsLastPair p v rs) (long ∙ whole)
          (record { are = λ q l. l; cover = λ q l. (q, l, (le_refl q.0, le_refl q.1)) })

      free : (b c : ℕ) → IsEnd p stage (node_at these j) next b c → c ≡ 0
      free b c (inl e) = e.1
      free b c (inr e) = absurd (let a = e.0 in omega arith)

  module _ (short : stage < length p.flights) (completed : AreCompleted p v budget (stage + 1) next.nodes next.lists)
    where
      one_more : (r : ℕ) → length (r ∷ rs) ≡ stage + 1
      one_more r = omega arith

      reached_next : (m : ℕ) → m < length next.nodes → IsReached p (suc (length rs)) (node_at next.nodes m)
      reached_next m l = rw (let e : stage + 1 ≡ suc (length rs) =
          omega arith in e) at (completed.are_nodes.reached m l)

      of_pair : (q : Pair) → IsPairOf p v stage (node_at these j) next q
          → IsSuccessorPair p v (IsCompletingPair p v) rs q
      of_pair q h = go h.end
        where
          go : IsEnd p stage (node_at these j) next q.0 q.1 → IsSuccessorPair p v (IsCompletingPair p v) rs q
          go (inl e) = absurd (let a = e.0 in omega arith)
          go (inr (_, w)) =
              let on = leads_on p rs legal _ _ of w.leads (reached_next w.place w.within) in
              record {
                opened = opened_last q.0 h.opened;
                reached = lands_by p stage these are j lt rs long of q.0 h.reached;
                low = h.low;
                rank = (node_at next.nodes w.place).last;
                second = w.way.lands_at;
                pair = w.way.pair;
                legal = on.0;
                lands = ap (λ r. landing_after p r q.0 (node_at next.nodes w.place).last) of.last ∙ w.way.lands;
                kept = (completed.kept w.place ((node_at next.nodes w.place).last ∷ rs) w.within on.0
                    (one_more (node_at next.nodes w.place).last) on.1).completes w.way.pair w.way.listed;
                in_time = w.way.in_time;
                cost_is = w.way.cost_is;
              }

      to_pair : (q : Pair) → IsSuccessorPair p v (IsListed next.nodes next.lists) rs q
          → IsPairOf p v stage (node_at these j) next q
      to_pair q s =
          let k = s.kept in
          let same : s.rank ≡ (node_at next.nodes k.place).last = k.of_node.last in
          record {
            opened = last_opened q.0 s.opened;
            reached = by_lands p stage these are j lt rs long of q.0 s.reached;
            low = s.low;
            end = inr (
              short,
              record {
                place = k.place;
                within = k.within;
                leads = on_leads p rs s.rank _ _ s.legal of k.of_node;
                way = record {
                  lands_at = s.second;
                  lands = ap (λ r. landing_after p _ q.0 r) (sym same)
                      ∙ ap (λ r. landing_after p r q.0 s.rank) (sym of.last) ∙ s.lands;
                  pair = s.pair;
                  listed = k.listed;
                  in_time = s.in_time;
                  cost_is = ap (λ r. cost_at p r s.second + s.pair.1) (sym same) ∙ s.cost_is;
                };
              },
            );
          }

      -- and before it
      pub before_complete : KeepsWanted (IsCompletingPair p v rs) (IsWanted p budget rs) (λ q. InPairs q pairs)
      before_complete = record {
        completes = λ q i. each.completes q (of_pair q (made.are q i));
        covers = λ q c w.
            let a = each.covers q c in
            let s = a.1 in
            let wanted = wanted_next p (sound_of p wf) rs s.rank s.legal budget q a.0 s.pair s.second legal s.lands
            s.in_time s.cost_is a.2 w in
            let o = (listed_wanted p v budget (stage + 1) next.nodes next.lists completed (s.rank ∷ rs) s.pair.0 s.legal
            (one_more s.rank) s.kept.reached).covers s.pair s.kept wanted in
            let same = s.cost_is in
            let cheap = o.2.1 in
            let found : Pair = (a.0.0, cost_at p s.rank s.second + o.0.1) in
            let less : found.1 ≤ a.0.1 = omega (arith, same, cheap) in
            let h = to_pair found (record {
              opened = s.opened;
              reached = s.reached;
              low = s.low;
              rank = s.rank;
              second = s.second;
              pair = o.0;
              legal = s.legal;
              lands = s.lands;
              kept = o.1;
              in_time = le_trans s.in_time o.2.0;
              cost_is = refl;
            }) in
            let m = made.cover found h (room q found.1 (le_trans less a.2.1) w) in
            (m.0, m.1, no_earlier_no_dearer_trans m.0 found q m.2 (a.2.0, le_trans less a.2.1));
      }
        where
          each : KeptCompleting (IsCompletingPair p v rs) (IsSuccessorPair p v (IsCompletingPair p v) rs)
          each = successor_pairs p (sound_of p wf) v rs legal (IsSuccessorPair p v (IsCompletingPair p v) rs)
              (IsCompletingPair p v) (omega arith) (λ r b l can. all_kept (IsCompletingPair p v (r ∷ rs)))
              (record { are = λ q s. s; cover = λ q s. (q, s, (le_refl q.0, le_refl q.1)) })

-- the lists that are made of those of the next stage complete the nodes of a stage
pub lists_complete : (p : Problem) → IsWellFormed p
    → (v : ℕ) (budget : Option ℕ) (stage : ℕ) (these : List EarlyNode) (made : List (List Pair)) (next : StageAhead)
    → AreNodesOf p stage these → IsBehind p v budget stage next → AreListsOf p v budget stage these next made
    → AreCompleted p v budget stage these made
lists_complete p wf v budget stage these made next are behind lists = record {
  are_nodes = are;
  one_each = lists.one_each;
  kept = λ j rs lt legal long of. kept j rs lt legal long of behind;
  rising = each Rises tt (λ j lt. (lists.pairs j lt).rising);
  in_reach = each (AreInReach (length p.flights - stage)) (λ q i. absurd i) (λ j lt. (lists.pairs j lt).in_reach);
}
  where
    kept : (j : ℕ) (rs : List ℕ) → j < length these → IsLegal p rs → length rs ≡ stage → IsPrefixOf rs (node_at these j)
        → IsBehind p v budget stage next → KeepsWanted (IsCompletingPair p v rs) (IsWanted p budget rs)
        (λ q. InPairs q (list_at made j))
    kept j rs lt legal long of (inl last) =
        last_complete p wf v budget stage these are j lt rs legal long of next _ (lists.pairs j lt) last.0
    kept j rs lt legal long of (inr more) = before_complete p wf v budget stage these are j lt rs legal long of next
        _ (lists.pairs j lt) more.0 more.1

    each : (P : List Pair → Type 0) → P [] → ((j : ℕ) → j < length these → P (list_at made j)) → (j : ℕ)
        → P (list_at made j)
    each P none some j = elim (cases_lt j (length these)) [
      | inl lt ↦ some j lt
      | inr ge ↦ rw (get_or_past made j [] (omega (arith, ge, lists.one_each))) none
    ]

-- what stands behind a stage has numbers in range
pub behind_ranges : (p : Problem) (v : ℕ) (budget : Option ℕ) (stage : ℕ) (next : StageAhead)
    → IsBehind p v budget stage next → IsNextIn p stage next
behind_ranges p v budget stage next (inl last) = subst (IsNextIn p stage) (sym last.1) (record {
  one_each = refl;
  ranks = λ j lt. absurd (omega (arith, lt));
  rising = λ j. tt;
  in_reach = λ j left e q i. absurd i;
})
behind_ranges p v budget stage next (inr more) = record {
  one_each = more.1.one_each;
  ranks = λ j lt. rank_of p (stage + 1) (node_at next.nodes j) (omega arith) (more.1.are_nodes.reached j lt);
  rising = more.1.rising;
  in_reach = λ j left e. subst (λ (n : ℕ). AreInReach n (list_at next.lists j))
      (let d : length p.flights - (stage + 1) ≡ left = omega (arith, e) in d) (more.1.in_reach j);
}
