-- Ways from a node to others, and the least cost by them.
use Rattle.replan.specs.shared.Pushed.{each_pushed}
use Rattle.std.proofs.Common.{◌≡◌, ℕ, zero, suc, ◌+◌, ◌<◌, ◌≤◌, inl, inr, List, [], ◌∷◌, ◌++◌, length, Option, Some}
use Rattle.std.proofs.Common.{None, true, false, ◌&&◌, refl, sym, ap, subst, ◌∙◌, arith, length-append}
use Rattle.std.specs.Prelude.{slice_index_or}
use Rattle.std.proofs.lemmas.Option.{none-some, same_Some}
use Rattle.std.proofs.lemmas.Bool.{and_from, cases_eq, false≢true}
use Rattle.std.proofs.lemmas.List.{get_or_append_left, get_or_push}
use Rattle.landing_rules.specs.Problem.{Problem}
use Rattle.cps_theory.specs.Labels.{InPairs, Pair}
use Rattle.cps_theory.specs.Feasible.{next_from}
use Rattle.landing_joint.specs.RankedProblem.{ranked, cost_at, landing_after}
use Rattle.landing_joint.specs.CompletingPairs.{is_low}
use Rattle.landing_joint.specs.shared.FirstOpen.{is_first_open}
use Rattle.cps_network.specs.Pairs.{list_at}
use Rattle.first_best.specs.declared.node.EarlyNode.{EarlyNode}
use Rattle.first_best.specs.Nodes.{node_at, LeadsTo}
use Rattle.first_best.specs.Completing.{AreWaysOf, IsCostFrom, IsEnd, IsLeastOf, IsPairOf, IsWayTo, StageAhead}
use Rattle.first_best.proofs.PairLemmas.{least_from, least_same}

-- ---- the places of the nodes that a node leads to

-- those of the first nodes
pub record WaysUpto (node : EarlyNode) (nodes : List EarlyNode) (j : ℕ) (ways : List ℕ) : Type 0 where
  pub within : (i : ℕ) → i < length ways → slice_index_or ways i 0 < j
  pub lead : (i : ℕ) → i < length ways → LeadsTo node (node_at nodes (slice_index_or ways i 0))
  pub every : (m : ℕ) → m < j → LeadsTo node (node_at nodes m) → (i : ℕ) × (i < length ways)
      × (slice_index_or ways i 0 ≡ m)

pub one_way : (node : EarlyNode) (nodes : List EarlyNode) (j : ℕ) (ways : List ℕ) → WaysUpto node nodes j ways
    → LeadsTo node (node_at nodes j) → WaysUpto node nodes (j + 1) (ways ++ j ∷ [])
one_way node nodes j ways w leads =
    let long : length (ways ++ j ∷ []) ≡ length ways + 1 = length-append ways (j ∷ []) in
    let old = λ (i : ℕ) (lt : i < length ways). get_or_append_left ways (j ∷ []) 0 i lt in
    let new : slice_index_or (ways ++ j ∷ []) (length ways) 0 ≡ j = get_or_push ways j 0 _ refl in
    record {
      within = each_pushed (λ i m. m < j + 1) ways j 0 (λ i lt. omega (arith, w.within i lt)) (omega arith);
      lead = each_pushed (λ i m. LeadsTo node (node_at nodes m)) ways j 0 w.lead leads;
      every = λ m lt l. elim (cases_eq m j) [
        | inl e ↦ (length ways, omega (arith, long), new ∙ sym e)
        | inr ne ↦ (let a = w.every m (omega (arith, lt, ne)) l in
            (a.0, (let b = a.1 in omega (arith, b, long)), old a.0 a.1 ∙ a.2))
      ];
    }

pub no_way : (node : EarlyNode) (nodes : List EarlyNode) (j : ℕ) (ways : List ℕ) → WaysUpto node nodes j ways
    → (LeadsTo node (node_at nodes j) → ⊥) → WaysUpto node nodes (j + 1) ways
no_way node nodes j ways w none = record {
  within = λ i lt. (let a = w.within i lt in omega (arith, a));
  lead = w.lead;
  every = λ m lt l. elim (cases_eq m j) [
    | inl e ↦ absurd (none (subst (λ (n : ℕ). LeadsTo node (node_at nodes n)) e l))
    | inr ne ↦ w.every m (omega (arith, lt, ne)) l
  ];
}

pub all_ways : (node : EarlyNode) (nodes : List EarlyNode) (j : ℕ) (ways : List ℕ) → j ≡ length nodes
    → WaysUpto node nodes j ways → AreWaysOf node nodes ways
all_ways node nodes j ways e w = record {
  within = λ i lt. (let a = w.within i lt in omega (arith, a, e));
  lead = w.lead;
  every = λ m lt l. w.every m (omega (arith, lt, e)) l;
}

-- ---- the cost by one of them

module _ (p : Problem) (node after : EarlyNode) (pairs : List Pair) (second : ℕ) where
  module _ (landing : ℕ) (lands : landing_after p node.last second after.last ≡ Some landing) where
    same_landing : (c : ℕ) (w : IsWayTo p node after pairs second c) → w.lands_at ≡ landing
    same_landing c w = same_Some w.lands_at landing (sym w.lands ∙ lands)

    pub too_late : IsLeastOf (IsCostFrom pairs landing) None → IsLeastOf (IsWayTo p node after pairs second) None
    too_late none c w = none w.pair.1
        (w.pair, w.listed, (let e = same_landing c w in let l = w.in_time in omega (arith, e, l)), refl)

    pub way_cost : (rest : ℕ) → IsLeastOf (IsCostFrom pairs landing) (Some rest)
        → IsLeastOf (IsWayTo p node after pairs second) (Some (cost_at p after.last landing + rest))
    way_cost rest least = (
      record {
        lands_at = landing;
        lands = lands;
        pair = least.0.0;
        listed = least.0.1;
        in_time = least.0.2;
        cost_is = ap (λ (c : ℕ). cost_at p after.last landing + c) least.0.3;
      },
      λ d w.
          let e = same_landing d w in
          let l = w.in_time in
          let a = least.1 w.pair.1 (w.pair, w.listed, omega (arith, e, l), refl) in
          let b = w.cost_is in
          let s : cost_at p after.last w.lands_at ≡ cost_at p after.last landing = ap (cost_at p after.last) e in
          omega (arith, a, b, s),
    )

  -- it has a least, or there is none
  abbrev HasLeast : Type 0
  HasLeast = (o : Option ℕ) × IsLeastOf (IsWayTo p node after pairs second) o

  least_by : (landing : ℕ) → landing_after p node.last second after.last ≡ Some landing → (rest : Option ℕ)
      → IsLeastOf (IsCostFrom pairs landing) rest → HasLeast
  least_by landing lands None least = (None, too_late landing lands least)
  least_by landing lands (Some rest) least =
      (Some (cost_at p after.last landing + rest), way_cost landing lands rest least)

  pub least_way : HasLeast
  least_way = go (landing_after p node.last second after.last) refl
    where
      go : (o : Option ℕ) → landing_after p node.last second after.last ≡ o → HasLeast
      go None is = (None, λ c w. none-some w.lands_at (sym is ∙ w.lands))
      go (Some landing) is = (let rest = least_from landing pairs in least_by landing is rest.0 rest.1)

-- ---- the least cost

module _ (p : Problem) (stage : ℕ) (node : EarlyNode) (next : StageAhead) (ways : List ℕ) (second : ℕ) where
  abbrev pub IsWayAt : ℕ → ℕ → Type 0
  IsWayAt i c = IsWayTo p node (node_at next.nodes (slice_index_or ways i 0))
      (list_at next.lists (slice_index_or ways i 0)) second c

  pub ways_end : AreWaysOf node next.nodes ways → stage < length p.flights → (least : Option ℕ)
      → IsLeastOf (λ c. (i : ℕ) × (i < length ways) × IsWayAt i c) least
      → IsLeastOf (IsEnd p stage node next second) least
  ways_end are short least l = least_same (λ c. (i : ℕ) × (i < length ways) × IsWayAt i c)
      (IsEnd p stage node next second) least (λ c. (to c, from c)) l
    where
      to : (c : ℕ) → (i : ℕ) × (i < length ways) × IsWayAt i c → IsEnd p stage node next second c
      to c (i, lt, w) = inr
          (short, record { place = slice_index_or ways i 0; within = are.within i lt; leads = are.lead i lt; way = w })

      from : (c : ℕ) → IsEnd p stage node next second c → (i : ℕ) × (i < length ways) × IsWayAt i c
      from c (inl h) = absurd (let e = h.0 in omega arith)
      from c (inr h) =
          let w = h.1 in
          let a = are.every w.place w.within w.leads in (a.0, a.1, rw a.2 w.way)

-- a pair of the node at an open second that the value allows
pub end_pair : (p : Problem) (v stage : ℕ) (node : EarlyNode) (next : StageAhead) (second : ℕ) →
    (ranked p).is_open node.last second ≡ true → node.earliest ≤ second → is_low p v second ≡ true → (least : Option ℕ)
    → IsLeastOf (IsEnd p stage node next second) least → IsLeastOf (λ c. IsPairOf p v stage node next (second, c)) least
end_pair p v stage node next second o r l least h = least_same (IsEnd p stage node next second) (λ c. IsPairOf p v
    stage node next (second, c)) least (λ c. (λ e. record { opened = o; reached = r; low = l; end = e }, λ q. q.end)) h

-- ---- how late a pair is

pub not_before : (p : Problem) (last second rank : ℕ) → 1 ≤ last → second ≤ next_from (ranked p) last second rank
not_before p zero second rank one = absurd (omega arith)
not_before p (suc last) second rank one = omega arith

pub way_late : (p : Problem) (node after : EarlyNode) (pairs : List Pair) (second cost most : ℕ) → 1 ≤ node.last
    → IsWayTo p node after pairs second cost → ((q : Pair) → InPairs q pairs → q.0 ≤ most) → second ≤ most
way_late p node after pairs second cost most one w late =
    let a = not_before p node.last second after.last one in
    let b = ((is_first_open p).found after.last (next_from (ranked p) node.last second after.last)
    w.lands_at w.lands).1 in
    let c = w.in_time in
    let d = late w.pair w.listed in
    omega arith

pub pairs_late : (p : Problem) (v stage : ℕ) (node : EarlyNode) (next : StageAhead) (ways : List ℕ) (most : ℕ)
    → 1 ≤ node.last → stage < length p.flights → AreWaysOf node next.nodes ways
    → ((i : ℕ) → i < length ways → (q : Pair) → InPairs q (list_at next.lists (slice_index_or ways i 0)) → q.0 ≤ most)
    → (q : Pair) → IsPairOf p v stage node next q → q.0 ≤ most
pairs_late p v stage node next ways most one short are late q h = go h.end
  where
    go : IsEnd p stage node next q.0 q.1 → q.0 ≤ most
    go (inl e) = absurd (let a = e.0 in omega arith)
    go (inr e) =
        let w = e.1 in
        let a = are.every w.place w.within w.leads in
        way_late p node _ _ q.0 q.1 most one w.way (rw a.2 at (late a.0 a.1))

-- and none elsewhere
pub not_allowed : (p : Problem) (v stage : ℕ) (node : EarlyNode) (next : StageAhead) (second : ℕ)
    → (is_low p v second && (ranked p).is_open node.last second) ≡ false
    → IsLeastOf (λ c. IsPairOf p v stage node next (second, c)) None
not_allowed p v stage node next second e c q =
    false≢true (sym e ∙ and_from (is_low p v second) ((ranked p).is_open node.last second) q.low q.opened)
