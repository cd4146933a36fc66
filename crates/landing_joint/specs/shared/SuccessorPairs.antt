-- The completing pairs of a node of the last stage, and of another one from those of the nodes behind it.
use Rattle.std.proofs.Common.{◌≡◌, ℕ, ◌+◌, ◌<◌, ◌≤◌, true, List, ◌∷◌, length, Some, arith, refl, sym, ap, subst}
use Rattle.landing_rules.specs.Problem.{Problem}
use Rattle.cps_theory.specs.LandingTrail.{last_rank}
use Rattle.cps_theory.specs.Labels.{Pair}
use Rattle.cps_theory.specs.Patterns.{PatternNode, PatternPermits, pattern_node, pattern_push}
use Rattle.cps_theory.specs.Feasible.{SoundProblem, next_from}
use Rattle.cps_theory.specs.CompletingPairs.{KeptCompleting, NoEarlierNoDearer}
use Rattle.cps_theory.specs.FirstBest.{CompletesNode, ReachedIn}
use Rattle.cps_theory.specs.laws.CompletingPairs.{completing_final, completing_next, reached_push}
use Rattle.cps_theory.specs.laws.FirstBest.{nodes_closed}
use Rattle.cps_theory.specs.laws.LeastObjective.{next_later}
use Rattle.landing_joint.specs.RankedProblem.{ranked, cost_at, landing_after}
use Rattle.landing_joint.specs.CompletingPairs.{CanLandBy, Cover, IsCompletingPair, IsLastPair, IsLegal}
use Rattle.landing_joint.specs.CompletingPairs.{IsSuccessorPair, is_low}
use Rattle.landing_joint.specs.shared.FirstOpen.{is_first_open}
use Rattle.landing_joint.specs.shared.FirstBestLists.{costs_rise}
use Rattle.landing_joint.specs.shared.LeastChoices.{lower_by}
use Rattle.landing_joint.specs.shared.NodePairs.{net, by_reached, completes_node, node_completes, reached_by}

-- what holds by the pattern of a prefix holds by the prefix
kept_by_prefix : (p : Problem) (sound : SoundProblem (ranked p)) (v : ℕ) (rs : List ℕ) → IsLegal p rs
    → (New : Pair → Type 0) → KeptCompleting (CompletesNode (ranked p) (cost_at p) (is_low p v)
    (pattern_node (ranked p).rules rs)) New → KeptCompleting (IsCompletingPair p v rs) New
kept_by_prefix p sound v rs l New k = search (arith, node_completes, completes_node, k.completes, k.covers)

module _ (p : Problem) (sound : SoundProblem (ranked p)) (v : ℕ) (rs : List ℕ) (legal : IsLegal p rs) (New : Pair
    → Type 0) where
  -- at the last stage
  pub last_pairs : length rs ≡ length p.flights → Cover (IsLastPair p v rs) New
      → KeptCompleting (IsCompletingPair p v rs) New
  last_pairs whole c =
      kept_by_prefix p sound v rs legal New (completing_final _ _ _ _ _ _ _ _
      _ _ (is_first_open p) (next_later (ranked p)) (costs_rise p) (net p sound) _ (nodes_closed _ sound)
      _ (lower_by v _) _ whole New
      (λ q n. let a = c.are q n in (a.opened, reached_by p sound rs q.0 a.reached, a.low, a.cost_is))
      (λ b o r l. let a = c.cover (b, 0)
      (record { opened = o; reached = by_reached p sound rs b legal r; low = l; cost_is = refl }) in
      (a.0, a.1, a.2.0)))

  module _ (Keeps : List ℕ → Pair → Type 0) where
    -- the kept pairs of the nodes behind the prefix
    record KeepsBehind (w : PatternNode) (o : Pair) : Type 0 where
      pub rank : ℕ
      pub more : IsLegal p (rank ∷ rs)
      pub at : pattern_node (ranked p).rules (rank ∷ rs) ≡ w
      pub by : ℕ
      pub reached : CanLandBy p (rank ∷ rs) by
      pub keeps : Keeps (rank ∷ rs) o

    -- before it
    pub successor_pairs : length rs < length p.flights
        → ((r b : ℕ) → IsLegal p (r ∷ rs) → CanLandBy p (r ∷ rs) b
        → KeptCompleting (IsCompletingPair p v (r ∷ rs)) (Keeps (r ∷ rs))) → Cover (IsSuccessorPair p v Keeps rs) New
        → KeptCompleting (IsCompletingPair p v rs) New
    successor_pairs short nexts c =
        kept_by_prefix p sound v rs legal New (completing_next _ _ _ _ _ _ _ _
        _ _ (is_first_open p) (next_later (ranked p)) (costs_rise p) (net p sound) _ (nodes_closed _ sound)
        _ (lower_by v _) KeepsBehind _ New (λ e. omega arith) behind made enough)
      where
        behind : (r : ℕ) → PatternPermits (ranked p).rules (pattern_node (ranked p).rules rs) r
            → KeptCompleting (CompletesNode (ranked p) (cost_at p) (is_low p v)
            (pattern_push (ranked p).rules (pattern_node (ranked p).rules rs) r))
            (KeepsBehind (pattern_push (ranked p).rules (pattern_node (ranked p).rules rs) r))
        behind r permitted =
            let more = (net p sound).grows r rs legal permitted in
            let at = (net p sound).pushes r rs legal in
            record {
              completes = λ o k. subst (λ w. CompletesNode (ranked p) (cost_at p) (is_low p v) w o) k.at
                  (completes_node p sound v (k.rank ∷ rs) o k.more
                  ((nexts k.rank k.by k.more k.reached).completes o k.keeps));
              covers = λ o d.
                  let done = node_completes p sound v (r ∷ rs) o more
                  (subst (λ w. CompletesNode (ranked p) (cost_at p) (is_low p v) w o) (sym at) d) in
                  let a = (nexts r o.0 more done.reached).covers o done in
                  (search);
            }

        made : (q : Pair) → New q → ((ranked p).is_open (last_rank rs) q.0 ≡ true)
            × ReachedIn (ranked p) (pattern_node (ranked p).rules rs) q.0 × (is_low p v q.0 ≡ true)
            × ((r : ℕ) × (x : ℕ) × (o : Pair) × PatternPermits (ranked p).rules (pattern_node (ranked p).rules rs) r
            × (landing_after p (last_rank rs) q.0 r ≡ Some x)
            × KeepsBehind (pattern_push (ranked p).rules (pattern_node (ranked p).rules rs) r) o
            × (x ≤ o.0) × (cost_at p r x + o.1 ≡ q.1))
        made q n =
            let a = c.are q n in
            let at = (net p sound).pushes a.rank rs legal in
            let permitted = ((net p sound).shrinks a.rank rs a.legal).1 in
            let reached = reached_by p sound rs q.0 a.reached in
            let f = (is_first_open p).found a.rank (next_from (ranked p) (last_rank rs) q.0 a.rank) a.second a.lands in
            let on = reached_push _ _ _ _ _ _ _ _ _ _
            (is_first_open p) (next_later (ranked p)) (costs_rise p) (net p sound)
            (λ z. z.0 ≡ (ranked p).rules.count) (nodes_closed _ sound) _ (lower_by v p.objective)
            _ q.0 _ _ reached permitted f.0 f.1 in
            let by = by_reached p sound _ _ a.legal
            (rw at on) in (
              a.opened,
              reached,
              a.low,
              (
                a.rank,
                a.second,
                a.pair,
                permitted,
                a.lands,
                record { rank = a.rank; more = a.legal; at = at; by = a.second; reached = by; keeps = a.kept },
                a.in_time,
                a.cost_is,
              ),
            )

        enough : (b r x : ℕ) (o : Pair) → (ranked p).is_open (last_rank rs) b ≡ true
            → ReachedIn (ranked p) (pattern_node (ranked p).rules rs) b → is_low p v b ≡ true
            → PatternPermits (ranked p).rules (pattern_node (ranked p).rules rs) r
            → landing_after p (last_rank rs) b r ≡ Some x
            → KeepsBehind (pattern_push (ranked p).rules (pattern_node (ranked p).rules rs) r) o
            → x ≤ o.0 → (q : Pair) × New q × NoEarlierNoDearer q (b, cost_at p r x + o.1)
        enough b r x o opened reached low permitted lands k le =
            let same = ap (λ (w : PatternNode). w.2) k.at in
            c.cover (b, cost_at p r x + o.1) (record {
              opened = opened;
              reached = by_reached p sound rs b legal reached;
              low = low;
              rank = r;
              second = x;
              pair = o;
              legal = (net p sound).grows r rs legal permitted;
              lands = lands;
              kept = subst (λ z. Keeps (z ∷ rs) o) same k.keeps;
              in_time = le;
              cost_is = refl;
            })
