-- The windows of a stage, put together by node.
use Rattle.replan.specs.shared.Pushed.{each_upto}
use Rattle.std.proofs.Common.{◌≡◌, ℕ, ◌+◌, ◌-◌, ◌<◌, ◌≤◌, List, [], ◌∷◌, ◌++◌, length, refl, sym, ap, subst, ◌∙◌, arith}
use Rattle.std.proofs.Common.{length-append, Option}
use Rattle.std.specs.Prelude.{ℤ, pos}
use Rattle.std.proofs.lemmas.List.{get_or_default}
use Rattle.landing_rules.specs.Problem.{Problem}
use Rattle.cps_theory.specs.Separation.{Landing}
use Rattle.cps_theory.specs.LandingTrail.{cost_of, latest_landing, pair_of, ranks}
use Rattle.cps_theory.specs.Labels.{Pair}
use Rattle.cps_theory.specs.LegalPrefix.{Legal}
use Rattle.cps_theory.specs.laws.LegalPrefix.{in_from_one, legal_each_fits}
use Rattle.landing_joint.specs.RankedProblem.{ranked, cost_at}
use Rattle.cps_nodes.specs.Windows.{IsPlaced}
use Rattle.cps_network.specs.Lists as windows
use Rattle.cps_network.specs.Nodes as network
use Rattle.cps_network.specs.Pairs.{HoldsCosts, list_at, pair_at}
use Rattle.cps_network.specs.WindowRanks.{TellTheirRanks}
use Rattle.cps_network.specs.shared.PairSteps.{at_in}
use Rattle.replan.specs.Held.{HeldProblem}
use Rattle.replan.specs.Readers.{lists_in, stage_in}
use Rattle.replan.specs.WindowNodes as together
use Rattle.replan.specs.WindowNodes.{told_at, AreLeastIn, IsPairAt, WindowNodes}
use Rattle.replan.specs.shared.LastPairs.{first_least, last_cheapest, list_some}
use Rattle.replan.specs.shared.OneNode.{one_set, one_tells, same_one}
use Rattle.first_best.specs.declared.node.EarlyNode.{EarlyNode}
use Rattle.first_best.specs.Nodes.{no_node, node_at, AreNodesOf, IsLandedPrefix, IsPrefixOf, IsReached}
use Rattle.first_best.specs.Gathered.{AreGathered, IsWindowOf, cost_in, place_at, second_of}

-- ---- the nodes of the prefixes that land

-- ---- the nodes of the windows that are put together

-- each node is that of its first window, with the least second and the least cost
pub record AreMade (stage : ℕ) (nodes_windows : List (List ℤ)) (firsts : List ℕ) (least : List Pair)
    (count : ℕ) (nodes : List EarlyNode) : Type 0 where
  pub long : length nodes ≡ count
  pub window : (j : ℕ) → j < count → IsWindowOf stage (windows.node_at nodes_windows (told_at firsts j))
      (node_at nodes j)
  pub earliest : (j : ℕ) → j < count → (node_at nodes j).earliest ≡ (pair_at least j).0
  pub cheapest : (j : ℕ) → j < count → (node_at nodes j).cheapest ≡ (pair_at least j).1

module _ (stage : ℕ) (list : List (List ℤ)) (firsts : List ℕ) (least : List Pair) (count : ℕ)
    (nodes : List EarlyNode) (m : AreMade stage list firsts least count nodes) (node : EarlyNode)
    (of : IsWindowOf stage (windows.node_at list (told_at firsts count)) node)
    (early : node.earliest ≡ (pair_at least count).0) (cheap : node.cheapest ≡ (pair_at least count).1) where
  pub one_made : AreMade stage list firsts least (count + 1) (nodes ++ node ∷ [])
  one_made = record {
    long = length-append nodes (node ∷ []) ∙ ap (λ (n : ℕ). n + 1) m.long;
    window = each_upto (λ j n. IsWindowOf stage (windows.node_at list (told_at firsts j)) n) nodes node no_node count
        m.long m.window of;
    earliest = each_upto (λ j n. n.earliest ≡ (pair_at least j).0) nodes node no_node count m.long m.earliest early;
    cheapest = each_upto (λ j n. n.cheapest ≡ (pair_at least j).1) nodes node no_node count m.long m.cheapest cheap;
  }

module _ (p : Problem) (held : Option HeldProblem) (stage : ℕ) (number : (stage_in held stage).0 ≡ stage)
    (h : HoldsCosts p (stage_in held stage) (lists_in held stage)) (put : WindowNodes)
    (are : together.AreNodesOf held stage put) (least : List Pair) (l : AreLeastIn held stage put least)
    (nodes : List EarlyNode) (m : AreMade stage (stage_in held stage).1 put.firsts least
    (length put.firsts) nodes) where
  abbrev list : List (List ℤ)
  list = (stage_in held stage).1

  abbrev lists : List (List Pair)
  lists = lists_in held stage

  abbrev g : together.ArePutTogether stage list (length list) put.places put.firsts
  g = are.together

  place_in : (i : ℕ) → i < length list → place_at put.places i < length put.firsts
  place_in i lt = g.within i lt

  in_places : (i : ℕ) → i < length list → i < length put.places
  in_places i lt = (let e = g.long in omega arith)

  -- a window tells the node at its place
  window_told : (i : ℕ) → i < length list
      → IsWindowOf stage (windows.node_at list i) (node_at nodes (place_at put.places i))
  window_told i lt =
      let first = windows.node_at list (told_at put.firsts _) in
      let w = m.window (place_at put.places i) (place_in i lt) in
      let one = g.one i lt in
      record { placed = one_tells stage first (windows.node_at list i) _ one w.placed; last = w.last ∙ one.last }

  at_stage : (window : List ℤ) (node : EarlyNode) → IsWindowOf stage window node
      → IsWindowOf (stage_in held stage).0 window node
  at_stage window node w = rw number w

  -- the pair of a window at an index
  pair_there : (i index : ℕ) → i < length list → (0 < length (list_at lists i) → index < length (list_at lists i))
      → IsPairAt lists put.places (place_at put.places i) (pair_at (list_at lists i) index)
  pair_there i index lt listed = record {
    window = i;
    within = in_places i lt;
    of_node = refl;
    has = at_in (list_at lists i) index (pair_at (list_at lists i) index)
        (listed (list_some p (stage_in held stage) lists h i lt)) refl;
  }

  low_at : (i : ℕ) → i < length list → (node_at nodes (place_at put.places i)).earliest ≤ second_of lists i
  low_at i lt =
      let e = m.earliest (place_at put.places i) (place_in i lt) in
      let a = (l.each (place_at put.places i) (place_in i lt)).early (pair_at (list_at lists i) 0)
      (pair_there i 0 lt (λ some. some)) in
      omega arith

  source_at : (j : ℕ) → j < length put.firsts → (i : ℕ) × (i < length list)
      × IsWindowOf (stage_in held stage).0 (windows.node_at list i) (node_at nodes j)
      × ((node_at nodes j).earliest ≡ second_of lists i)
  source_at j lt =
      let q = (l.each j lt).earliest in
      let i = q.1.window in
      let long = g.long in
      let inside = q.1.within in
      let within : i < length list = omega arith in
      let there = q.1.of_node in
      let low : (node_at nodes j).earliest ≤ second_of lists i = rw there at (low_at i within) in
      let first = first_least _ (h.costs.pairs i within).falling q.0 q.1.has in
      let is = m.earliest j lt in
      let least_is = q.2 in
      (i, within, at_stage (windows.node_at list i) _ (rw there at (window_told i within)), omega arith)

  pub all_made : AreGathered (stage_in held stage) lists (length list) nodes put.places
  all_made = record {
    long = g.long;
    within = λ i lt. (let a = place_in i lt in let e = m.long in omega (arith, a, e));
    window = λ i lt. at_stage (windows.node_at list i) (node_at nodes (place_at put.places i)) (window_told i lt);
    low = low_at;
    cheap = λ i lt.
        let e = m.cheapest (place_at put.places i) (place_in i lt) in
        let a = (l.each (place_at put.places i) (place_in i lt)).cheap
        (pair_at (list_at lists i) (length (list_at lists i) - 1))
        (pair_there i (length (list_at lists i) - 1) lt (λ some. omega (arith, some))) in
        omega (arith, e, a);
    source = λ j lt. source_at j (let e = m.long in omega (arith, lt, e));
    apart = λ i j li lj placed last.
        let e = m.long in
        let a : i < length put.firsts = omega (arith, li, e) in
        let b : j < length put.firsts = omega (arith, lj, e) in
        let wi = m.window i a in
        let wj = m.window j b in
        g.apart i j a b (same_one stage (windows.node_at list (told_at put.firsts i))
        (windows.node_at list (told_at put.firsts j)) (node_at nodes i).placed
        (node_at nodes j).placed wi.placed wj.placed placed (sym wi.last ∙ last ∙ wj.last));
  }

module _ (p : Problem) (net : network.IsWindowNetwork p) (tell : TellTheirRanks p) (stage : ℕ × List (List ℤ))
    (lists : List (List Pair)) (h : HoldsCosts p stage lists) where
  -- a prefix that ends in a window of a node is of the node
  pub window_prefix : (rs : List ℕ) (window : List ℤ) (node : EarlyNode) → Legal (ranked p).rules rs
      → network.node_of p.k rs ≡ (stage.0, window) → IsWindowOf stage.0 window node → IsPrefixOf rs node
  window_prefix rs window node legal at w = record {
    placed = λ x. (
      λ b. (let a = (w.placed x).0 b in
          (tell rs x legal a.0).0 (subst (λ (n : network.WindowNode). IsPlaced n.1 (pos n.0) (pos x)) (sym at) a.1)),
      λ i. (let one = (in_from_one (ranked p).rules x rs (legal_each_fits (ranked p).rules rs legal) i).0 in
          (w.placed x).1
          (one, subst (λ (n : network.WindowNode). IsPlaced n.1 (pos n.0) (pos x)) at ((tell rs x legal one).1 i))),
    );
    last = sym (net.newest_is rs legal) ∙ ap network.latest at ∙ sym w.last;
  }

  -- the window of a prefix that lands stands at some place; its first pair is no later, and its last one no dearer
  pub place_of_prefix : (xs : List Landing) → IsLandedPrefix p stage.0 xs → (i : ℕ) × (i < length stage.1)
      × (network.node_of p.k (ranks xs) ≡ (stage.0, windows.node_at stage.1 i))
      × (second_of lists i ≤ (latest_landing xs).1) × (cost_in lists i ≤ cost_of (cost_at p) xs)
  place_of_prefix xs l =
      let window = (network.node_of p.k (ranks xs)).1 in
      let there : network.node_of p.k (ranks xs) ≡ (stage.0, window) = ap (λ n. (n, window)) l.long in
      let q = pair_of _ xs in
      let place = (h.landable window).1
      (q, record { landings = xs; legal = l.legal; landed = l.landed; at = there; is = refl }) in
      let same : window ≡ windows.node_at stage.1 place.0 =
      sym (get_or_default stage.1 place.0 [] window place.1 ∙ place.2) in
      let at : network.node_of p.k (ranks xs) ≡ (stage.0, windows.node_at stage.1 place.0) =
      there ∙ ap (λ w. (stage.0, w)) same in
      let kept = h.costs.pairs place.0 place.1 in
      let o = kept.covers q (record { landings = xs; legal = l.legal; landed = l.landed; at = at; is = refl }) in
      let first = first_least _ kept.falling o.0 o.1 in
      let last = last_cheapest _ kept.falling o.0 o.1 in
      let low = o.2 in
      let early = low.0 in
      let cheap = low.1 in
      (place.0, place.1, at, omega arith, omega arith)

  module _ (nodes : List EarlyNode) (places : List ℕ) (g : AreGathered stage lists (length stage.1) nodes places) where
    reached_at : (j : ℕ) → j < length nodes → IsReached p stage.0 (node_at nodes j)
    reached_at j lt =
        let s = g.source j lt in
        let list = list_at lists s.0 in
        let a = (((h.costs.pairs s.0 s.1).undominated (pair_at list 0)).0
        (at_in list 0 _ (list_some p stage lists h s.0 s.1) refl)).attained in
        record {
          landings = a.landings;
          prefix = record { legal = a.legal; landed = a.landed; long = ap (λ n. n.0) a.at };
          of_node = window_prefix _ (windows.node_at stage.1 s.0) _ a.legal a.at s.2;
          earliest = ap (λ q. q.0) a.is ∙ sym s.3;
        }

    -- a landed prefix of a node has its window among those of the node
    window_of : (j : ℕ) (xs : List Landing) → j < length nodes → IsLandedPrefix p stage.0 xs
        → IsPrefixOf (ranks xs) (node_at nodes j) → (i : ℕ) × (i < length stage.1) × (place_at places i ≡ j)
        × (second_of lists i ≤ (latest_landing xs).1) × (cost_in lists i ≤ cost_of (cost_at p) xs)
    window_of j xs lt l of =
        let i = place_of_prefix xs l in
        let m = place_at places i.0 in
        let other = window_prefix _ (windows.node_at stage.1 i.0) _ l.legal i.2 (g.window i.0 i.1) in
        let same : m ≡ j = g.apart m j (g.within i.0 i.1) lt (one_set _ _
        (λ x. (λ b. (of.placed x).1 ((other.placed x).0 b), λ b. (other.placed x).1 ((of.placed x).0 b))))
        (sym other.last ∙ of.last) in
        (i.0, i.1, same, i.3, i.4)

    pub gathered_nodes : AreNodesOf p stage.0 nodes
    gathered_nodes = record {
      reached = reached_at;
      least = λ j xs lt l of.
          let i = window_of j xs lt l of in
          let low = g.low i.0 i.1 in
          let is : (node_at nodes (place_at places i.0)).earliest ≡ (node_at nodes j).earliest =
          ap (λ (n : ℕ). (node_at nodes n).earliest) i.2 in
          let le = i.3 in
          omega (arith, low, is, le);
      cheap = λ j xs lt l of.
          let i = window_of j xs lt l of in
          let low = g.cheap i.0 i.1 in
          let is : (node_at nodes (place_at places i.0)).cheapest ≡ (node_at nodes j).cheapest =
          ap (λ (n : ℕ). (node_at nodes n).cheapest) i.2 in
          let le = i.4 in
          omega (arith, low, is, le);
      every = λ xs l.
          let i = place_of_prefix xs l in (
            place_at places i.0,
            g.within i.0 i.1,
            window_prefix (ranks xs) (windows.node_at stage.1 i.0)
                (node_at nodes (place_at places i.0)) l.legal i.2 (g.window i.0 i.1),
          );
    }
