-- One window more is gathered.
use Rattle.std.proofs.Common.{rules, ◌≡◌, ℕ, zero, suc, ◌+◌, ◌*◌, ◌^◌, ◌<◌, ◌≤◌, ◌⊎◌, inl, inr, List, [], ◌∷◌, ◌++◌}
use Rattle.std.proofs.Common.{length, length-set, set, Bool, Option, replicate, refl, sym, ap, ap₂, subst, ◌∙◌, arith}
use Rattle.std.proofs.lemmas.Grind.{common_steps}
use Rattle.std.specs.Prelude.{ℤ, All}
use Rattle.std.proofs.lemmas.Bool.{cases_eq}
use Rattle.std.proofs.lemmas.List.{get_or_default, get_or-set_same, get_or-set_other}
use Rattle.landing_rules.specs.Problem.{Problem}
use Rattle.cps_theory.specs.LandingTrail.{cost_of, ranks}
use Rattle.cps_theory.specs.Labels.{InPairs, NoWorse, Pair}
use Rattle.cps_theory.specs.LegalPrefix.{Legal}
use Rattle.cps_theory.specs.Patterns.{IsShaped, PatternNode, pattern_node}
use Rattle.cps_theory.specs.laws.LabelDominance.{no_worse_trans}
use Rattle.cps_theory.specs.laws.PatternShape.{legal_is_shaped}
use Rattle.cps_theory.specs.Separation.{Landing}
use Rattle.landing_joint.specs.RankedProblem.{ranked, cost_at}
use Rattle.landing_rules.specs.declared.objective.Objective.TheVariants.{Makespan}
use Rattle.cps_network.specs.Landable.{IsLandable}
use Rattle.cps_network.specs.Lists.{node_at}
use Rattle.cps_network.specs.Nodes.{WindowNode, latest}
use Rattle.cps_network.specs.Pairs.{HoldsCosts, list_at, pair_at}
use Rattle.cps_network.specs.WindowRanks.{TellsPlaced}
use Rattle.cert_check.specs.PlacedBits.{digits_of}
use Rattle.replan.specs.Held.{HeldProblem}
use Rattle.replan.specs.Readers.{lists_in, stage_in}
use Rattle.replan.specs.WindowNodes.{told_at, AreLeastIn, AreNodesOf, AreOneNode, IsPairAt, WindowNodes}
use Rattle.replan.specs.shared.OneNode.{one_tells}
use Rattle.cert_writer.specs.StageEntries.{IsWindowOf, PlacedTellNodes}
use Rattle.cert_writer.specs.Gathered.{AreGathered, HaveSlots, IsEntryBefore, IsPairInRange, IsSlotOf}
use Rattle.cert_writer.specs.Slots.{HasSlot}
use Rattle.cert_writer.proofs.SlotLemmas.{one_slot, slot_node}

-- ---- the prefixes of a window

-- a legal prefix of some ranks has the shape of a node
pub prefix_shape : (p : Problem) (rs : List ℕ) → 1 ≤ length rs → Legal (ranked p).rules rs
    → IsShaped p.k (length p.flights) (pattern_node (ranked p).rules rs) × (1 ≤ (pattern_node (ranked p).rules rs).2)
prefix_shape p [] one legal = search rules
prefix_shape p (x ∷ rs) one legal =
    (legal_is_shaped (ranked p).rules (λ r. omega arith) x rs legal, legal.0.fits.from_one)

-- a landable window has one node, of that shape
pub window_shape : (p : Problem) (stage : ℕ) (xs : List ℤ) (d : PatternNode) → 1 ≤ stage → IsLandable p stage xs
    → IsWindowOf p stage xs d → IsShaped p.k (length p.flights) d × (1 ≤ d.2)
window_shape p stage xs d one l of =
    let a = l.1 in grind
    (arith, prefix_shape p (ranks a.landings) (omega (arith, (ap (λ (n : WindowNode). n.0) a.at), one)) a.legal)

pub window_node : (p : Problem) (stage : ℕ) (xs : List ℤ) (d e : PatternNode) → IsLandable p stage xs
    → IsWindowOf p stage xs d → IsWindowOf p stage xs e → d ≡ e
window_node p stage xs d e l of os = search rules

pub place_landable : (p : Problem) (stage : ℕ × List (List ℤ)) (lists : List (List Pair)) → HoldsCosts p stage lists
    → (i : ℕ) → i < length stage.1 → IsLandable p stage.0 (node_at stage.1 i)
place_landable p stage lists h i lt =
    (h.landable (node_at stage.1 i)).0 (i, lt, get_or_default stage.1 i (node_at stage.1 i) [] lt)

-- a window belongs to the node that its placed set and its last rank tell
pub window_here : (p : Problem) → PlacedTellNodes p → (s : ℕ × List (List ℤ)) (stage : ℕ) → s.0 ≡ stage
    → (i k placed last : ℕ) → k ≡ p.k → TellsPlaced (node_at s.1 i) stage placed → last ≡ latest (stage, node_at s.1 i)
    → IsWindowOf p s.0 (node_at s.1 i) (stage, digits_of k stage placed, last)
window_here p tell s stage at i k placed last kk told is rs legal e =
    tell stage placed (node_at s.1 i) told rs legal (e ∙ ap (λ n. (n, node_at s.1 i)) at)
    ∙ ap₂ (λ (ds : List Bool) (l : ℕ). (stage, ds, l)) (ap (λ m. digits_of m stage placed) (sym kk)) (sym is)

pub node_near : (p : Problem) → PlacedTellNodes p → (s : ℕ × List (List ℤ)) (lists : List (List Pair))
    → HoldsCosts p s lists → (stage : ℕ) → s.0 ≡ stage → 1 ≤ stage → (i k placed last : ℕ) → i < length s.1
    → k ≡ p.k → TellsPlaced (node_at s.1 i) stage placed → last ≡ latest (stage, node_at s.1 i)
    → (stage ≤ last + k) × (last ≤ stage + k)
node_near p tell s lists h stage at one i k placed last lt kk told is =
    let w = window_shape p s.0 (node_at s.1 i) (stage, digits_of k stage placed, last) (omega (arith, at, one))
    (place_landable p s lists h i lt) (window_here p tell s stage at i k placed last kk told is) in omega arith

-- ---- lists in slots

module _ (p : Problem) (stage : ℕ × List (List ℤ)) (lists : List (List Pair)) where
  module _ (h : HoldsCosts p stage lists) (count : ℕ) (within : count < length stage.1) (slots : List (List Pair))
      (g : AreGathered p stage lists count slots) (slot : ℕ) (here : PatternNode) (at : here.0 ≡ stage.0)
      (has : HasSlot p.k here slot) (of : IsWindowOf p stage.0 (node_at stage.1 count) here)
      (list : List Pair) (into : (q : Pair) → InPairs q list → InPairs q (list_at slots slot)
      ⊎ InPairs q (list_at lists count)) (keeps : (q : Pair) → InPairs q (list_at slots slot)
      ⊎ InPairs q (list_at lists count) → (o : Pair) × InPairs o list × NoWorse o q)
      (ranged : All IsPairInRange (list_at slots slot) → All IsPairInRange list) where
    lt : slot < length slots
    lt = omega arith

    weaker : (d : PatternNode) (q : Pair) → IsEntryBefore p stage lists count d q
        → IsEntryBefore p stage lists (count + 1) d q
    weaker d q e = (e.0, let l = e.1 in omega (arith, l))

    found_here : (q : Pair) → InPairs q list → (d : PatternNode) × (d.0 ≡ stage.0) × HasSlot p.k d slot
        × IsEntryBefore p stage lists (count + 1) d q
    found_here q i = elim (into q i) [
      | inl old ↦ (let e = g.found slot q old in (e.0, e.1, e.2, weaker e.0 q e.3))
      | inr new ↦ (here, at, has, (record { place = count; within = within; node = of; has = new }, omega arith))
    ]

    -- an entry of the first windows is one of those before, or of this
    covers_here : (d : PatternNode) (q : Pair) → d ≡ here → IsEntryBefore p stage lists (count + 1) d q
        → (o : Pair) × InPairs o list × NoWorse o q
    covers_here d q same e = elim (cases_eq e.0.place count) [
      | inl this ↦ keeps q (inr (subst (λ j. InPairs q (list_at lists j)) this e.0.has))
      | inr other ↦
          let c = g.covers slot d q (ap (λ (w : PatternNode). w.0) same ∙ at)
          (subst (λ w. HasSlot p.k w slot) (sym same) has) (e.0, (let l = e.1 in omega (arith, l, other))) in
          let o = keeps c.0 (inl c.1) in
          (o.0, o.1, no_worse_trans o.0 c.0 q o.2 c.2)
    ]

    covers_there : (other : ℕ) (d : PatternNode) (q : Pair) → (other ≡ slot → ⊥) → d.0 ≡ stage.0 → HasSlot p.k d other
        → IsEntryBefore p stage lists (count + 1) d q → (o : Pair) × InPairs o (list_at slots other) × NoWorse o q
    covers_there other d q ne same it e = elim (cases_eq e.0.place count) [
      | inl this ↦
          let node = window_node p stage.0 (node_at stage.1 count) d here (place_landable p stage lists h count within)
          (subst (λ j. IsWindowOf p stage.0 (node_at stage.1 j) d) this e.0.node) of in
          absurd (ne (one_slot p.k here other slot (subst (λ w. HasSlot p.k w other) node it) has))
      | inr apart ↦ g.covers other d q same it (e.0, (let l = e.1 in omega (arith, l, apart)))
    ]

    pub more_gathered : AreGathered p stage lists (count + 1) (set slots slot list)
    more_gathered = record {
      room = length-set slots slot list ∙ g.room;
      found = λ s q i. elim (cases_eq s slot) [
        | inl e ↦ subst (λ m. (d : PatternNode)
            × (d.0 ≡ stage.0) × HasSlot p.k d m × IsEntryBefore p stage lists (count + 1) d q) (sym e) (found_here q
            (subst (InPairs q) (ap (list_at (set slots slot list)) e ∙ get_or-set_same slots slot list [] lt) i))
        | inr ne ↦ (let f = g.found s q (subst (InPairs q) (get_or-set_other slots slot s list [] ne) i) in
            (f.0, f.1, f.2, weaker f.0 q f.3))
      ];
      covers = λ s d q same it e. elim (cases_eq s slot) [
        | inl f ↦
            let c = covers_here d q (slot_node p.k d here slot (same ∙ sym at) (subst (HasSlot p.k d) f it) has) e in (
              c.0,
              subst (InPairs c.0)
                  (sym (ap (list_at (set slots slot list)) f ∙ get_or-set_same slots slot list [] lt)) c.1,
              c.2,
            )
        | inr ne ↦
            let c = covers_there s d q ne same it e in
            (c.0, subst (InPairs c.0) (sym (get_or-set_other slots slot s list [] ne)) c.1, c.2)
      ];
      in_range = λ s. elim (cases_eq s slot) [
        | inl e ↦ subst (All IsPairInRange) (sym
            (ap (list_at (set slots slot list)) e ∙ get_or-set_same slots slot list [] lt)) (ranged (g.in_range slot))
        | inr ne ↦ subst (All IsPairInRange) (sym (get_or-set_other slots slot s list [] ne)) (g.in_range s)
      ];
    }

-- ---- slots of nodes that are put together

pub slot_moves : (k stage : ℕ) (xs ys : List ℤ) (slot : ℕ) → AreOneNode stage xs ys → IsSlotOf k stage xs slot
    → IsSlotOf k stage ys slot
slot_moves k stage xs ys slot one is = record {
  placed = is.placed;
  told = one_tells stage xs ys is.placed one is.told;
  has = subst (λ (l : ℕ). HasSlot k (stage, digits_of k stage is.placed, l) slot) one.last is.has;
}

pub one_slot_more : (k stage : ℕ) (list : List (List ℤ)) (firsts : List ℕ) (count : ℕ) (slots : List ℕ) (slot : ℕ)
    → HaveSlots k stage list firsts count slots → IsSlotOf k stage (node_at list (told_at firsts count)) slot
    → HaveSlots k stage list firsts (count + 1) (slots ++ slot ∷ [])
one_slot_more k stage list firsts count slots slot h is = grind (arith, common_steps)

-- the earliest pairs of the first nodes, each in its slot
pub record AreEarliest (slots : List ℕ) (least : List Pair) (room count : ℕ) (pairs : List (List Pair)) : Type 0 where
  pub room_is : length pairs ≡ room
  pub found : (slot : ℕ) (q : Pair) → InPairs q (list_at pairs slot) → (j : ℕ) × (j < count)
      × (told_at slots j ≡ slot) × (q ≡ pair_at least j)
  pub covers : (j : ℕ) → j < count → (o : Pair) × InPairs o (list_at pairs (told_at slots j))
      × NoWorse o (pair_at least j)
  pub in_range : (slot : ℕ) → All IsPairInRange (list_at pairs slot)

none_in : (n slot : ℕ) → list_at (replicate n []) slot ≡ []
none_in zero slot = refl
none_in (suc n) zero = refl
none_in (suc n) (suc slot) = none_in n slot

pub no_earliest : (slots : List ℕ) (least : List Pair) (room : ℕ) → AreEarliest slots least room 0 (replicate room [])
no_earliest slots least room = grind (arith, common_steps)

module _ (slots : List ℕ) (least : List Pair) (room count : ℕ) (pairs : List (List Pair))
    (m : AreEarliest slots least room count pairs) (inside : told_at slots count < length pairs)
    (list : List Pair) (into : (q : Pair) → InPairs q list → InPairs q (list_at pairs (told_at slots count))
    ⊎ (q ≡ pair_at least count)) (keeps : (q : Pair) → InPairs q (list_at pairs (told_at slots count))
    ⊎ (q ≡ pair_at least count) → (o : Pair) × InPairs o list × NoWorse o q)
    (ranged : All IsPairInRange (list_at pairs (told_at slots count)) → All IsPairInRange list) where
  abbrev slot : ℕ
  slot = told_at slots count

  here : (s : ℕ) → s ≡ slot → list_at (set pairs slot list) s ≡ list
  here s e = search rules

  old_found : (q : Pair) (s : ℕ) → InPairs q (list_at pairs s) → (j : ℕ) × (j < count + 1)
      × (told_at slots j ≡ s) × (q ≡ pair_at least j)
  old_found q s i = let f = m.found s q i in search rules

  pub one_earliest : AreEarliest slots least room (count + 1) (set pairs slot list)
  one_earliest = record {
    room_is = length-set pairs slot list ∙ m.room_is;
    found = λ s q i. elim (cases_eq s slot) [
      | inl e ↦ elim (into q (subst (InPairs q) (here s e) i)) [
        | inl old ↦ (let f = old_found q slot old in (f.0, f.1, f.2 ∙ sym e, f.3))
        | inr new ↦ (count, omega arith, sym e, new)
      ]
      | inr ne ↦ old_found q s (subst (InPairs q) (get_or-set_other pairs slot s list [] ne) i)
    ];
    covers = λ j lt. elim (cases_eq (told_at slots j) slot) [
      | inl e ↦ elim (cases_eq j count) [
        | inl this ↦
            let o = keeps (pair_at least count) (inr refl) in (
              o.0,
              subst (InPairs o.0) (sym (here (told_at slots j) e)) o.1,
              subst (λ (n : ℕ). NoWorse o.0 (pair_at least n)) (sym this) o.2,
            )
        | inr other ↦
            let c = m.covers j (omega (arith, lt, other)) in
            let o = keeps c.0 (inl (subst (λ (n : ℕ). InPairs c.0 (list_at pairs n)) e c.1)) in (
              o.0,
              subst (InPairs o.0) (sym (here (told_at slots j) e)) o.1,
              no_worse_trans o.0 c.0 (pair_at least j) o.2 c.2,
            )
      ]
      | inr ne ↦
          let less : j < count = before j lt ne in
          let c = m.covers j less in
          (c.0, subst (InPairs c.0) (sym (get_or-set_other pairs slot (told_at slots j) list [] ne)) c.1, c.2)
    ];
    in_range = λ s. elim (cases_eq s slot) [
      | inl e ↦ subst (All IsPairInRange) (sym (here s e)) (ranged (m.in_range slot))
      | inr ne ↦ subst (All IsPairInRange) (sym (get_or-set_other pairs slot s list [] ne)) (m.in_range s)
    ];
  }
    where
      before : (j : ℕ) → j < count + 1 → (told_at slots j ≡ slot → ⊥) → j < count
      before j lt ne = search rules

-- ---- the pairs of a problem of the makespan cost nothing

no_cost : (p : Problem) → p.objective ≡ Makespan → (xs : List Landing) → cost_of (cost_at p) xs ≡ 0
no_cost p e [] = refl
no_cost p e (x ∷ xs) = cc (no_cost p e xs)

module _ (p : Problem) (tell : PlacedTellNodes p) (held : Option HeldProblem) (stage : ℕ)
    (number : (stage_in held stage).0 ≡ stage) (h : HoldsCosts p (stage_in held stage) (lists_in held stage))
    (put : WindowNodes) (are : AreNodesOf held stage put) (slots : List ℕ)
    (hs : HaveSlots p.k stage (stage_in held stage).1 put.firsts (length put.firsts) slots) where
  abbrev s : ℕ × List (List ℤ)
  s = stage_in held stage

  abbrev all_lists : List (List Pair)
  all_lists = lists_in held stage

  -- the slot of a window is that of the first window of its node
  pub window_slot : (i : ℕ) → i < length s.1 → IsSlotOf p.k stage (node_at s.1 i) (told_at slots (told_at put.places i))
  window_slot i lt = slot_moves p.k stage (node_at s.1 (told_at put.firsts (told_at put.places i)))
      (node_at s.1 i) (told_at slots (told_at put.places i)) (are.together.one i lt)
      (hs.each (told_at put.places i) (are.together.within i lt))

  pub node_of_window : (i : ℕ) → i < length s.1 → PatternNode
  node_of_window i lt = (stage, digits_of p.k stage (window_slot i lt).placed, latest (stage, node_at s.1 i))

  of_window : (i : ℕ) (lt : i < length s.1) → IsWindowOf p s.0 (node_at s.1 i) (node_of_window i lt)
  unfolding node_of_window
  of_window i lt = window_here p tell s stage number i p.k (window_slot i lt).placed
      (latest (stage, node_at s.1 i)) refl (window_slot i lt).told refl

  has_window : (i : ℕ) (lt : i < length s.1) → HasSlot p.k (node_of_window i lt) (told_at slots (told_at put.places i))
  unfolding node_of_window
  has_window i lt = search rules

  at_window : (i : ℕ) (lt : i < length s.1) → (node_of_window i lt).0 ≡ s.0
  unfolding node_of_window
  at_window i _ = sym number

  -- one window more, for any objective
  pub window_joined : (i : ℕ) (lt : i < length s.1) (pairs : List (List Pair)) → AreGathered p s all_lists i pairs
      → (list : List Pair)
      → ((q : Pair) → InPairs q list → InPairs q (list_at pairs (told_at slots (told_at put.places i)))
      ⊎ InPairs q (list_at all_lists i))
      → ((q : Pair) → InPairs q (list_at pairs (told_at slots (told_at put.places i))) ⊎ InPairs q (list_at all_lists i)
      → (o : Pair) × InPairs o list × NoWorse o q)
      → (All IsPairInRange (list_at pairs (told_at slots (told_at put.places i))) → All IsPairInRange list)
      → AreGathered p s all_lists (i + 1) (set pairs (told_at slots (told_at put.places i)) list)
  window_joined i lt pairs g list into keeps ranged =
      more_gathered p s all_lists h i lt pairs g (told_at slots (told_at put.places i)) (node_of_window i lt)
      (at_window i lt) (has_window i lt) (of_window i lt) list into keeps ranged

  module _ (makespan : p.objective ≡ Makespan) (least : List Pair) (l : AreLeastIn held stage put least)
      (pairs : List (List Pair)) (m : AreEarliest slots least (8 * 2 ^ (2 * p.k)) (length put.firsts) pairs) where
    free : (i : ℕ) → i < length s.1 → (q : Pair) → InPairs q (list_at all_lists i) → q.1 ≡ 0
    free i lt q has = let a = (((h.costs.pairs i lt).undominated q).0 has).attained in search (rules, no_cost)

    inside : (j : ℕ) (q : Pair) (is : IsPairAt all_lists put.places j q) → is.window < length s.1
    inside j q is = omega arith

    -- the least of a node is a pair of one of its windows
    least_is : (j : ℕ) → j < length put.firsts → (i : ℕ) × (i < length s.1) × (told_at put.places i ≡ j)
        × InPairs (pair_at least j) (list_at all_lists i)
    least_is j lt =
        let a = (l.each j lt).earliest in
        let b = (l.each j lt).cheapest in
        let same : a.0 ≡ pair_at least j = ap₂ (λ (x y : ℕ). (x, y)) a.2
        ((free a.1.window (inside j a.0 a.1) a.0 a.1.has) ∙ sym (free b.1.window (inside j b.0 b.1) b.0 b.1.has) ∙
        b.2) in search rules

    pub earliest_gathered : AreGathered p s all_lists (length s.1) pairs
    earliest_gathered = record {
      room = m.room_is;
      found = λ slot q i.
          let f = m.found slot q i in
          let w = least_is f.0 f.1 in
          let at : told_at slots (told_at put.places w.0) ≡ slot = ap (told_at slots) w.2 ∙ f.2 in (
            node_of_window w.0 w.1,
            at_window w.0 w.1,
            subst (HasSlot p.k (node_of_window w.0 w.1)) at (has_window w.0 w.1),
            (
              record {
                place = w.0;
                within = w.1;
                node = of_window w.0 w.1;
                has = subst (λ (x : Pair). InPairs x (list_at all_lists w.0)) (sym f.3) w.3;
              },
              w.1,
            ),
          );
      covers = λ slot d q same it e.
          let i = e.0.place in
          let lt = e.0.within in
          let j = told_at put.places i in
          let one = window_node p s.0 (node_at s.1 i) d (node_of_window i lt)
          (place_landable p s all_lists h i lt) e.0.node (of_window i lt) in
          let at : slot ≡ told_at slots j = one_slot p.k (node_of_window i lt) slot (told_at slots j)
          (subst (λ (w : PatternNode). HasSlot p.k w slot) one it) (has_window i lt) in
          let within = are.together.within i lt in
          let c = m.covers j within in
          let pair : IsPairAt all_lists put.places j q = record {
            window = i;
            within = (let a = are.together.long in omega (arith, a, lt));
            of_node = refl;
            has = e.0.has;
          } in (
            c.0,
            subst (λ (n : ℕ). InPairs c.0 (list_at pairs n)) (sym at) c.1,
            no_worse_trans c.0 (pair_at least j) q c.2 ((l.each j within).early q pair, (l.each j within).cheap q pair),
          );
      in_range = m.in_range;
    }
