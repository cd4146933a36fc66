-- The label of a window of the next stage, from the least label of the windows that lead to it.
use Rattle.std.proofs.Common.{rules, ◌≡◌, ℕ, suc, ◌+◌, ◌-◌, ◌<◌, ◌≤◌, List, length, Option, Some, None, refl, sym, ap}
use Rattle.std.proofs.Common.{subst, ◌∙◌, arith, le_trans, true, false}
use Rattle.std.proofs.lemmas.Option.{none-some}
use Rattle.std.specs.Prelude.{ℤ, pos, ◌+ℤ◌, slice_index, MatchOption, unwrap_or, nat_eq}
use Rattle.std.specs.Option.{option_eq}
use Rattle.cps_nodes.specs.Windows.{offset_at}
use Rattle.cps_theory.specs.Feasible.{next_from}
use Rattle.cps_theory.specs.laws.LeastObjective.{next_later}
use Rattle.landing_joint.specs.RankedProblem.{ranked, landing_after}
use Rattle.landing_joint.specs.shared.FirstOpen.{is_first_open}
use Rattle.landing_rules.specs.Problem.{Problem}
use Rattle.landing_rules.specs.Rules.{last_second}
use Rattle.cps_network.specs.Lists.{node_at}
use Rattle.cps_network.specs.Nodes.{latest}
use Rattle.cps_network.specs.Permits.{IsSuccessor}
use Rattle.cps_network.specs.shared.LeadingWindows.{Sources, landable_at, successor_at, place_of, place_at, rank_of}
use Rattle.cps_network.specs.shared.LeadingWindows.{leader_at, some_range}
use Rattle.makespan_labels.specs.Columns.{IsLabelOf, IsLeastOf}
use Rattle.makespan_labels.specs.Labels.{no_label, CanLandAt, IsLabel, AreLabels, GivesLabel}
use Rattle.makespan_labels.proofs.ColumnLemmas.{some_from_eq, none_from_eq}
use Rattle.makespan_labels.specs.shared.NetworkSteps.{can_land, is_landable, ComesFrom, comes_from, lands_next}

-- the rank that lands last in a window is in reach of its stage
pub in_reach : (p : Problem) (w stage : ℕ) (before : List (List ℤ)) (v : List ℤ) (from to : ℕ)
    → Sources p w stage before v from to → (r : ℕ) → pos r ≡ pos (suc stage) +ℤ offset_at v (w - 1)
    → (suc stage ≤ r + p.k) × (r ≤ suc stage + p.k)
in_reach p w stage before v from to range r rank_is =
    let some = some_range p w stage before v from to range in
    let lt : from < length before = omega (arith, some, range.within) in
    let s = successor_at p w stage before v from to range from (omega arith) some in
    let same : s.0 ≡ r = search (rules, rank_of, landable_at) in omega arith

module _ (p : Problem) (w stage : ℕ) (before : List (List ℤ)) (v : List ℤ) (from to : ℕ)
    (range : Sources p w stage before v from to) (labels : List ℕ) (are : AreLabels p (stage, before) labels) where
  -- each label of the range is known
  pub known_at : (j : ℕ) → from ≤ j → j < to → slice_index labels j < no_label
  known_at j lo hi =
      let lt : j < length before = omega (arith, hi, range.within) in
      ((are.label j lt).least _
      (can_land p stage (node_at before j) (landable_at p w stage before v from to range j lt))).0

  module _ (l r : ℕ) (leader_is : pos l ≡ pos stage +ℤ offset_at (node_at before from) (w - 1))
      (rank_is : pos r ≡ pos (suc stage) +ℤ offset_at v (w - 1)) where
    -- a landing behind a label of the range is one by the rank that leads on from its window
    behind_label : (j : ℕ) → from ≤ j → j < to
        → (x : IsSuccessor p stage (node_at before j) v)
        × (landing_after p (latest (stage, node_at before j)) (slice_index labels j) x.0 ≡ landing_after p l
        (slice_index labels j) r)
    behind_label j lo hi =
        let lt : j < length before = omega (arith, hi, range.within) in
        let s = successor_at p w stage before v from to range j lo hi in
        let same : s.0 ≡ r = search (rules, rank_of, landable_at) in
        let lead : latest (stage, node_at before j) ≡ l = search (rules, leader_at) in (
          s,
          cc,
        )

    pub lands_at : (j t : ℕ) → from ≤ j → j < to → landing_after p l (slice_index labels j) r ≡ Some t
        → CanLandAt p (suc stage) v t
    lands_at j t lo hi e =
        let lt : j < length before = omega (arith, hi, range.within) in
        let b = behind_label j lo hi in
        subst (λ (y : List ℤ). CanLandAt p (suc stage) y t) (sym b.0.2)
        (lands_next p range.laws.network stage (node_at before j) (slice_index labels j) b.0.0 t
        ((are.label j lt).attained (known_at j lo hi)) b.0.1 (b.1 ∙ e))

    -- whatever it lands at, a landing behind some label of the range is no later
    pub landing_behind : (t : ℕ) → CanLandAt p (suc stage) v t → (j : ℕ) × (from ≤ j) × (j < to)
        × ((b : ℕ) → b ≤ slice_index labels j → (u : ℕ) × (landing_after p l b r ≡ Some u) × (u ≤ t))
    landing_behind t a =
        let c : ComesFrom p stage v t = comes_from p range.laws.network stage v t a in
        let here = is_landable p stage c.source c.second c.before in
        let s : IsSuccessor p stage c.source v = (c.rank, c.permitted, c.next) in
        let j = place_of p w stage before v from to range c.source ((range.holds c.source).1 here) s in
        let same : c.rank ≡ r = rank_of p w stage before v from to range r rank_is c.source here s in
        let lead : latest (stage, c.source) ≡ l = ap (λ (y : List ℤ). latest (stage, y)) (sym j.3)
        ∙ leader_at p w stage before v from to range l leader_is j.0 j.1 j.2 in
        let label : slice_index labels j.0 ≤ c.second =
        ((are.label j.0 (omega (arith, j.2, range.within))).least c.second
        (subst (λ (y : List ℤ). CanLandAt p stage y c.second) (sym j.3) c.before)).1 in
        let apart : next_from (ranked p) l c.second r ≤ t =
        subst (λ (x : ℕ). next_from (ranked p) x c.second r ≤ t) lead
        (subst (λ (x : ℕ). next_from (ranked p) (latest (stage, c.source)) c.second x ≤ t) same c.apart) in (
          j.0,
          j.1,
          j.2,
          λ b low.
              let mono = (next_later (ranked p)).mono l b c.second r (le_trans low label) in
              (is_first_open p).least r (next_from (ranked p) l b r) t
              (subst (λ (x : ℕ). (ranked p).is_open x t ≡ true) same c.is_open) (le_trans mono apart),
        )

    module _ (best : ℕ) (least : IsLeastOf labels from to best) where
      pub label_none : landing_after p l best r ≡ None → IsLabel p (suc stage) v no_label
      label_none none = record {
        attained = λ lt. absurd (omega (arith, lt));
        least = λ t a.
            let j = landing_behind t a in
            let u = j.3 best (least.low j.0 j.1 j.2) in
            absurd (none-some u.0 (sym none ∙ u.1));
      }

      pub label_some : (second : ℕ) → second ≤ last_second → landing_after p l best r ≡ Some second
          → IsLabel p (suc stage) v second
      label_some second in_days e = record {
        attained = grind (arith, lands_at, least.place, least.from_here, least.to_there, landing_after);
        least = λ t a.
            let j = landing_behind t a in
            let u = j.3 best (least.low j.0 j.1 j.2) in grind arith;
      }

      -- the label that the landing gives
      pub label_behind : (label : ℕ) → IsLabelOf (landing_after p l best r) label → IsLabel p (suc stage) v label
      label_behind label of = by_landing (landing_after p l best r) refl of
        where
          by_landing : (landing : Option ℕ) → landing_after p l best r ≡ landing → IsLabelOf landing label
              → IsLabel p (suc stage) v label
          by_landing None e of = subst (IsLabel p (suc stage) v) (sym of.is) (label_none e)
          by_landing (Some second) e of = subst (IsLabel p (suc stage) v) (sym of.is) (label_some second of.in_days e)

    -- ---- the window that gives a label

    pub gives_label : (j t : ℕ) → from ≤ j → j < to → landing_after p l (slice_index labels j) r ≡ Some t
        → GivesLabel p (stage, before) labels v t j
    gives_label j t lo hi e =
        let b = behind_label j lo hi in grind arith

    pub given_in_range : (j t : ℕ) → GivesLabel p (stage, before) labels v t j → (from ≤ j)
        × (j < to) × (landing_after p l (slice_index labels j) r ≡ Some t)
    given_in_range j t g =
        let s : IsSuccessor p stage (node_at before j) v = (g.rank, g.permitted, g.next) in
        let found = place_at p w stage before v from to range j g.within s in
        let same : g.rank ≡ r = rank_of p w stage before v from to range r rank_is (node_at before j)
        (landable_at p w stage before v from to range j g.within) s in
        let lead : latest (stage, node_at before j) ≡ l = search (rules, leader_at, found.0) in grind arith

    pub some_gives : (label : ℕ) → label < no_label → IsLabel p (suc stage) v label
        → (j : ℕ) × (from ≤ j) × (j < to) × (landing_after p l (slice_index labels j) r ≡ Some label)
    some_gives label known is =
        let j = landing_behind label (is.attained known) in
        let u = j.3 (slice_index labels j.0) (omega arith) in
        let low = (is.least u.0 (lands_at j.0 u.0 j.1 j.2 u.1)).1 in grind arith

    -- what is found first in the range is the first window that gives it
    pub first_found : (label : ℕ) → label < no_label → IsLabel p (suc stage) v label → (found : Option ℕ)
        → MatchOption found ((k : ℕ) → from ≤ k → k < to
        → false ≡ option_eq nat_eq (landing_after p l (slice_index labels k) r) (Some label))
        (λ i. (from ≤ i) × (i < to)
        × (true ≡ option_eq nat_eq (landing_after p l (slice_index labels i) r) (Some label))
        × ((k : ℕ) → from ≤ k → k < i → false ≡ option_eq nat_eq (landing_after p l (slice_index labels k) r)
        (Some label)))
        → GivesLabel p (stage, before) labels v label (unwrap_or found from)
        × ((place : ℕ) → place < unwrap_or found from → GivesLabel p (stage, before) labels v label place → ⊥)
    first_found label known is None none =
        let j = some_gives label known is in grind arith
    first_found label known is (Some i) at = (
      grind (arith, gives_label, at.0, at.1, some_from_eq, landing_after, slice_index),
      λ place lt given.
          let g = given_in_range place label given in
          grind (arith, none_from_eq, landing_after, slice_index, at.3, g.0),
    )

-- ---- as the calls have it

pub label_here : (p : Problem) (a b : ℕ) (v : List ℤ) (label : ℕ) → b ≡ a + 1 → IsLabel p (suc a) v label
    → IsLabel p b v label
label_here p a b v label e is = grind arith

pub label_next : (p : Problem) (a : ℕ) (v : List ℤ) (label : ℕ) → IsLabel p (a + 1) v label → IsLabel p (suc a) v label
label_next p a v label is = grind arith
