-- The windows that lead to a window of the next stage: they stand side by side, and land one rank behind one other.
use Rattle.std.proofs.Common.{rules, ◌≡◌, ℕ, suc, ◌+◌, ◌-◌, ◌*◌, ◌<◌, ◌≤◌, List, length, drop, sym, subst, ◌∙◌, arith}
use Rattle.std.proofs.Common.{[]}
use Rattle.std.specs.Prelude.{ℤ, pos, ◌+ℤ◌, ◌≤ℤ◌, ◌↔◌, Contains}
use Rattle.std.proofs.lemmas.Int.{ints}
use Rattle.std.proofs.lemmas.List.{get_or_default}
use Rattle.std.proofs.lemmas.List.Elements.{Contains-get_or}
use Rattle.cps_base.specs.Limits.{most_waiting}
use Rattle.cps_nodes.specs.Windows.{IsWindow, offset_at}
use Rattle.cps_nodes.specs.Leads.{Extends, TailMeetsHead}
use Rattle.cps_nodes.specs.Laws.{FollowRanks, LeadOn, offset_after}
use Rattle.landing_rules.specs.Problem.{Problem}
use Rattle.cps_network.specs.Groups.{IsGroup}
use Rattle.cps_network.specs.Landable.{IsLandable, HoldsLandable}
use Rattle.cps_network.specs.Lists.{node_at}
use Rattle.cps_network.specs.Nodes.{IsWindowNetwork, latest}
use Rattle.cps_network.specs.Permits.{IsSuccessor, IsNextOf, LeadAlike}
use Rattle.cps_network.specs.WindowLaws.{WindowLaws}
use Rattle.cps_network.specs.shared.LegalWindows.{valid_after, landable_valid, landable_last, next_last}

-- windows with the same offsets from the second on end alike
same_last : (w : ℕ) (x y : List ℤ) → IsWindow w x → IsWindow w y → drop 1 x ≡ drop 1 y
    → offset_at x (w - 1) ≡ offset_at y (w - 1)
same_last w x y a b e = grind arith

-- the range of the windows that lead to a window of the next stage
pub record Sources (p : Problem) (w stage : ℕ) (before : List (List ℤ)) (v : List ℤ) (from to : ℕ) : Type 0 where
  pub odd : w ≡ 2 * p.k + 1
  pub laws : WindowLaws p w
  pub holds : HoldsLandable p (stage, before)
  pub node : (x : List ℤ) × Contains before x × IsSuccessor p stage x v
  pub within : to ≤ length before
  pub exact : (j : ℕ) → j < length before → Extends (node_at before j) v ↔ ((from ≤ j) × (j < to))

module _ (p : Problem) (w stage : ℕ) (before : List (List ℤ)) (v : List ℤ) (from to : ℕ)
    (range : Sources p w stage before v from to) where
  open range use {odd, laws, holds, node, within, exact}

  pub landable_at : (j : ℕ) → j < length before → IsLandable p stage (node_at before j)
  landable_at j lt = (holds (node_at before j)).0 (Contains-get_or before j [] lt)

  landable_of : (x : List ℤ) → Contains before x → IsLandable p stage x
  landable_of x has = (holds x).0 has

  extends_of : (x : List ℤ) → IsLandable p stage x → IsSuccessor p stage x v → Extends x v
  extends_of x l s =
      let wide = (landable_valid p w odd laws stage x l).len in (
        offset_after stage s.0,
        record {
          low = omega (arith, ints, s.1.late, odd, wide);
          high =
              omega (arith, ints, s.1.early, odd, wide);
        },
        s.1.accepted,
        s.2,
      )

  node_valid : IsWindow w v
  node_valid =
      let l = landable_of node.0 node.1 in
      subst (IsWindow w) (sym node.2.2) (valid_after p w odd laws node.0 stage node.2.0
      (landable_valid p w odd laws stage node.0 l) node.2.1)

  meets_at : (j : ℕ) → from ≤ j → j < to → TailMeetsHead (node_at before j) v
  meets_at j lo hi =
      let lt : j < length before = omega (arith, hi, within) in
      (laws.leads.meets (node_at before j) v (landable_valid p w odd laws stage (node_at before j)
      (landable_at j lt)) node_valid).0 ((exact j lt).1 (lo, hi))

  pub successor_at : (j : ℕ) → from ≤ j → j < to → IsSuccessor p stage (node_at before j) v
  successor_at j lo hi =
      let lt : j < length before = omega (arith, hi, within) in
      search (rules, laws.alike, landable_valid, odd, laws, landable_of, landable_at, meets_at)

  -- each window that leads to it is in the range
  pub place_of : (x : List ℤ) → Contains before x → IsSuccessor p stage x v → (j : ℕ) × (from ≤ j)
      × (j < to) × (node_at before j ≡ x)
  place_of x (i, lt, at) s =
      let it : node_at before i ≡ x = get_or_default before i [] x lt ∙ at in
      let found = (exact i lt).0 (subst (λ (y : List ℤ). Extends y v) (sym it)
      (extends_of x (landable_of x (i, lt, at)) s)) in
      (i, found.0, found.1, it)

  pub place_at : (j : ℕ) → j < length before → IsSuccessor p stage (node_at before j) v → (from ≤ j) × (j < to)
  place_at j lt s = (exact j lt).0 (extends_of (node_at before j) (landable_at j lt) s)

  pub some_range : from < to
  some_range = let j = place_of node.0 node.1 node.2 in omega (arith, j.1, j.2)

  -- the rank that lands last in it
  pub rank_of : (r : ℕ) → pos r ≡ pos (suc stage) +ℤ offset_at v (w - 1) → (x : List ℤ) → IsLandable p stage x
      → (s : IsSuccessor p stage x v) → s.0 ≡ r
  rank_of r is x l s = grind (arith, next_last)

  pub rank_range : (pos 1 ≤ℤ (pos (suc stage) +ℤ offset_at v (w - 1)))
      × ((pos (suc stage) +ℤ offset_at v (w - 1)) ≤ℤ pos (length p.flights))
  rank_range = search (rules, landable_of, node.0, next_last, odd, laws)

  -- the rank that landed last before it is the same in each window of the range
  pub leader_range : (pos stage +ℤ offset_at (node_at before from) (w - 1) ≡ pos (latest (stage, node_at before from)))
      × (latest (stage, node_at before from) ≤ length p.flights)
  leader_range = let s = some_range in landable_last p w odd laws stage (node_at before from)
      (landable_at from (omega (arith, s, within)))

  pub leader_at : (l : ℕ) → pos l ≡ pos stage +ℤ offset_at (node_at before from) (w - 1) → (j : ℕ)
      → from ≤ j → j < to → latest (stage, node_at before j) ≡ l
  leader_at l is j lo hi =
      let s = some_range in
      let lt : j < length before = omega (arith, hi, within) in
      let first : from < length before = omega (arith, s, within) in
      let a = (landable_last p w odd laws stage (node_at before j) (landable_at j lt)).0 in
      let e : offset_at (node_at before j) (w - 1) ≡ offset_at (node_at before from) (w - 1) =
      search (rules, same_last, landable_valid, odd, landable_at, meets_at) in
      omega (arith, ints, a, e, is)

  -- they are those that share a tail
  pub sources_group : IsGroup before from to
  sources_group = record {
    some = some_range;
    within = within;
    exact =
        λ j lt. (λ e. shares j lt e, λ r. grind (arith, meets_at));
  }
    where
      shares : (j : ℕ) → j < length before → drop 1 (node_at before j) ≡ drop 1 (node_at before from)
          → (from ≤ j) × (j < to)
      shares j lt e =
          (exact j lt).0 ((laws.leads.meets (node_at before j) v
          (landable_valid p w odd laws stage (node_at before j) (landable_at j lt)) node_valid).1
          (e ∙ meets_at from (omega arith) some_range))

-- windows that share a tail are all that lead to a window to which the first of them leads
module _ (p : Problem) (w stage : ℕ) (before : List (List ℤ)) (v : List ℤ) (from to : ℕ) (odd : w ≡ 2 * p.k + 1)
    (laws : WindowLaws p w) (holds : HoldsLandable p (stage, before)) (node : (x : List ℤ) × Contains before x
    × IsSuccessor p stage x v) (group : IsGroup before from to) where
  valid_at : (j : ℕ) → j < length before → IsWindow w (node_at before j)
  valid_at j lt = landable_valid p w odd laws stage (node_at before j)
      ((holds (node_at before j)).0 (Contains-get_or before j [] lt))

  next_valid : IsWindow w v
  next_valid = subst (IsWindow w) (sym node.2.2) (valid_after p w odd laws node.0 stage node.2.0
      (landable_valid p w odd laws stage node.0 ((holds node.0).0 node.1)) node.2.1)

  meets : (j : ℕ) → j < length before → Extends (node_at before j) v ↔ TailMeetsHead (node_at before j) v
  meets j lt = grind (arith, valid_at, next_valid)

  pub group_sources : Extends (node_at before from) v → Sources p w stage before v from to
  group_sources leads =
      let first : from < length before = omega (arith, group.some, group.within) in
      let head : TailMeetsHead (node_at before from) v = (meets from first).0 leads in
      record {
        odd = odd;
        laws = laws;
        holds = holds;
        node = node;
        within = group.within;
        exact = λ j lt. (
          grind (arith, meets),
          λ r. (meets j lt).1 ((group.exact j lt).1 r ∙ head),
        );
      }

-- ---- as the calls have it

-- from the laws one by one
pub sources_of : (p : Problem) (w : ℕ) (before : ℕ × List (List ℤ)) (v : List ℤ) (from to : ℕ)
    → w ≡ 2 * p.k + 1 → IsWindowNetwork p → LeadAlike p w → FollowRanks w → LeadOn w
    → HoldsLandable p before → (x : List ℤ) × Contains before.1 x × IsSuccessor p before.0 x v → to ≤ length before.1
    → ((j : ℕ) → j < length before.1 → Extends (node_at before.1 j) v ↔ ((from ≤ j) × (j < to)))
    → Sources p w before.0 before.1 v from to
sources_of p w before v from to odd network alike ranks leads holds node within exact = grind arith

pub sources_from : (p : Problem) (w : ℕ) (before after : ℕ × List (List ℤ)) (i from to : ℕ)
    → w ≡ 2 * p.k + 1 → WindowLaws p w → HoldsLandable p before
    → IsNextOf p before.0 before.1 after.1 → i < length after.1 → to ≤ length before.1
    → ((j : ℕ) → j < length before.1 → Extends (node_at before.1 j) (node_at after.1 i) ↔ ((from ≤ j) × (j < to)))
    → Sources p w before.0 before.1 (node_at after.1 i) from to
sources_from p w before after i from to odd laws holds next lt within exact =
    record {
      odd = odd;
      laws = laws;
      holds = holds;
      node =
          (next (node_at after.1 i)).0 (Contains-get_or after.1 i [] lt);
      within = within;
      exact = exact;
    }

pub group_sources_from : (p : Problem) (w : ℕ) (before after : ℕ × List (List ℤ)) (i from to : ℕ)
    → w ≡ 2 * p.k + 1 → WindowLaws p w → HoldsLandable p before
    → IsNextOf p before.0 before.1 after.1 → i < length after.1 → IsGroup before.1 from to
    → Extends (node_at before.1 from) (node_at after.1 i)
    → Sources p w before.0 before.1 (node_at after.1 i) from to
group_sources_from p w before after i from to odd laws holds next lt group leads =
    group_sources p w before.0 before.1 (node_at after.1 i) from to odd laws holds
    ((next (node_at after.1 i)).0 (Contains-get_or after.1 i [] lt)) group leads

-- the last rank of a window that is written otherwise
pub same_rank : (x y : List ℤ) (n m l j : ℕ) → x ≡ y → n ≡ m → pos l ≡ pos n +ℤ offset_at x j
    → pos l ≡ pos m +ℤ offset_at y j
same_rank x y n m l j e f is = cc

pub in_bytes : (x y : List ℤ) (n m j c : ℕ) → x ≡ y → n ≡ m → c ≤ most_waiting → (pos 0 ≤ℤ (pos m +ℤ offset_at y j))
    → ((pos m +ℤ offset_at y j) ≤ℤ pos c)
    → (pos 0 ≤ℤ (pos n +ℤ offset_at x j)) × ((pos n +ℤ offset_at x j) ≤ℤ pos most_waiting)
in_bytes x y n m j c e f few low high = grind arith
