-- The range of the windows that lead to a window, as links tell it and as it is searched.
use Rattle.std.proofs.Common.{◌≡◌, ℕ, ◌<◌, ◌≤◌, List, length, sym, subst, ap, arith}
use Rattle.std.specs.Prelude.{ℤ, ◌↔◌, slice_index}
use Rattle.cps_nodes.specs.Leads.{Extends}
use Rattle.landing_rules.specs.Problem.{Problem}
use Rattle.cps_network.specs.Groups.{IsGroup}
use Rattle.cps_network.specs.Links.{Links, AreLinks, range_at}
use Rattle.cps_network.specs.Lists.{node_at}
use Rattle.cps_network.specs.shared.LeadingWindows.{Sources, group_sources_from, sources_from}
use Rattle.makespan_labels.specs.Labellings.{CanLabel}

module _ (p : Problem) (w : ℕ) (before stage : ℕ × List (List ℤ)) (labels : List ℕ)
    (can : CanLabel p w before labels stage) (i : ℕ) (lt : i < length stage.1) where
  pub linked_sources : (l : Links) → AreLinks l → l.origin ≡ before.1 → l.target ≡ stage.1 → (range : ℕ × ℕ)
      → range ≡ range_at l.ranges (slice_index l.places i)
      → Sources p w before.0 before.1 (node_at stage.1 i) range.0 range.1
  linked_sources l links origin target range is =
      let place = slice_index l.places i in
      let at = range_at l.ranges place in
      let here : i < length l.target = omega (arith, lt, ap length target) in
      let group : IsGroup before.1 at.0 at.1 = subst (λ (ws : List (List ℤ)). IsGroup ws at.0 at.1) origin
      (links.groups place (links.within i here)) in
      let leads : Extends (node_at before.1 at.0) (node_at stage.1 i) =
      subst (λ (ws : List (List ℤ)). Extends (node_at before.1 at.0) (node_at ws i)) target
      (subst (λ (ws : List (List ℤ)). Extends (node_at ws at.0) (node_at l.target i)) origin (links.leads i here)) in
      subst (λ (r : ℕ × ℕ). Sources p w before.0 before.1 (node_at stage.1 i) r.0 r.1) (sym is)
      (group_sources_from p w before stage i at.0 at.1 can.odd can.laws can.held.landable can.next lt group leads)

  pub searched_sources : (node : List ℤ) → node ≡ node_at stage.1 i → (range : ℕ × ℕ) → range.1 ≤ length before.1
      → ((j : ℕ) → j < length before.1 → Extends (node_at before.1 j) node ↔ ((range.0 ≤ j) × (j < range.1)))
      → Sources p w before.0 before.1 (node_at stage.1 i) range.0 range.1
  searched_sources node is range within exact =
      sources_from p w before stage i range.0 range.1 can.odd can.laws can.held.landable can.next lt within
      (subst (λ (x : List ℤ). (j : ℕ) → j < length before.1
      → Extends (node_at before.1 j) x ↔ ((range.0 ≤ j) × (j < range.1))) is exact)
