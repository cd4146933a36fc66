-- The rank that lands last in a window of a stage that can be labelled, and the rank that landed just before: both are in
-- reach of their stages, and the latter is the latest landing.
use Rattle.std.proofs.Common.{◌≡◌, ◌∙◌, ℕ, suc, ◌-◌, ◌/◌, ◌<◌, ◌≤◌, List, length, ap, sym, subst, arith}
use Rattle.std.proofs.lemmas.Int.{ints}
use Rattle.std.specs.Prelude.{ℤ, pos, ◌+ℤ◌, ◌≤ℤ◌}
use Rattle.cps_base.specs.Limits.{most_waiting}
use Rattle.cps_nodes.specs.Windows.{IsWindow, offset_at}
use Rattle.cps_theory.specs.LandingTrail.{latest_landing, ranks}
use Rattle.cps_theory.specs.Labels.{Pair}
use Rattle.cps_theory.specs.laws.LabelDominance.{last_ranks}
use Rattle.landing_joint.specs.RankedProblem.{landing_after}
use Rattle.landing_rules.specs.Problem.{Problem}
use Rattle.landing_rules.specs.Rules.{last_second}
use Rattle.cps_network.specs.Lists.{node_at}
use Rattle.cps_network.specs.Nodes.{latest, IsWindowNetwork}
use Rattle.cps_network.specs.shared.LeadingWindows.{Sources, in_bytes, landable_at, leader_at, leader_range, rank_range}
use Rattle.cps_network.specs.shared.LeadingWindows.{same_rank, some_range}
use Rattle.cps_network.specs.shared.LegalWindows.{landable_valid}
use Rattle.makespan_labels.specs.Columns.{IsEntry, IsLabelOf, IsLeastOf}
use Rattle.makespan_labels.specs.Entries.{IsLabelAt}
use Rattle.makespan_labels.specs.Labellings.{CanLabel}
use Rattle.makespan_labels.specs.Labels.{CanLandAt}
use Rattle.makespan_labels.proofs.ColumnLemmas.{entry_of, entry_small}
use Rattle.makespan_labels.proofs.LabelLemmas.{in_reach, known_at, label_behind, label_here}
use Rattle.stage_landings.specs.Reach.{IsInReach, IsLatest, MayLead}
use Rattle.stage_landings.specs.shared.LatestLandings.{is_latest}

-- what lands last in a window is its latest landing
can_latest : (p : Problem) → IsWindowNetwork p → (stage : ℕ) (x : List ℤ) (t : ℕ) → CanLandAt p stage x t
    → t ≤ last_second → IsLatest p (latest (stage, x)) t
can_latest p net stage x t (cost, a) low =
    let second : (latest_landing a.landings).1 ≡ t = ap (λ (q : Pair). q.0) a.is in
    let lead : latest (stage, x) ≡ (latest_landing a.landings).0 =
    ap latest (sym a.at) ∙ net.newest_is (ranks a.landings) a.legal ∙ last_ranks a.landings in
    subst (λ (r : ℕ). IsLatest p r t) (sym lead)
    (subst (IsLatest p (latest_landing a.landings).0) second
    (is_latest p a.landings a.landed (omega (arith, second, low))))

module _ (p : Problem) (w : ℕ) (before : ℕ × List (List ℤ)) (labels : List ℕ) (stage : ℕ × List (List ℤ))
    (can : CanLabel p w before labels stage) (i from to : ℕ)
    (range : Sources p w before.0 before.1 (node_at stage.1 i) from to) where
  some : from < to
  some = some_range p w before.0 before.1 (node_at stage.1 i) from to range

  pub from_within : from < length before.1
  from_within = let s = some in omega (arith, s, range.within)

  pub range_within : (from < to) × (to ≤ length labels)
  range_within = (some, omega (arith, range.within, can.held.labelled.one_each))

  -- their numbers can be told
  pub leader_bytes : (node : List ℤ) (number : ℕ) → node ≡ node_at before.1 from → number ≡ before.0
      → length p.flights ≤ most_waiting → (pos 0 ≤ℤ (pos number +ℤ offset_at node (w - 1)))
      × ((pos number +ℤ offset_at node (w - 1)) ≤ℤ pos most_waiting)
  leader_bytes node number node_is number_is few =
      let l = leader_range p w before.0 before.1 (node_at stage.1 i) from to range in
      let e = l.0 in
      let h = l.1 in
      in_bytes node (node_at before.1 from) number before.0 (w - 1) (length p.flights) node_is number_is few
      (omega (arith, ints, e)) (omega (arith, ints, e, h))

  ranks_range : (pos 1 ≤ℤ (pos (suc before.0) +ℤ offset_at (node_at stage.1 i) (w - 1)))
      × ((pos (suc before.0) +ℤ offset_at (node_at stage.1 i) (w - 1)) ≤ℤ pos (length p.flights))
  ranks_range = rank_range p w before.0 before.1 (node_at stage.1 i) from to range

  stage_is : (number : ℕ) → number ≡ stage.0 → number ≡ suc before.0
  stage_is number is = omega (arith, is, can.number)

  pub rank_bytes : (node : List ℤ) (number : ℕ) → node ≡ node_at stage.1 i → number ≡ stage.0
      → length p.flights ≤ most_waiting → (pos 0 ≤ℤ (pos number +ℤ offset_at node (w - 1)))
      × ((pos number +ℤ offset_at node (w - 1)) ≤ℤ pos most_waiting)
  rank_bytes node number node_is number_is few =
      let low = ranks_range.0 in
      in_bytes node (node_at stage.1 i) number (suc before.0) (w - 1) (length p.flights) node_is
      (stage_is number number_is) few (omega (arith, ints, low)) ranks_range.1

  -- the rank that landed just before
  module _ (node : List ℤ) (number leader : ℕ) (node_is : node ≡ node_at before.1 from) (number_is : number ≡ before.0)
      (told : pos leader ≡ pos number +ℤ offset_at node (w - 1)) where
    pub leader_is : pos leader ≡ pos before.0 +ℤ offset_at (node_at before.1 from) (w - 1)
    leader_is = same_rank node (node_at before.1 from) number before.0 leader (w - 1) node_is number_is told

    pub may_lead : (here : ℕ) → here ≡ stage.0 → MayLead p here leader
    may_lead here here_is =
        let l = leader_range p w before.0 before.1 (node_at stage.1 i) from to range in
        let e = l.0 in
        let h = l.1 in
        let is = leader_is in
        let valid : IsWindow w (node_at before.1 from) =
        landable_valid p w can.odd can.laws before.0 (node_at before.1 from)
        (landable_at p w before.0 before.1 (node_at stage.1 i) from to range from from_within) in
        let last : w - 1 < w = omega (arith, can.odd) in
        let low = valid.low (w - 1) last in
        let high = valid.high (w - 1) last in
        let half : w / 2 ≡ p.k = omega (arith, can.odd) in
        record {
          to_count = omega (arith, ints, is, e, h);
          late = omega (arith, ints, is, low, half, here_is, can.number);
          early = omega (arith, ints, is, high, half, here_is, can.number);
        }

    pub leader_latest : (best : ℕ) → IsLeastOf labels from to best → IsEntry best → IsLatest p leader best
    leader_latest best least entry =
        let j = least.place in
        let at = leader_at p w before.0 before.1 (node_at stage.1 i) from to range leader leader_is j least.from_here
        least.to_there in
        let known = known_at p w before.0 before.1 (node_at stage.1 i) from to range labels can.held.labelled j
        least.from_here least.to_there in
        let lands : CanLandAt p before.0 (node_at before.1 j) best =
        subst (CanLandAt p before.0 (node_at before.1 j)) least.is
        ((can.held.labelled.label j (omega (arith, least.to_there, range.within))).attained known) in
        let small : best ≤ last_second = entry_small best entry (let e = least.is in omega (arith, e, known)) in
        subst (λ (r : ℕ). IsLatest p r best) at
        (can_latest p can.laws.network before.0 (node_at before.1 j) best lands small)

  -- the rank that lands last
  module _ (node : List ℤ) (number rank : ℕ) (node_is : node ≡ node_at stage.1 i) (number_is : number ≡ stage.0)
      (told : pos rank ≡ pos number +ℤ offset_at node (w - 1)) where
    pub rank_is : pos rank ≡ pos (suc before.0) +ℤ offset_at (node_at stage.1 i) (w - 1)
    rank_is = same_rank node (node_at stage.1 i) number (suc before.0) rank (w - 1) node_is
        (stage_is number number_is) told

    pub rank_in_reach : (here : ℕ) → here ≡ stage.0 → IsInReach p here rank
    rank_in_reach here here_is =
        let is = rank_is in
        let low = ranks_range.0 in
        let high = ranks_range.1 in
        let near = in_reach p w before.0 before.1 (node_at stage.1 i) from to range rank rank_is in
        record {
          from_one = omega (arith, ints, is, low);
          to_count = omega (arith, ints, is, high);
          late = omega (arith, here_is, can.number, near.0);
          early = omega (arith, here_is, can.number, near.1);
        }

    -- the landing behind the least label gives the window's
    pub landing_gives : (leader : ℕ) → pos leader ≡ pos before.0 +ℤ offset_at (node_at before.1 from) (w - 1)
        → (best : ℕ) → IsLeastOf labels from to best → (label : ℕ) → IsLabelOf (landing_after p leader best rank) label
        → IsLabelAt p stage i label
    landing_gives leader leads best least label is = record {
      label = label_here p before.0 stage.0 (node_at stage.1 i) label can.number
          (label_behind p w before.0 before.1 (node_at stage.1 i) from to range labels can.held.labelled leader rank
          leads rank_is best least label is);
      entry = entry_of _ label is;
    }
