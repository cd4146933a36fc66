-- The entries of a stage keep the pairs of its nodes.
use Rattle.std.proofs.Common.{rules, ◌≡◌, ℕ, ◌≤◌, List, [], length, sym, ap, subst, ◌∙◌, arith}
use Rattle.std.specs.Prelude.{ℤ, pos, ◌↔◌}
use Rattle.std.proofs.lemmas.List.{get_or_default}
use Rattle.landing_rules.specs.Problem.{Problem}
use Rattle.cps_theory.specs.RankLists.{In}
use Rattle.cps_theory.specs.LandingTrail.{last_rank, ranks}
use Rattle.cps_theory.specs.Feasible.{SoundProblem}
use Rattle.cps_theory.specs.Labels.{NoWorse, Pair}
use Rattle.cps_theory.specs.LegalPrefix.{Legal}
use Rattle.cps_theory.specs.Network.{Kept}
use Rattle.cps_theory.specs.Patterns.{PatternNode}
use Rattle.cps_theory.specs.laws.FrozenFront.{each_fits_distinct}
use Rattle.cps_theory.specs.laws.LegalPrefix.{in_from_one, legal_each_fits}
use Rattle.cps_theory.specs.laws.RanksOfList.{few_ranks}
use Rattle.landing_joint.specs.RankedProblem.{ranked}
use Rattle.landing_joint.specs.shared.NodePairs.{one_pattern}
use Rattle.landing_joint.specs.shared.RankedLists.{sound_ranked}
use Rattle.cps_problem.specs.WellFormed.{IsWellFormed}
use Rattle.cps_nodes.specs.Windows.{IsPlaced}
use Rattle.cps_network.specs.Lists.{node_at}
use Rattle.cps_network.specs.Nodes.{WindowNode, node_of, latest, IsWindowNetwork, WindowsTellNodes}
use Rattle.cps_network.specs.Pairs.{HoldsCosts}
use Rattle.cps_network.specs.WindowRanks.{TellTheirRanks}
use Rattle.cert_check.specs.PlacedBits.{PatternOfBitsLaw}
use Rattle.cert_check.specs.Whole.{Attains}
use Rattle.cert_writer.specs.StageEntries.{IsEntry, PlacedTellNodes, EntriesKeepNodes, EndWithFlights}

pub end_with_flights : (p : Problem) → EndWithFlights p
end_with_flights p d q a =
    let g = (ranked p).rules in
    let rs = ranks a.landings in
    let placed = legal_each_fits g rs a.legal in
    let few : length rs ≤ length p.flights =
    few_ranks (length p.flights) rs (each_fits_distinct g rs placed) (λ x i. in_from_one g x rs placed i) in
    let at : length rs ≡ d.0 = ap (λ (w : PatternNode). w.0) a.at in
    omega arith

-- the set of a prefix's window gives the node of the prefix
pub placed_tell : (p : Problem) → PatternOfBitsLaw → IsWindowNetwork p → TellTheirRanks p → PlacedTellNodes p
placed_tell p bits net tells stage placed xs told rs legal at =
    let here = λ (r : ℕ) (one : 1 ≤ r). subst (λ (n : WindowNode). IsPlaced n.1 (pos n.0) (pos r) ↔ In r rs) at
    (tells rs r legal one) in
    let whole = bits (ranked p).rules rs placed
    (λ r one. (λ b. (here r one).0 ((told r).0 b).1, λ i. (told r).1 (one, (here r one).1 i))) in
    let long : length rs ≡ stage = ap (λ (n : WindowNode). n.0) at in
    let last : last_rank rs ≡ latest (stage, xs) = sym (net.newest_is rs legal) ∙ ap latest at in cc

module _ (p : Problem) (sound : SoundProblem (ranked p)) (tell : WindowsTellNodes p) (stage : ℕ × List (List ℤ))
    (lists : List (List Pair)) (h : HoldsCosts p stage lists) (d : PatternNode) (at : d.0 ≡ stage.0) where
  of_entry : (q : Pair) → IsEntry p stage lists d q → Attains p d q
  of_entry q e =
      let a = (((h.costs.pairs e.place e.within).undominated q).0 e.has).attained in search rules

  covered : (q : Pair) → Attains p d q → (o : Pair) × IsEntry p stage lists d o × NoWorse o q
  covered q a =
      let rs = ranks a.landings in
      let xs = (node_of p.k rs).1 in
      let window : node_of p.k rs ≡ (stage.0, xs) = ap (λ (n : ℕ). (n, xs)) (ap (λ (w : PatternNode). w.0) a.at ∙ at) in
      let place = (h.landable xs).1
      (q, record { landings = a.landings; legal = a.legal; landed = a.landed; at = window; is = a.is }) in
      let i = place.0 in
      let there : node_of p.k rs ≡ (stage.0, node_at stage.1 i) = window ∙ ap (λ (ys : List ℤ). (stage.0, ys))
      (sym (get_or_default stage.1 i [] xs place.1 ∙ place.2)) in
      let c = (h.costs.pairs i place.1).covers q
      (record { landings = a.landings; legal = a.legal; landed = a.landed; at = there; is = a.is }) in
      let node = λ (os : List ℕ) (legal : Legal (ranked p).rules os)
      (e : node_of p.k os ≡ (stage.0, node_at stage.1 i)).
      one_pattern p sound os rs (tell os rs legal a.legal (e ∙ sym there)) ∙ a.at in search rules

  entries_of : Kept (Attains p d) (IsEntry p stage lists d)
  entries_of = search (rules, of_entry, covered)

pub entries_keep : (p : Problem) → IsWellFormed p → WindowsTellNodes p → EntriesKeepNodes p
entries_keep p wf tell stage lists h d at = search (rules, entries_of, sound_ranked)
