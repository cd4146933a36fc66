-- Going back from a pair, source by source, makes a legal order that lands with that pair.
use Rattle.std.proofs.Common.{◌≡◌, ℕ, zero, suc, ◌+◌, ◌-◌, ◌*◌, ◌≤◌, ◌<◌, Some, List, [], ◌∷◌, ◌++◌, length, get_or}
use Rattle.std.proofs.Common.{reverse, drop, set, append_assoc, refl, sym, ap, subst, ◌∙◌, arith}
use Rattle.std.specs.Prelude.{ℤ, pos, ◌+ℤ◌, true}
use Rattle.std.proofs.lemmas.List.Elements.{Contains-get_or}
use Rattle.std.proofs.lemmas.List.{append-nil, reverse-append, drop_all}
use Rattle.cps_theory.specs.Separation.{Landing}
use Rattle.cps_theory.specs.LandingTrail.{last_rank, pair_of, ranks}
use Rattle.cps_theory.specs.Labels.{InPairs, Pair, next_pair}
use Rattle.cps_theory.specs.LegalPrefix.{Legal}
use Rattle.cps_theory.specs.ProblemNetwork.{LandedIn}
use Rattle.cps_theory.specs.Feasible.{next_from}
use Rattle.cps_theory.specs.Network.{Undominated}
use Rattle.cps_theory.specs.laws.LabelDominance.{next_lands}
use Rattle.cps_theory.specs.laws.LeastObjective.{next_later}
use Rattle.landing_joint.specs.RankedProblem.{ranked, first_at, cost_at}
use Rattle.landing_joint.specs.shared.FirstBestLists.{costs_rise}
use Rattle.landing_joint.specs.shared.FirstOpen.{is_first_open}
use Rattle.landing_rules.specs.Problem.{Problem}
use Rattle.cps_network.specs.Landable.{Attains, IsLandable}
use Rattle.cps_network.specs.Lists.{node_at}
use Rattle.cps_network.specs.Nodes.{node_of, permits, land, latest, IsWindowNetwork}
use Rattle.cps_network.specs.WindowLaws.{WindowLaws}
use Rattle.cps_network.specs.shared.LegalWindows.{next_last}
use Rattle.cps_nodes.specs.Windows.{offset_at}
use Rattle.cps_network.specs.Pairs.{HoldsCosts, GivesPair, list_at, pair_at, successor}
use Rattle.cps_network.specs.shared.PairSteps.{at_in}
use Rattle.replan.specs.Stages.{LabelledStage, stage_at, AreStages, LandsWithPair}
use Rattle.replan.specs.Labels.{HoldsPairs, last_pair}
use Rattle.replan.proofs.StageLemmas.{start_only, start_pair, read_stage, held_at}

-- landings of a legal prefix that ends in this window with this pair
pub record EndsWith (p : Problem) (stage : ℕ) (window : List ℤ) (q : Pair) (xs : List Landing) : Type 0 where
  pub legal : Legal (ranked p).rules (ranks xs)
  pub landed : LandedIn (ranked p) xs
  pub at : node_of p.k (ranks xs) ≡ (stage, window)
  pub pair : pair_of (cost_at p) xs ≡ q

-- behind any landings that end in this window with this pair, these ranks, the latest first, complete an order that
-- lands with the pair `end`
abbrev pub CompletesWith : Problem → ℕ → List ℤ → Pair → List ℕ → Pair → Type 0
CompletesWith p stage window q order end = (xs : List Landing) → EndsWith p stage window q xs
    → (ys : List Landing) × (ranks ys ≡ order ++ ranks xs) × Legal (ranked p).rules (ranks ys)
    × LandedIn (ranked p) ys × (pair_of (cost_at p) ys ≡ end)

completes_pair_start : (p : Problem) (stage : ℕ) (window : List ℤ) (q : Pair) → CompletesWith p stage window q [] q
completes_pair_start p stage window q xs is = (xs, refl, is.legal, is.landed, is.pair)

-- one source back
completes_pair_more : (p : Problem) → IsWindowNetwork p
    → (before : ℕ × List (List ℤ)) (lists : List (List Pair)) (v : List ℤ) (q : Pair) (j index : ℕ) (end : Pair)
    (order : List ℕ) → (source : GivesPair p before lists v q j index) → CompletesWith p (suc before.0) v q order end
    → CompletesWith p before.0 (node_at before.1 j) (pair_at (list_at lists j) index) (order ++ source.rank ∷ []) end
completes_pair_more p net before lists v q j index end order source rest xs is =
    let may : permits p (node_of p.k (ranks xs)) source.rank =
    subst (λ n. permits p n source.rank) (sym is.at) source.permitted in
    let leader : latest (before.0, node_at before.1 j) ≡ last_rank (ranks xs) =
    ap latest (sym is.at) ∙ net.newest_is (ranks xs) is.legal in
    let e : next_pair (first_at p) (next_from (ranked p)) (cost_at p) (last_rank (ranks xs))
    (pair_of (cost_at p) xs) source.rank ≡ Some q =
    ap (λ l. successor p l (pair_of (cost_at p) xs) source.rank) (sym leader)
    ∙ ap (λ o. successor p (latest (before.0, node_at before.1 j)) o source.rank) is.pair ∙ source.lands in
    let lands = next_lands (λ s t. (ranked p).is_open s t ≡ true) _ _
    _ (is_first_open p) (next_later (ranked p)) (costs_rise p) xs source.rank q is.landed e in
    let more : EndsWith p (suc before.0) v q ((source.rank, q.0) ∷ xs) = record {
      legal = net.grows source.rank (ranks xs) is.legal may;
      landed = lands.0;
      at = net.pushes source.rank (ranks xs) is.legal ∙ ap (λ n. land n source.rank) is.at
          ∙ ap (λ z. (suc before.0, z)) (sym source.next);
      pair = lands.1;
    } in
    let whole = rest ((source.rank, q.0) ∷ xs) more in
    (whole.0, whole.1 ∙ sym (append_assoc order (source.rank ∷ []) _), whole.2, whole.3, whole.4)

-- at the start the order itself lands
completes_pair_all : (p : Problem) (window : List ℤ) (order : List ℕ) (q end : Pair) → node_of p.k [] ≡ (0, window)
    → (0, 0) ≡ q → CompletesWith p 0 window q (reverse order) end → LandsWithPair p order end
completes_pair_all p window order q end at none is =
    let whole = is [] (record { legal = tt; landed = tt; at = at; pair = none }) in
    (whole.0, whole.1 ∙ append-nil (reverse order), whole.2, whole.3, whole.4)

-- ---- the order as it is written from its end

drop_set : (xs : List ℕ) (i y : ℕ) → i < length xs → drop i (set xs i y) ≡ y ∷ drop (suc i) xs
drop_set [] i y lt = absurd (omega arith)
drop_set (x ∷ xs) zero y lt = refl
drop_set (x ∷ xs) (suc i) y lt = drop_set xs i y (omega arith)

written : (xs : List ℕ) (i y : ℕ) → i < length xs → reverse (drop (suc i) xs) ++ y ∷ [] ≡ reverse (drop i (set xs i y))
written xs i y lt = sym (ap reverse (drop_set xs i y lt) ∙ reverse-append (y ∷ []) (drop (suc i) xs))

-- ---- what is read of a stage

abbrev pub window_in : LabelledStage → ℕ → List ℤ
window_in s place = node_at s.stage.1 place

abbrev pub pair_in : LabelledStage → ℕ → ℕ → Pair
pair_in s place index = pair_at (list_at s.labels.lists place) index

abbrev pub Traced : Problem → List LabelledStage → ℕ → ℕ → ℕ → List ℕ → Pair → Type 0
Traced p stages stage place index order end = CompletesWith p stage (window_in (stage_at stages stage) place)
    (pair_in (stage_at stages stage) place index) (reverse (drop stage order)) end

-- ---- one step of the way back

-- the stage before with its labels, and this stage
pub record StepReads (p : Problem) (stages : List LabelledStage) (stage place index : ℕ)
    (before after : LabelledStage) : Type 0 where
  pub before_is : before ≡ stage_at stages (stage - 1)
  pub after_is : after ≡ stage_at stages stage
  pub held : HoldsPairs p before.stage before.labels
  pub above : HoldsPairs p after.stage after.labels
  pub number : before.stage.0 ≡ stage - 1
  pub next : after.stage.0 ≡ suc before.stage.0
  pub one_back : stage ≡ suc (stage - 1)
  pub within : place < length after.stage.1
  pub listed : index < length (list_at after.labels.lists place)

pub step_reads : (p : Problem) (stages : List LabelledStage) → AreStages p stages → length stages ≡ length p.flights + 1
    → (stage next place index : ℕ) (before read after read' : LabelledStage) → 0 < stage → stage ≤ length p.flights
    → next ≡ stage → before ≡ read → read ≡ get_or stages (stage - 1) read → after ≡ read' → read'
    ≡ get_or stages next read' → place < length (stage_at stages stage).stage.1 → index
    < length (list_at (stage_at stages stage).labels.lists place) → StepReads p stages stage place index before after
step_reads p stages holds whole stage next place index before read after read' some low same eb fb ea fa lt listed =
    let here : next < length stages = omega arith in
    let back : stage - 1 < length stages = omega arith in
    let before_is = read_stage stages (stage - 1) before read eb fb back in
    let after_is : after ≡ stage_at stages stage = read_stage stages next after read' ea fa here
    ∙ ap (stage_at stages) same in
    let held = held_at p stages holds (stage - 1) before before_is back in
    let above = held_at p stages holds stage after after_is (omega arith) in
    let number = held.1 in
    let number' = above.1 in
    let one_back : stage ≡ suc (stage - 1) = omega arith in
    record {
      before_is = before_is;
      after_is = after_is;
      held = held.0;
      above = above.0;
      number = number;
      next = omega arith;
      one_back = one_back;
      within = rw after_is lt;
      listed = rw after_is listed;
    }

pub back_pair : (p : Problem) → IsWindowNetwork p
    → (stages : List LabelledStage) (stage place index j k r : ℕ) (end : Pair) (order : List ℕ)
    (before after : LabelledStage) (v : List ℤ) (q : Pair) → StepReads p stages stage place index before after
    → v ≡ window_in after place → q ≡ pair_in after place index
    → (source : GivesPair p before.stage before.labels.lists v q j k) → source.rank ≡ r → stage - 1 < length order
    → Traced p stages stage place index order end → Traced p stages (stage - 1) j k (set order (stage - 1) r) end
back_pair p net stages stage place index j k r end order before after v q reads ev eq source rank_is lt rest =
    let s = stage - 1 in
    let es : stage ≡ suc before.stage.0 = reads.one_back ∙ ap suc (sym reads.number) in
    let a : CompletesWith p (suc before.stage.0) v q (reverse (drop (suc s) order)) end =
    rw (ev, eq, reads.after_is, ← es, ← reads.one_back) rest in
    let b = completes_pair_more p net before.stage _ v q j k end _ source a in
    rw (← written order s r lt, ← rank_is, ← reads.before_is) (rw reads.number at b)

-- a listed pair is undominated
pub listed_undominated : (p : Problem) (before after : ℕ × List (List ℤ)) (more : List (List Pair)) (v : List ℤ)
    (q : Pair) (place index : ℕ) → HoldsCosts p after more → after.0 ≡ suc before.0 → place < length after.1 → v
    ≡ node_at after.1 place → index < length (list_at more place) → q ≡ pair_at (list_at more place) index
    → Undominated (Attains p (before.0 + 1) v) q
listed_undominated p before after more v q place index above number lt at listed is =
    let has : InPairs q (list_at more place) = at_in _ index q listed (sym is) in
    let u : Undominated (Attains p after.0 (node_at after.1 place)) q =
    ((above.costs.pairs place lt).undominated q).0 has in
    let n : after.0 ≡ before.0 + 1 = omega arith in
    rw (← n, at) u

pub last_given : (p : Problem) (w : ℕ) → w ≡ 2 * p.k + 1 → WindowLaws p w
    → (before : ℕ × List (List ℤ)) (lists : List (List Pair)) (v : List ℤ) (q : Pair) (j k : ℕ)
    → HoldsCosts p before lists → (source : GivesPair p before lists v q j k)
    → (pos (suc before.0) +ℤ offset_at v (w - 1) ≡ pos source.rank) × (source.rank ≤ length p.flights)
last_given p w odd laws before lists v q j k held source =
    let l : IsLandable p before.0 (node_at before.1 j) =
    (held.landable (node_at before.1 j)).0 (Contains-get_or before.1 j [] source.within) in (
      ap (λ z. pos (suc before.0) +ℤ offset_at z (w - 1)) source.next
          ∙ next_last p w odd laws before.0 _ source.rank l source.permitted,
      source.permitted.to_count,
    )

pub trace_end : (p : Problem) (stages : List LabelledStage) → AreStages p stages
    → (stage place index : ℕ) (end : Pair) (order : List ℕ) → stage ≡ 0 → 0 < length stages → place
    < length (stage_at stages stage).stage.1 → index < length (list_at (stage_at stages stage).labels.lists place)
    → Traced p stages stage place index order end → LandsWithPair p order end
trace_end p stages is stage place index end order none some lt listed rest =
    let start = stage_at stages 0 in
    let lt' : place < length start.stage.1 = rw none at lt in
    let listed' : index < length (list_at start.labels.lists place) = rw none at listed in
    let rest' : Traced p stages 0 place index order end = rw none at rest in
    let h = (is.held 0 some).held in
    let number : start.stage.0 ≡ 0 = is.number 0 some in
    let l : IsLandable p 0 (window_in start place) =
    rw number at ((h.landable (window_in start place)).0 (Contains-get_or start.stage.1 place [] lt')) in
    let at = start_only p _ l in
    let u = ((h.costs.pairs place lt').undominated (pair_in start place index)).0
    (at_in _ index (pair_in start place index) listed' refl) in
    let a : Attains p 0 (window_in start place) (pair_in start place index) = rw number at u.attained in
    completes_pair_all p _ order (pair_in start place index) end at (start_pair p _ (pair_in start place index) a) rest'

-- before the first step back
pub trace_begins : (p : Problem) (stages : List LabelledStage) (n stage place index : ℕ) (order : List ℕ)
    → stage ≡ n → n ≤ length p.flights → length order ≡ n
    → place < length (stage_at stages n).stage.1 → index < length (list_at (stage_at stages n).labels.lists place)
    → index ≡ length (list_at (stage_at stages n).labels.lists place) - 1
    → (stage ≤ length p.flights) × (length order ≡ n) × (place < length (stage_at stages stage).stage.1)
    × (index < length (list_at (stage_at stages stage).labels.lists place))
    × Traced p stages stage place index order (last_pair (list_at (stage_at stages n).labels.lists place))
trace_begins p stages n stage place index order same few room within listed last =
    rw same (few, room, within, listed, rw (drop_all n order (omega arith), last) (completes_pair_start p n _ _))
