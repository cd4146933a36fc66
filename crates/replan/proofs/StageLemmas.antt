-- Stage 0 with its pair, one stage more, and what is kept of the stages of a problem for another.
use Rattle.std.proofs.lemmas.Grind.{common_steps}
use Rattle.std.proofs.Common.{rules}
use Rattle.replan.specs.shared.LastPairs.{list_some}
use Rattle.replan.specs.shared.Pushed.{each_pushed}
use Rattle.std.proofs.Common.{◌≡◌, ℕ, zero, suc, ◌+◌, ◌*◌, ◌<◌, ◌≤◌, List, [], ◌∷◌, ◌++◌, length, get_or, replicate}
use Rattle.std.proofs.Common.{length-append, refl, sym, ap, subst, ◌∙◌, arith, inl, inr, zero-le, Option, Some}
use Rattle.std.proofs.Common.{◌-◌, take}
use Rattle.std.specs.Prelude.{ℤ, pos, Bool, Contains, IsTrue}
use Rattle.std.proofs.lemmas.Bool.{cases_lt, le-leb, lt-leb}
use Rattle.std.proofs.lemmas.List.{get_or_append_left, get_or_default, get_or-take, length-take-le}
use Rattle.std.proofs.lemmas.List.Elements.{Contains-get_or}
use Rattle.cps_base.specs.Tally.{raised_by, FitsCount}
use Rattle.cps_theory.specs.Separation.{Landing}
use Rattle.cps_theory.specs.LandingTrail.{ranks}
use Rattle.cps_theory.specs.Labels.{InPairs, Pair}
use Rattle.cps_theory.specs.Network.{Undominated}
use Rattle.landing_rules.specs.declared.objective.Objective.{Objective}
use Rattle.landing_rules.specs.Problem.{Problem, AreBetweenRanks}
use Rattle.cps_network.specs.Due.{HasCandidates, HasCandidatesFrom, HasCandidatesIf, IsDueFrom}
use Rattle.cps_network.specs.Landable.{Attains, IsLandable, HoldsLandable, HoldsCandidates}
use Rattle.cps_network.specs.Lists.{IsAscending, node_at, AreWindows}
use Rattle.cps_network.specs.Nodes.{WindowNode, node_of}
use Rattle.cps_network.specs.Pairs.{ArePairsOf, HoldsCosts, list_at}
use Rattle.cps_network.specs.Permits.{IsNextOf}
use Rattle.cps_network.specs.shared.DueSteps.{more_from, none_from, due_with_held}
use Rattle.cps_network.specs.shared.LegalWindows.{source_is, landable_valid}
use Rattle.replan.specs.Held.{HeldProblem, AreInCommon}
use Rattle.replan.specs.Labels.{StagePairs, HoldsPairs}
use Rattle.replan.specs.Readers.{IsReadable, lists_in, stage_in}
use Rattle.replan.specs.Stages.{LabelledStage, no_stage, stage_at, AreStages}
use Rattle.cps_network.specs.KeptStages.{EarlyStagesAreKept}
use Rattle.cps_network.specs.WindowLaws.{WindowLaws}
use Rattle.cps_network.specs.shared.KeptCandidates.{kept_next}
use Rattle.cps_network.specs.shared.KeptCosts.{kept_costs}

-- ---- stage 0

pub no_landing : (xs : List Landing) → length (ranks xs) ≡ 0 → xs ≡ []
no_landing [] e = refl
no_landing (x ∷ xs) e = absurd (omega arith)

pub start_only : (p : Problem) (v : List ℤ) → IsLandable p 0 v → node_of p.k [] ≡ (0, v)
start_only p v l = rw (no_landing l.1.landings (ap (λ n. n.0) l.1.at)) at l.1.at

start_attains : (p : Problem) → Attains p 0 (replicate (2 * p.k + 1) (pos 0)) (0, 0)
start_attains p = search (rules, source_is)

-- nothing but (0, 0) is attained there
pub start_pair : (p : Problem) (v : List ℤ) (q : Pair) → Attains p 0 v q → (0, 0) ≡ q
start_pair p v q a = rw (no_landing a.landings (ap (λ n. n.0) a.at)) at a.is

pub start_costs : (p : Problem) → HoldsCosts p (0, replicate (2 * p.k + 1) (pos 0) ∷ []) (((0, 0) ∷ []) ∷ [])
start_costs p = record {
  landable = λ v. (
    in_start v,
    λ l.
        (0, omega arith, sym (source_is p) ∙ ap (λ (n : WindowNode). n.1) (start_only p v l)),
  );
  costs = record { one_each = refl; pairs = pairs };
}
  where
    in_start : (v : List ℤ) → Contains (replicate (2 * p.k + 1) (pos 0) ∷ []) v → IsLandable p 0 v
    in_start v (zero, lt, at) = subst (IsLandable p 0) at ((0, 0), start_attains p)
    in_start v (suc i, lt, at) = absurd (omega arith)

    only : (q : Pair) → InPairs q ((0, 0) ∷ []) → Undominated (Attains p 0 (replicate (2 * p.k + 1) (pos 0))) q
    only q (inl e) = record {
      attained = subst (Attains p 0 (replicate (2 * p.k + 1) (pos 0))) (sym e) (start_attains p);
      best = λ o a le. sym (start_pair p (replicate (2 * p.k + 1) (pos 0)) o a) ∙ sym e;
    }
    only q (inr i) = absurd i

    pairs : (i : ℕ) → i < 1 → ArePairsOf p 0 (node_at (replicate (2 * p.k + 1) (pos 0) ∷ []) i)
        (list_at (((0, 0) ∷ []) ∷ []) i)
    pairs zero lt = record {
      undominated = λ q. (only q, λ u. inl (sym (start_pair p (replicate (2 * p.k + 1) (pos 0)) q u.attained)));
      covers = λ q a. ((0, 0), inl refl, (zero-le, zero-le));
      falling = (λ q i. absurd i, tt);
    }
    pairs (suc i) lt = absurd (omega arith)

pub begins : (p : Problem) (w : ℕ) (stage : ℕ × List (List ℤ)) (labels : StagePairs) (o : Objective)
    → w ≡ 2 * p.k + 1 → stage ≡ (0, replicate w (pos 0) ∷ [])
    → labels ≡ record { objective = o; lists = ((0, 0) ∷ []) ∷ [] } → p.objective ≡ o → HoldsPairs p stage labels
begins p w stage labels o odd e f g = rw (f, e, odd) (record { objective = sym g; held = start_costs p })

-- ---- one stage more

-- where it is said to be whole, its windows are all that extend the last of the others
pub one_more : (p : Problem) (stages after : List LabelledStage) (next : LabelledStage) → AreStages p stages → after
    ≡ stages ++ next ∷ [] → next.stage.0 ≡ length stages → IsAscending next.stage.1
    → HoldsPairs p next.stage next.labels → ((last : ℕ) → last + 1 ≡ length stages → IsTrue next.is_whole
    → IsNextOf p last (stage_at stages last).stage.1 next.stage.1) → AreStages p after
one_more p stages after next is e number ascending held whole = rw e (record {
  number = each_pushed (λ i s. s.stage.0 ≡ i) stages next no_stage is.number number;
  ascending = each_pushed (λ i s. IsAscending s.stage.1) stages next no_stage is.ascending ascending;
  held = each_pushed (λ i s. HoldsPairs p s.stage s.labels) stages next no_stage is.held held;
  whole = λ i some lt said. rw (get_or_append_left stages
      (next ∷ []) no_stage (i - 1) (omega (arith, some, lt, length-append stages (next ∷ []))))
      (each_pushed (λ j s. 0 < j → IsTrue s.is_whole → IsNextOf p (j - 1) (stage_at stages (j - 1)).stage.1 s.stage.1)
      stages next no_stage (λ j below some said. is.whole j some below said)
      (λ some said. whole (length stages - 1) (omega (arith, some)) said) i lt some said);
})

pub has_candidates : (p : Problem) (before after : ℕ × List (List ℤ)) (m : ℕ) → before.0 ≡ m
    → HoldsLandable p before → HoldsCandidates p before after → IsAscending after.1 → HasCandidates p m (length after.1)
has_candidates p before after m e h each up =
    rw (← e) (record { candidates = after.1; ascending = up; each = each h; counted = refl })

-- ---- steps

-- no step more leaves a count as it is
pub raised_by_none : (count : Option ℕ) → FitsCount count → count ≡ raised_by 0 count
raised_by_none count fits = grind (arith, common_steps)

pub raised_more : (o : Option ℕ) (a b : ℕ) → raised_by b (raised_by a o) ≡ raised_by (a + b) o
raised_more o a b = grind (arith, common_steps)

-- no stage more
pub due_none : (first : ℕ) (p : Problem) (n : ℕ) (o : Option ℕ) → n < first → FitsCount o
    → (due : ℕ) × HasCandidatesFrom first p n due × (o ≡ raised_by due o)
due_none first p n o below fits = (0, none_from first p n below, raised_by_none o fits)

-- one stage alone
pub due_of_one : (p : Problem) (i count : ℕ) → 0 < i → HasCandidates p (i - 1) count → HasCandidatesFrom i p i count
due_of_one p i count some has = subst (λ n. HasCandidatesFrom i p n count) {x = suc (i - 1)} {y = i}
    (omega arith) (subst (HasCandidatesFrom i p (suc (i - 1))) {x = 0 + count} {y = count}
    (omega arith) (more_from i p (i - 1) 0 count (omega arith) (none_from i p (i - 1) (omega arith)) has))

-- no stage is counted where the last is before the first
none_upto : (first : ℕ) (p : Problem) (n total : ℕ) → n < first → HasCandidatesFrom first p n total → total ≡ 0
none_upto first p zero total below is = is
none_upto first p (suc n) total below (count, before, here, rest, e) =
    let none : count ≡ 0 = rw (lt-leb first (suc n) below) at here in
    let low = none_upto first p n before (omega arith) rest in
    omega arith

-- the stages from a number on and before a second, and those from the second on
module _ (first many : ℕ) (p : Problem) (some : 0 < many) (le : first ≤ many) where
  past : (n a b : ℕ) → n < many → many ≤ n + 1 → HasCandidatesFrom first p (many - 1) a → HasCandidatesFrom many p n b
      → HasCandidatesFrom first p n (a + b)
  past n a b below within early late = search (rules, none_upto)

  joined : (n a b : ℕ) → many ≤ n + 1 → HasCandidatesFrom first p (many - 1) a → HasCandidatesFrom many p n b
      → HasCandidatesFrom first p n (a + b)
  joined zero a b within early late = past zero a b (omega (arith, some)) within early late
  joined (suc n) a b within early (count, before, here, rest, e) = elim (cases_lt (suc n) many) [
    | inl below ↦ past (suc n) a b below within early (count, before, here, rest, e)
    | inr from ↦
        subst (HasCandidatesFrom first p (suc n)) {x = a + before + count} {y = a + b} (omega (arith, e)) (more_from
        first p n (a + before) count (omega (arith, le, from)) (joined n a before (omega (arith, from)) early rest)
        (subst (λ (t : Bool). HasCandidatesIf t p n count) (le-leb many (suc n) from) here))
  ]

  pub due_joined : (n : ℕ) (o r s : Option ℕ) → many ≤ n + 1 → (due : ℕ) × HasCandidatesFrom first p (many - 1) due
      × (r ≡ raised_by due o) → (due : ℕ) × HasCandidatesFrom many p n due × (s ≡ raised_by due r) → (due : ℕ)
      × HasCandidatesFrom first p n due × (s ≡ raised_by due o)
  due_joined n o r s within (a, early, e) (b, late, f) = search (rules, joined, raised_more)

-- ---- what is read of the stages

pub read_stage : (stages : List LabelledStage) (i : ℕ) (x y : LabelledStage) → x ≡ y → y ≡ get_or stages i y
    → i < length stages → x ≡ stage_at stages i
read_stage stages i x y same e lt = same ∙ e ∙ get_or_default stages i y no_stage lt

pub held_at : (p : Problem) (stages : List LabelledStage) → AreStages p stages → (i : ℕ) (x : LabelledStage) → x
    ≡ stage_at stages i → i < length stages → HoldsPairs p x.stage x.labels × (x.stage.0 ≡ i)
held_at p stages is i x e lt = rw e (is.held i lt, is.number i lt)

pub read_held : (held : Option HeldProblem) (h : HeldProblem) (stages : List LabelledStage) (i : ℕ)
    (x y : LabelledStage) → held ≡ Some h → h.stages ≡ stages → x ≡ y → y ≡ get_or stages i y → IsReadable held i
    → (x.stage ≡ stage_in held i) × (x.labels.lists ≡ lists_in held i)
read_held held h stages i x y e f same at (some, most) = search (rules, read_stage)

-- the last stage as it is read: its labels have a pair each
pub record LastRead (p : Problem) (stages : List LabelledStage) (last : LabelledStage) : Type 0 where
  pub is : last.labels ≡ (stage_at stages (length p.flights)).labels
  pub one_each : length last.labels.lists ≡ length (stage_at stages (length p.flights)).stage.1
  pub number : last.stage.0 ≡ length p.flights
  pub held : HoldsPairs p last.stage last.labels
  pub some : (i : ℕ) → i < length last.labels.lists → 0 < length (list_at last.labels.lists i)

pub last_read : (p : Problem) (stages : List LabelledStage) → AreStages p stages → length stages ≡ length p.flights + 1
    → (n : ℕ) (last read : LabelledStage) → n ≡ length p.flights
    → last ≡ read → read ≡ get_or stages n read → LastRead p stages last
last_read p stages holds whole n last read same f e =
    let lt : n < length stages = omega arith in
    let is = read_stage stages n last read f e lt in
    let h = held_at p stages holds n last is lt in
    let at : last ≡ stage_at stages (length p.flights) = is ∙ ap (stage_at stages) same in
    record {
      is = ap (λ s. s.labels) at;
      one_each = h.0.held.costs.one_each ∙ ap (λ s. length s.stage.1) at;
      number = h.1 ∙ same;
      held = h.0;
      some = λ i inside. list_some p last.stage _ h.0.held i (omega arith);
    }

-- ---- the stage after the last

-- the last two stages, where the last one is whole
pub whole_at : (p : Problem) (stages : List LabelledStage) → AreStages p stages
    → (i last : ℕ) (earlier before : LabelledStage) → last < length stages → i ≡ last - 1 → earlier ≡ stage_at stages i
    → before ≡ stage_at stages last → IsTrue before.is_whole → earlier.stage.0 < before.stage.0
    → IsNextOf p earlier.stage.0 earlier.stage.1 before.stage.1
whole_at p stages is i last earlier before n back e f whole lt =
    let here = (held_at p stages is last before f n).1 in
    rw (((held_at p stages is i earlier e (omega arith)).1), e, f, back) (is.whole last (omega arith) n (rw f at whole))

-- ---- stages in common

module _ (p q : Problem) (w : ℕ) (odd : w ≡ 2 * p.k + 1) (laws : WindowLaws p w)
    (bp : AreBetweenRanks (length p.flights) p.pairs) (bq : AreBetweenRanks (length q.flights) q.pairs) where
  module _ (stages : List LabelledStage) (count : ℕ) (holds : AreStages p stages) (early : EarlyStagesAreKept p q)
      (common : AreInCommon p q count) (more : 1 < count) (within : count ≤ length stages) where
    long : length (take count stages) ≡ count
    long = length-take-le count stages within

    valid : (i : ℕ) → i < length stages → AreWindows w (stage_at stages i).stage.1
    valid i lt j inside =
        let at = stage_at stages i in
        landable_valid p w odd laws at.stage.0 _
        (((holds.held i lt).held.landable (node_at at.stage.1 j)).0 (Contains-get_or at.stage.1 j [] inside))

    pub stages_in_common : AreStages q (take count stages)
    stages_in_common =
        let e = common.2 in
        let agree = common.1.agree (omega arith) in
        let same = agree.head.k in
        record {
          number = λ i lt.
              let at : i < count = omega (arith, lt, long) in
              rw (get_or-take count stages i no_stage at) (holds.number i (omega arith));
          ascending = λ i lt.
              let at : i < count = omega (arith, lt, long) in
              rw (get_or-take count stages i no_stage at) (holds.ascending i (omega arith));
          held = λ i lt.
              let at : i < count = omega (arith, lt, long) in
              let here : i < length stages = omega arith in
              let was = holds.held i here in
              let kept = early common.0 common.1.within agree _ (let n = holds.number i here in omega arith) in
              rw (get_or-take count stages i no_stage at)
              (record { objective = was.objective ∙ agree.head.objective; held = kept_costs p q _ _ kept was.held });
          whole = λ i some lt said.
              let at : i < count = omega (arith, lt, long) in
              rw (get_or-take count stages i no_stage at, get_or-take count stages (i - 1) no_stage (omega arith)) (
              kept_next p q common.0 common.1.within agree bp bq w odd (i - 1) _ _ (omega arith) (valid (i - 1)
              (omega arith)) (holds.whole i some (omega arith) (rw (get_or-take count stages i no_stage at) at said)));
        }

-- they are no more than are held
pub few_in_common : (p q : Problem) (count : ℕ) (stages : List LabelledStage) → AreInCommon p q count
    → length stages ≡ length p.flights + 1 → count ≤ length stages
few_in_common p q count stages (d, is, e) whole = let a = is.within.0 in omega arith

-- nor more than the other problem has
pub fits_in_common : (p q : Problem) (count : ℕ) → AreInCommon p q count → count ≤ length q.flights + 1
fits_in_common p q count (d, is, e) = let a = is.within.1 in omega arith

-- what is due are the stages that follow
pub due_after_common : (p q : Problem) (count first : ℕ) → AreInCommon p q count → count ≤ first
    → (1 < first → first ≤ count) → IsDueFrom (Some p) q first
due_after_common p q count first (d, is, e) low high = due_with_held p q d first is (omega arith) (λ more. omega arith)
