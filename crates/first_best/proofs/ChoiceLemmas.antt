-- Orders of least choices, by the pairs of the nodes.
use Rattle.std.proofs.Common.{◌≡◌, ℕ, zero, suc, ◌+◌, ◌-◌, ◌*◌, ◌<◌, ◌≤◌, ◌⊎◌, inl, inr, List, [], ◌∷◌, length, set}
use Rattle.std.proofs.Common.{get_or, cond, Bool, Option, Some, None, refl, sym, ap, ap₂, subst, ◌∙◌, le_trans, arith}
use Rattle.std.specs.Prelude.{◌↔◌, slice_set, replicate, IfSome}
use Rattle.std.proofs.lemmas.Bool.{cases_eq, cases_lt, eq-eqb, lt-ltb, le-ltb, ne_eqb}
use Rattle.std.proofs.lemmas.List.{ext_get_or, get_or-set_same, get_or-set_other, get_or-replicate}
use Rattle.std.proofs.Math.ListN.{length-set}
use Rattle.std.proofs.lemmas.Nat.Bits.{bit_at-zero}
use Rattle.std.specs.Int.{bit_at}
use Rattle.precedence.specs.Pairs.{HasBit}
use Rattle.std.proofs.lemmas.Option.{same_Some}
use Rattle.cps_base.specs.Limits.{dearest_landing, most_waiting}
use Rattle.landing_rules.specs.Rules.{last_second}
use Rattle.landing_rules.specs.Problem.{Problem}
use Rattle.landing_rules.specs.FirstBest.{IsFirstBestList}
use Rattle.landing_rules.specs.Flights.{Schedule}
use Rattle.cps_theory.specs.RankLists.{IsRank, of_rank}
use Rattle.cps_theory.specs.Separation.{Landing}
use Rattle.cps_theory.specs.Feasible.{next_from, second_in}
use Rattle.cps_theory.specs.ProblemNetwork.{LandedIn}
use Rattle.cps_theory.specs.Labels.{Pair}
use Rattle.cps_theory.specs.LandingTrail.{cost_of, latest_landing, ranks}
use Rattle.landing_joint.specs.RankedProblem.{no_waiting, ranked, cost_at, landing_after}
use Rattle.landing_joint.specs.CompletingPairs.{AreCompletingPairs, AreLeastChoices, CanChoose, IsCompletingPair}
use Rattle.landing_joint.specs.CompletingPairs.{IsLeastObjective, IsLegal, budget_of, seconds_by_rank}
use Rattle.landing_joint.specs.shared.FirstOpen.{is_first_open}
use Rattle.landing_joint.specs.shared.FirstBestLists.{list_of_at, list_of_long}
use Rattle.landing_joint.specs.shared.LeastChoices.{choice_found, choices_first_best}
use Rattle.cps_problem.specs.WellFormed.{IsWellFormed}
use Rattle.cps_network.specs.Pairs.{list_at}
use Rattle.replan.specs.Held.{HeldProblem}
use Rattle.first_best.specs.declared.node.EarlyNode.{EarlyNode}
use Rattle.first_best.specs.Nodes.{node_at, IsPrefixOf, IsReached, LeadsTo}
use Rattle.first_best.specs.Completing.{IsCostFrom, IsLeastOf, StageAhead}
use Rattle.first_best.specs.Choices.{lesser_choice, FindsAffordable, FindsWay, IsAffordable, IsChoice, IsLeastChoice}
use Rattle.first_best.specs.Stages.{stage_of, AreCompleted, IsAheadWithin}
use Rattle.first_best.specs.Uses.{IsOfUse}
use Rattle.first_best.proofs.CompletingLemmas.{sound_of}
use Rattle.first_best.proofs.NodeLemmas.{leads_on, on_leads}
use Rattle.first_best.proofs.UseLemmas.{all_kept}

-- ---- the least of the choices by the first nodes

module _ (p : Problem) (budget : ℕ) (before : EarlyNode) (cost : ℕ) (nodes : List EarlyNode)
    (lists : List (List Pair)) where
  -- the least choice of the first nodes, or what comes after every rank
  pub record LeastUpto (j : ℕ) (least : Pair) : Type 0 where
    pub known : (least ≡ (most_waiting + 1, 0)) ⊎ IsChoice p budget before cost nodes lists least.0 least.1
    pub low : (i t : ℕ) → i < j → LeadsTo before (node_at nodes i)
        → IsAffordable p budget before cost (node_at nodes i) (list_at lists i) t → least.0 ≤ (node_at nodes i).last

  pub none_upto : LeastUpto 0 (most_waiting + 1, 0)
  none_upto = record { known = inl refl; low = λ i t lt. absurd (omega arith) }

  pub one_upto : (j : ℕ) (least : Pair) (found : Option ℕ) → j < length nodes → LeastUpto j least
      → FindsWay p budget before cost (node_at nodes j) (list_at lists j) found
      → LeastUpto (j + 1) (lesser_choice least (node_at nodes j).last found)
  one_upto j least None lt u f = record {
    known = u.known;
    low = λ i t l leads a. elim (cases_eq i j) [
      | inl e ↦ absurd (f t (subst (λ (n : ℕ). LeadsTo before (node_at nodes n)) e leads)
          (subst (λ (n : ℕ). IsAffordable p budget before cost (node_at nodes n) (list_at lists n) t) e a))
      | inr ne ↦ u.low i t (omega (arith, l, ne)) leads a
    ];
  }
  one_upto j least (Some s) lt u f = elim (cases_lt (node_at nodes j).last least.0) [
    | inl less ↦ subst (LeastUpto (j + 1))
        (sym (ap (λ (b : Bool). cond b ((node_at nodes j).last, s) least) (lt-ltb (node_at nodes j).last least.0 less)))
        (record {
          known = inr (record { place = j; within = lt; last = refl; leads = f.0; affordable = f.1 });
          low = λ i t l leads a. elim (cases_eq i j) [
            | inl e ↦ (let same : (node_at nodes i).last ≡ (node_at nodes j).last =
                ap (λ (n : ℕ). (node_at nodes n).last) e in omega (arith, same))
            | inr ne ↦ (let b = u.low i t (omega (arith, l, ne)) leads a in omega (arith, b, less))
          ];
        })
    | inr more ↦ subst (LeastUpto (j + 1))
        (sym (ap (λ (b : Bool). cond b ((node_at nodes j).last, s) least) (le-ltb (node_at nodes j).last least.0 more)))
        (record {
          known = u.known;
          low = λ i t l leads a. elim (cases_eq i j) [
            | inl e ↦ (let same : (node_at nodes i).last ≡ (node_at nodes j).last =
                ap (λ (n : ℕ). (node_at nodes n).last) e in omega (arith, same, more))
            | inr ne ↦ u.low i t (omega (arith, l, ne)) leads a
          ];
        })
  ]

  pub least_upto : (j : ℕ) (least : Pair) → j ≡ length nodes
      → ((i : ℕ) → i < length nodes → (node_at nodes i).last ≤ most_waiting) → LeastUpto j least
      → IsLeastChoice p budget before cost nodes lists least
  least_upto j least e few u r t c =
      let low = u.low c.place t (let w = c.within in omega arith) c.leads c.affordable in
      let last = c.last in
      let most = few c.place c.within in (
        elim u.known [
          | inl none ↦ absurd (let z : least.0 ≡ most_waiting + 1 = ap (λ q. q.0) none in omega arith)
          | inr known ↦ known
        ],
        omega arith,
      )

-- ---- the order so far

-- the order so far
pub record IsOrder (p : Problem) (v : ℕ) (done : ℕ) (before : EarlyNode) (cost : ℕ) (schedule : Schedule) : Type 0 where
  pub landings : List Landing
  pub choices : AreLeastChoices p v (IsCompletingPair p v) landings
  pub long : length landings ≡ done
  pub of_node : IsPrefixOf (ranks landings) before
  pub latest : latest_landing landings ≡ (before.last, before.earliest)
  pub cost_is : cost_of (cost_at p) landings ≡ cost
  pub seconds : (r : ℕ) → IsRank (length p.flights) r → of_rank 0 schedule r ≡ second_in landings r
  pub room : length schedule ≡ length p.flights
  pub last : before.last ≤ length p.flights
  pub early : before.earliest ≤ last_second
  pub small : cost ≤ dearest_landing * done

module _ (p : Problem) (wf : IsWellFormed p) (v : ℕ) (held : Option HeldProblem) (stages : List StageAhead)
    (a : IsAheadWithin p v held stages) where
  all_complete : AreCompletingPairs p v (IsCompletingPair p v)
  all_complete x xs legal landed = all_kept (IsCompletingPair p v (ranks (x ∷ xs)))

  length_ranks : (xs : List Landing) → length (ranks xs) ≡ length xs
  length_ranks [] = refl
  length_ranks (x ∷ xs) = ap suc (length_ranks xs)

  pub choices_legal : (xs : List Landing) → AreLeastChoices p v (IsCompletingPair p v) xs → IsLegal p (ranks xs)
  choices_legal [] c = tt
  choices_legal (x ∷ xs) c = c.0.legal

  choice_landed : (xs : List Landing) (r t : ℕ) → LandedIn (ranked p) xs → CanChoose p v (IsCompletingPair p v) xs r t
      → LandedIn (ranked p) ((r, t) ∷ xs)
  choice_landed xs r t landed c = (let f = (is_first_open p).found r (next_from (ranked p) _ _ r) t c.lands in
      (f.0, f.1, landed))

  pub choices_landed : (xs : List Landing) → AreLeastChoices p v (IsCompletingPair p v) xs → LandedIn (ranked p) xs
  choices_landed [] c = tt
  choices_landed (x ∷ xs) c = choice_landed xs x.0 x.1 (choices_landed xs c.2) c.0

  -- ---- a choice by the nodes of the next stage is one by completing pairs, of which those of use suffice

  module _ (xs : List Landing) (legal : IsLegal p (ranks xs)) (landed : LandedIn (ranked p) xs)
      (done : ℕ) (long : length xs ≡ done) (short : done < length p.flights) (before : EarlyNode)
      (of : IsPrefixOf (ranks xs) before) (latest : latest_landing xs ≡ (before.last, before.earliest))
      (cost : ℕ) (cost_is : cost_of (cost_at p) xs ≡ cost) where
    one_more : (r : ℕ) → length (r ∷ ranks xs) ≡ done + 1
    one_more r = (let e = length_ranks xs in omega arith)

    completed : AreCompleted p v (Some (budget_of p v)) (done + 1) (stage_of stages (done + 1)).nodes
        (stage_of stages (done + 1)).lists
    completed = a.completed (done + 1) (omega arith) (omega arith)

    abbrev IsNext : ℕ → ℕ → Type 0
    IsNext r t = IsChoice p (budget_of p v) before cost (stage_of stages (done + 1)).nodes
        (stage_of stages (done + 1)).lists r t

    pub to_choose : (r t : ℕ) → IsNext r t → CanChoose p v (IsCompletingPair p v) xs r t
    to_choose r t c =
        let nodes = (stage_of stages (done + 1)).nodes in
        let after = node_at nodes c.place in
        let f = c.affordable in
        let on = leads_on p _ legal before after of c.leads
        (subst (λ s. IsReached p s after) (let e = length_ranks xs in let g : done + 1 ≡ suc
        (length (ranks xs)) = omega arith in g) (completed.are_nodes.reached c.place c.within)) in
        subst (λ n. CanChoose p v (IsCompletingPair p v) xs n t) c.last (record {
          legal = on.0;
          lands = ap (λ l. landing_after p l.0 l.1 after.last) latest ∙ f.lands;
          pair = f.pair;
          kept = (completed.kept c.place (after.last ∷ ranks xs) c.within on.0 (one_more after.last) on.1).completes
              f.pair f.listed;
          in_time = f.in_time;
          cheap = (let h = f.cheap in omega arith);
        })

    pub from_choose : (r t : ℕ) → CanChoose p v (IsCompletingPair p v) xs r t → IsNext r t
    from_choose r t c =
        let more = (r, t) ∷ xs in
        let land = choice_landed xs r t landed c in
        let e = completed.are_nodes.every more (record { legal = c.legal; landed = land; long = one_more r }) in
        let of_use : IsOfUse p (budget_of p v) (r ∷ ranks xs) c.pair = record {
          landings = more;
          legal = c.legal;
          landed = land;
          one_node = record { stage = refl; placed = λ x. (λ i. i, λ i. i); latest = refl };
          by = c.in_time;
          cheap = c.cheap;
        } in
        let o = (completed.kept e.0 (r ∷ ranks xs) e.1 c.legal (one_more r) e.2).covers c.pair c.kept of_use in
        let after = node_at _ e.0 in
        let same : r ≡ after.last = e.2.last in
        let price : cost_at p r t ≡ cost_at p after.last t = ap (λ n. cost_at p n t) same in
        record {
          place = e.0;
          within = e.1;
          last = sym same;
          leads = on_leads p _ r before after c.legal of e.2;
          affordable = record {
            lands = ap (λ l. landing_after p l.0 l.1 after.last) (sym latest)
                ∙ ap (λ n. landing_after p (latest_landing xs).0 (latest_landing xs).1 n) (sym same) ∙ c.lands;
            pair = o.0;
            listed = o.1;
            in_time = le_trans c.in_time o.2.0;
            cheap = (let h = c.cheap in let d = o.2.1 in omega arith);
          };
        }

  pub no_order : (schedule : Schedule) → schedule ≡ replicate (length p.flights) 0 → length schedule ≡ length p.flights
      → IsOrder p v 0 (record { placed = 0; last = 0; earliest = 0; cheapest = 0 }) 0 schedule
  no_order schedule blank room = record {
    landings = [];
    choices = tt;
    long = refl;
    of_node = record {
      placed = λ x. (λ h. absurd (let z : bit_at 0 x ≡ 0 = bit_at-zero x in omega (arith, h, z)), λ i. absurd i);
      last = refl;
    };
    latest = refl;
    cost_is = refl;
    seconds = zeros;
    room = room;
    last = omega arith;
    early = omega arith;
    small = omega arith;
  }
    where
      zeros : (r : ℕ) → IsRank (length p.flights) r → of_rank 0 schedule r ≡ 0
      zeros zero q = absurd (let b = q.0 in omega arith)
      zeros (suc i) q = ap (λ t. get_or t i 0) blank ∙ get_or-replicate _ i 0 0 (let b = q.1 in omega arith)

  passed_at : (r : ℕ) → IsRank (length p.flights) r → (of_rank no_waiting p.flights r).passed ≤ p.k
  passed_at zero q = absurd (let b = q.0 in omega arith)
  passed_at (suc i) q = wf.passed i no_waiting (let b = q.1 in omega arith)

  module _ (value_is : IsLeastObjective p v) (done : ℕ) (before : EarlyNode) (cost : ℕ) (schedule : Schedule)
      (o : IsOrder p v done before cost schedule) where
    -- the least choice of the nodes of the next stage is one, and none is less
    pub next_choice : done < length p.flights → (least : Pair)
        → IsLeastChoice p (budget_of p v) before cost (stage_of stages (done + 1)).nodes
        (stage_of stages (done + 1)).lists least
        → CanChoose p v (IsCompletingPair p v) o.landings least.0 least.1
        × ((r t : ℕ) → CanChoose p v (IsCompletingPair p v) o.landings r t → least.0 ≤ r)
    next_choice short least is =
        let xs = o.landings in
        let legal = choices_legal xs o.choices in
        let landed = choices_landed xs o.choices in
        let into = from_choose xs legal landed done o.long short before o.of_node o.latest cost o.cost_is in
        let c = choice_found p (sound_of p wf) passed_at v value_is (IsCompletingPair p v) all_complete xs o.choices
        (let l = o.long in omega arith) in (
          to_choose xs legal landed done o.long short before o.of_node o.latest cost o.cost_is least.0 least.1
              (is c.0 c.1 (into c.0 c.1 c.2)).0,
          λ r t d. (is r t (into r t d)).1,
        )

    -- the same as the code finds it
    pub chosen_by : done < length p.flights → (least : Pair) (budget : ℕ) → budget ≡ budget_of p v
        → (stage : StageAhead) → stage ≡ stage_of stages (done + 1)
        → IsLeastChoice p budget before cost stage.nodes stage.lists least
        → CanChoose p v (IsCompletingPair p v) o.landings least.0 least.1
        × ((r t : ℕ) → CanChoose p v (IsCompletingPair p v) o.landings r t → least.0 ≤ r)
    chosen_by short least budget b stage s is = next_choice short least (rw s at (rw b at is))

    pub one_landing : (r t : ℕ) → CanChoose p v (IsCompletingPair p v) o.landings r t
        → ((q u : ℕ) → CanChoose p v (IsCompletingPair p v) o.landings q u → r ≤ q) → t ≤ last_second
        → (after : EarlyNode) → ((x : ℕ) → HasBit after.placed x ↔ (HasBit before.placed x ⊎ (x ≡ r))) → after.last ≡ r
        → after.earliest ≡ t → (price : ℕ) → price ≡ cost_at p r t → price ≤ dearest_landing
        → IsOrder p v (done + 1) after (cost + price) (slice_set schedule (r - 1) t)
    one_landing r t can least days after placed last earliest price is few = record {
      landings = (r, t) ∷ o.landings;
      choices = (can, least, o.choices);
      long = (let l = o.long in omega (arith, l));
      of_node = record {
        placed = λ x. (
          λ h. elim ((placed x).0 h) [ inl b ↦ inr ((o.of_node.placed x).0 b) | inr e ↦ inl e ],
          λ i. (placed x).1 (elim i [ inl e ↦ inr e | inr j ↦ inl ((o.of_node.placed x).1 j) ]),
        );
        last = sym last;
      };
      latest = ap₂ (λ (m n : ℕ). (m, n)) (sym last) (sym earliest);
      cost_is = ap₂ (λ (m n : ℕ). m + n) o.cost_is (sym is);
      seconds = seconds;
      room = length-set schedule (r - 1) t ∙ o.room;
      last = (let b = can.legal.0.fits.to_count in omega (arith, b, last));
      early = omega (arith, days, earliest);
      small = (let b = o.small in omega (arith, b, few));
    }
      where
        seconds : (q : ℕ) → IsRank (length p.flights) q
            → of_rank 0 (slice_set schedule (r - 1) t) q ≡ second_in ((r, t) ∷ o.landings) q
        seconds zero q = absurd (let b = q.0 in omega (arith, b))
        seconds (suc i) q = elim (cases_eq (suc i) r) [
          | inl e ↦
              let at : r - 1 ≡ i = omega (arith, e) in
              let within = q.1 in
              let room = o.room in
              ap (λ (n : ℕ). get_or (set schedule n t) i 0) at
              ∙ get_or-set_same schedule i t 0 (omega (arith, within, room))
              ∙ sym (ap (λ (b : Bool). cond b t (second_in o.landings (suc i))) (eq-eqb (suc i) r e))
          | inr ne ↦ get_or-set_other schedule (r - 1) i t 0
              (λ e. ne (let one = can.legal.0.fits.from_one in omega (arith, e, one))) ∙ o.seconds (suc i) q
              ∙ sym (ap (λ (b : Bool). cond b t (second_in o.landings (suc i))) (ne_eqb (suc i) r ne))
        ]

    -- with all landings it is the first best list
    pub whole_order : done ≡ length p.flights → IsFirstBestList p schedule
    whole_order e = rw same (choices_first_best p (sound_of p wf) passed_at v value_is
        (IsCompletingPair p v) all_complete o.landings o.choices (o.long ∙ e))
      where
        at : (i : ℕ) → i < length schedule → get_or schedule i 0 ≡ get_or (seconds_by_rank p o.landings) i 0
        at i lt =
            let q : IsRank (length p.flights) (suc i) = (omega arith, let room = o.room in omega arith) in
            o.seconds (suc i) q ∙ sym (list_of_at _ _ (suc i) q)

        same : schedule ≡ seconds_by_rank p o.landings
        same = ext_get_or 0 schedule (seconds_by_rank p o.landings) (o.room ∙ sym (list_of_long _ _)) at

-- ---- one node

module _ (p : Problem) (budget : ℕ) (before : EarlyNode) (cost : ℕ) (after : EarlyNode) (pairs : List Pair)
    (second : ℕ) (lands : landing_after p before.last before.earliest after.last ≡ Some second) where
  same_second : (t : ℕ) → IsAffordable p budget before cost after pairs t → t ≡ second
  same_second t a = same_Some t second (sym a.lands ∙ lands)

  pub never_in_time : IsLeastOf (IsCostFrom pairs second) None → (t : ℕ)
      → IsAffordable p budget before cost after pairs t → ⊥
  never_in_time none t a = none a.pair.1
      (a.pair, a.listed, (let e = same_second t a in let l = a.in_time in omega (arith, e, l)), refl)

  pub too_dear : (rest : ℕ) → IsLeastOf (IsCostFrom pairs second) (Some rest) → budget < cost
      + cost_at p after.last second + rest → (t : ℕ) → IsAffordable p budget before cost after pairs t → ⊥
  too_dear rest least over t a =
      let e = same_second t a in
      let l = a.in_time in
      let b = least.1 a.pair.1 (a.pair, a.listed, omega arith, refl) in
      let price : cost_at p after.last t ≡ cost_at p after.last second = ap (cost_at p after.last) e in
      let cheap = a.cheap in
      omega arith

pub with_way : (p : Problem) (budget : ℕ) (before : EarlyNode) (cost : ℕ) (after : EarlyNode) (pairs : List Pair)
    → LeadsTo before after → (found : Option ℕ) → FindsAffordable p budget before cost after pairs found
    → FindsWay p budget before cost after pairs found
with_way p budget before cost after pairs leads None f = λ t l a. f t a
with_way p budget before cost after pairs leads (Some t) f = (leads, f)

pub lesser_days : (most : ℕ) (least : Pair) (rank : ℕ) (found : Option ℕ) → least.1 ≤ most
    → IfSome found (λ t. t ≤ most) → (lesser_choice least rank found).1 ≤ most
lesser_days most least rank None l f = l
lesser_days most least rank (Some t) l f = elim (cases_lt rank least.0) [
  | inl less ↦ subst (λ (q : Pair). q.1 ≤ most)
      (sym (ap (λ (b : Bool). cond b (rank, t) least) (lt-ltb rank least.0 less))) f
  | inr more ↦ subst (λ (q : Pair). q.1 ≤ most)
      (sym (ap (λ (b : Bool). cond b (rank, t) least) (le-ltb rank least.0 more))) l
]
