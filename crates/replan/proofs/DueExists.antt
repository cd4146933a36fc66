-- What is due of a problem exists: the candidates of each stage can be listed in order.
use Rattle.std.proofs.Common.{◌≡◌, ℕ, zero, suc, ◌+◌, ◌≤◌, ◌⊎◌, inl, inr, Bool, true, false, List, [], ◌∷◌, ◌++◌}
use Rattle.std.proofs.Common.{length, map, Some, None, refl, sym, ap, subst, ◌∙◌, arith}
use Rattle.std.specs.Prelude.{ℤ}
use Rattle.std.proofs.lemmas.Bool.{cases_eq}
use Rattle.std.specs.declared.cmp.Ordering.{Ordering}
use Rattle.std.specs.declared.cmp.Ordering.TheVariants.{Less, Equal, Greater}
use Rattle.std.specs.Ordering.{ordering_reverse, is_eq, int_eq}
use Rattle.std.specs.Cmp.Lexicographic.{pointwise}
use Rattle.std.proofs.lemmas.Slice.Eq.{slice_eq-Decides}
use Rattle.std.proofs.lemmas.Bool.Decides.{Decides-int_eq}
use Rattle.landing_rules.specs.Problem.{Problem}
use Rattle.landing_rules.specs.shared.Counting.{Member}
use Rattle.landing_rules.specs.shared.Members.{append_in, cases_option, contains_member, map_in, member_at}
use Rattle.landing_rules.specs.shared.Members.{member_contains}
use Rattle.landing_rules.specs.shared.OneList.{AscendBy}
use Rattle.cps_theory.specs.Agreement.{counts}
use Rattle.cps_theory.specs.Separation.{Landing}
use Rattle.cps_theory.specs.LandingTrail.{pair_of, ranks}
use Rattle.cps_theory.specs.LegalPrefix.{Legal}
use Rattle.cps_theory.specs.Feasible.{earliest, next_from}
use Rattle.cps_theory.specs.laws.DecideLegal.{decide_legal, with_decided}
use Rattle.cps_theory.specs.laws.EarliestLandings.{earliest_lands, earliest_least}
use Rattle.cps_theory.specs.laws.LeastObjective.{next_later}
use Rattle.cps_theory.specs.laws.LeastOrder.{Decided}
use Rattle.landing_joint.specs.RankedProblem.{ranked, cost_at, first_at}
use Rattle.landing_joint.specs.shared.FirstOpen.{is_first_open}
use Rattle.cps_nodes.specs.WindowOrder.{window_cmp, window_cmp_total, window_ties}
use Rattle.cps_problem.specs.FirstDifference.{IsFirstDifference}
use Rattle.cps_problem.specs.WellFormed.{IsWellFormed}
use Rattle.cps_network.specs.Due.{HasCandidatesIf, HasCandidatesWhere}
use Rattle.cps_network.specs.Landable.{IsCandidate}
use Rattle.cps_network.specs.Lists.{IsAscending, node_at}
use Rattle.cps_network.specs.Nodes.{IsWindowNetwork, node_of, land, permits}
use Rattle.replan.specs.Bound.{HasDue, HasCounts}

member_right : {A : Type 0} (xs ys : List A) (z : A) → Member z ys → Member z (xs ++ ys)
member_right [] ys z m = m
member_right (x ∷ xs) ys z m = inr (member_right xs ys z m)

-- ---- any windows in ascending order, none twice

abbrev Rising : List (List ℤ) → Type 0
Rising xs = AscendBy (λ (x y : List ℤ). window_cmp x y ≡ Less) xs

rising_ascends : (xs : List (List ℤ)) → Rising xs → IsAscending xs
rising_ascends [] up i j lt within = absurd (omega arith)
rising_ascends (x ∷ xs) up zero zero lt within = absurd (omega arith)
rising_ascends (x ∷ xs) up zero (suc j) lt within = up.0 (node_at xs j) (member_at xs j [] (omega arith))
rising_ascends (x ∷ xs) up (suc i) zero lt within = absurd (omega arith)
rising_ascends (x ∷ xs) up (suc i) (suc j) lt within = rising_ascends xs up.1 i j (omega arith) (omega arith)

same_from_tie : (x y : List ℤ) → window_cmp x y ≡ Equal → x ≡ y
same_from_tie x y e = (slice_eq-Decides Decides-int_eq x y (pointwise int_eq x y) refl).0 (window_ties x y ∙ ap is_eq e)

-- with one window more
record WithOne (z : List ℤ) (xs : List (List ℤ)) : Type 0 where
  pub list : List (List ℤ)
  pub rising : Rising list
  pub old : (y : List ℤ) → Member y xs → Member y list
  pub new : Member z list
  pub only : (y : List ℤ) → Member y list → (y ≡ z) ⊎ Member y xs

with_one : (z : List ℤ) (xs : List (List ℤ)) → Rising xs → WithOne z xs
with_one z [] up = record {
  list = z ∷ [];
  rising = (λ y m. absurd m, tt);
  old = λ y m. absurd m;
  new = inl refl;
  only = λ y m. m;
}
with_one z (x ∷ xs) up = go (with_one z xs up.1) (window_cmp z x) refl
  where
    go : WithOne z xs → (o : Ordering) → window_cmp z x ≡ o → WithOne z (x ∷ xs)
    go rest Less e = record {
      list = z ∷ x ∷ xs;
      rising = (
        λ y m. elim m [
          | inl is ↦ subst (λ (w : List ℤ). window_cmp z w ≡ Less) (sym is) e
          | inr k ↦ window_cmp_total.trans z x y e (up.0 y k)
        ],
        up,
      );
      old = λ y m. inr m;
      new = inl refl;
      only = λ y m. m;
    }
    go rest Equal e = record {
      list = x ∷ xs;
      rising = up;
      old = λ y m. m;
      new = inl (same_from_tie z x e);
      only = λ y m. inr m;
    }
    go rest Greater e =
        let low : window_cmp x z ≡ Less = window_cmp_total.antisymm x z ∙ ap ordering_reverse e in
        record {
          list = x ∷ rest.list;
          rising = (
            λ y m. elim (rest.only y m) [
              | inl is ↦ subst (λ (w : List ℤ). window_cmp x w ≡ Less) (sym is) low
              | inr k ↦ up.0 y k
            ],
            rest.rising,
          );
          old = λ y m. elim m [ inl is ↦ inl is | inr k ↦ inr (rest.old y k) ];
          new = inr rest.new;
          only = λ y m. elim m [
            | inl is ↦ inr (inl is)
            | inr k ↦ elim (rest.only y k) [ inl is ↦ inl is | inr l ↦ inr (inr l) ]
          ];
        }

-- ---- the windows of the orders of a list for which something holds that can be decided

module _ (P : List ℕ → Type 0) (decide : (rs : List ℕ) → Decided (P rs)) (window : List ℕ → List ℤ) where
  record Windows (orders : List (List ℕ)) : Type 0 where
    pub list : List (List ℤ)
    pub rising : Rising list
    pub each : (rs : List ℕ) → Member rs orders → P rs → Member (window rs) list
    pub only : (y : List ℤ) → Member y list → (rs : List ℕ) × P rs × (y ≡ window rs)

  windows : (orders : List (List ℕ)) → Windows orders
  windows [] = record { list = []; rising = tt; each = λ rs m. absurd m; only = λ y m. absurd m }
  windows (os ∷ orders) = elim (decide os) [
    | inl is ↦
        let rest = windows orders in
        let more = with_one (window os) rest.list rest.rising in
        record {
          list = more.list;
          rising = more.rising;
          each = λ rs m has. elim m [
            | inl e ↦ subst (λ (q : List ℕ). Member (window q) more.list) (sym e) more.new
            | inr k ↦ more.old (window rs) (rest.each rs k has)
          ];
          only = λ y m. elim (more.only y m) [ inl e ↦ (os, is, e) | inr k ↦ rest.only y k ];
        }
    | inr never ↦
        let rest = windows orders in
        record {
          list = rest.list;
          rising = rest.rising;
          each = λ rs m has. elim m [ inl e ↦ absurd (never (subst P e has)) | inr k ↦ rest.each rs k has ];
          only = rest.only;
        }
  ]

-- ---- all lists of so many ranks

abbrev heads : ℕ → List (List ℕ) → List (List ℕ)
heads zero orders = []
heads (suc r) orders = map (λ (rs : List ℕ). suc r ∷ rs) orders ++ heads r orders

abbrev all_orders : ℕ → ℕ → List (List ℕ)
all_orders n zero = [] ∷ []
all_orders n (suc m) = heads n (all_orders n m)

among_heads : (n r : ℕ) (orders : List (List ℕ)) (rs : List ℕ) → 1 ≤ r → r ≤ n → Member rs orders
    → Member (r ∷ rs) (heads n orders)
among_heads zero r orders rs one le m = absurd (omega (arith, one, le))
among_heads (suc n) r orders rs one le m = elim (cases_eq r (suc n)) [
  | inl e ↦ append_in (map (λ (os : List ℕ). suc n ∷ os) orders) (heads n orders) (r ∷ rs)
      (rw e (map_in (λ (os : List ℕ). suc n ∷ os) orders rs m))
  | inr other ↦ member_right (map (λ (os : List ℕ). suc n ∷ os) orders) (heads n orders) (r ∷ rs)
      (among_heads n r orders rs one (omega (arith, le, other)) m)
]

-- ---- the candidates of a stage

module _ (p : Problem) (wf : IsWellFormed p) (net : IsWindowNetwork p) where
  legal_order : (rs : List ℕ) → Legal (ranked p).rules rs → Member rs (all_orders (length p.flights) (length rs))
  legal_order [] legal = inl refl
  legal_order (r ∷ rs) legal = among_heads (length p.flights) r (all_orders (length p.flights) (length rs))
      rs legal.0.fits.from_one legal.0.fits.to_count (legal_order rs legal.1)

  Lands : List ℕ → Type 0
  Lands rs = (landings : List Landing) × (earliest (first_at p) (next_from (ranked p)) rs ≡ Some landings)

  decide_lands : (rs : List ℕ) → Decided (Lands rs)
  unfolding Lands
  decide_lands rs = elim (cases_option (earliest (first_at p) (next_from (ranked p)) rs)) [
    | inl none ↦ inr (λ h. absurd (let x = sym none ∙ h.1 in cc))
    | inr lands ↦ inl lands
  ]

  -- a legal order of one flight more than the stage, of which all but the last can land
  abbrev LandsBefore : ℕ → List ℕ → Type 0
  LandsBefore stage [] = ⊥
  LandsBefore stage (r ∷ rs) = Legal (ranked p).rules (r ∷ rs) × Lands rs × (length rs ≡ stage)

  decide_before : (stage : ℕ) (rs : List ℕ) → Decided (LandsBefore stage rs)
  decide_before stage [] = inr (absurd)
  decide_before stage (r ∷ rs) = with_decided (decide_legal _
      (λ q x e. let b = wf.between_ranks q x e in (b.0, b.1)) (r ∷ rs)) (λ legal. with_decided (decide_lands rs)
      (λ lands. with_decided (cases_eq _ stage) (λ long. inl (legal, lands, long)) (λ h. h.2)) (λ h. h.1)) (λ h. h.0)

  window : List ℕ → List ℤ
  window rs = (node_of p.k rs).1

  is_candidate : (stage : ℕ) (rs : List ℕ) → LandsBefore stage rs → IsCandidate p stage (window rs)
  unfolding Lands window
  is_candidate stage [] h = absurd h
  is_candidate stage (r ∷ rs) (legal, lands, long) =
      let before = net.shrinks r rs legal in
      let l = earliest_lands (λ x u. (ranked p).is_open x u ≡ true) (first_at p) (next_from (ranked p))
      (is_first_open p) rs lands.0 lands.1 in
      subst (λ s. IsCandidate p s (window (r ∷ rs))) long (
        window rs,
        (
          pair_of (cost_at p) lands.0,
          record { landings = lands.0; legal = rw l.1 before.0; landed = l.0; at = ap (node_of p.k) l.1; is = refl },
        ),
        (r, before.1, ap (λ w. w.1) (net.pushes r rs before.0)),
      )

  each_candidate : (stage : ℕ) (next : List ℤ) → IsCandidate p stage next → (rs : List ℕ)
      × Member rs (all_orders (length p.flights) (suc stage)) × LandsBefore stage rs × (window rs ≡ next)
  unfolding Lands window
  each_candidate stage next (xs, (q, a), (r, permitted, is)) =
      let rs = ranks a.landings in
      let legal = net.grows r rs a.legal (subst (λ w. permits p w r) (sym a.at) permitted) in
      let e = earliest_least (λ x u. (ranked p).is_open x u ≡ true) _ _
      (is_first_open p) (next_later (ranked p)) a.landings a.landed in
      let long : length rs ≡ stage = ap (λ w. w.0) a.at in (
        r ∷ rs,
        rw long at (legal_order (r ∷ rs) legal),
        (legal, (e.0, e.1), long),
        ap (λ w. w.1) (net.pushes r rs a.legal ∙ ap (λ w. land w r) a.at) ∙ sym is,
      )

  pub counts_exist : HasCounts p
  counts_exist stage =
      let all = windows (LandsBefore stage) (decide_before stage) window
      (all_orders (length p.flights) (suc stage)) in (
        length all.list,
        record {
          candidates = all.list;
          ascending = rising_ascends all.list all.rising;
          each = λ xs. (
            λ has. (let o = all.only xs (contains_member all.list xs has) in rw o.2 (is_candidate stage o.0 o.1)),
            λ c. (let o = each_candidate stage xs c in member_contains all.list xs (rw o.3 at (all.each o.0 o.1 o.2))),
          );
          counted = refl;
        },
      )

-- ---- what is due

where_exists : (test : ℕ → Bool) (p : Problem) (n : ℕ) → HasCounts p → (total : ℕ) × HasCandidatesWhere test p n total
where_exists test p zero counted = (0, refl)
where_exists test p (suc n) counted =
    let rest = where_exists test p n counted in
    let here : (count : ℕ) × HasCandidatesIf (test (suc n)) p n count = elim (test (suc n)) as
    (λ b. (count : ℕ) × HasCandidatesIf b p n count) [ true ↦ counted n | false ↦ (0, refl) ] in
    (rest.0 + here.0, (here.0, rest.0, here.1, rest.1, refl))

pub due_alone : (p : Problem) → HasCounts p → HasDue None p
due_alone p counted = where_exists (counts 1 p.k 0) p _ counted

pub due_beside : (held p : Problem) (d : ℕ) → HasCounts p → IsFirstDifference held p d → HasDue (Some held) p
due_beside held p d counted is = (let due = where_exists (counts d p.k _) p _ counted in
    (due.0, (d, is, due.1)))
