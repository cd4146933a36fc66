-- Where a schedule is feasible there is a first best one: the earliest landings of the first of the cheapest legal
-- orders.
use Rattle.std.proofs.Common.{◌≡◌, ℕ, ◌<◌, ◌≤◌, ◌⊎◌, inl, inr, List, [], ◌∷◌, length, Option, Some, None, true, arith}
use Rattle.std.proofs.Common.{refl, sym, ap, subst, ◌∙◌}
use Rattle.std.proofs.lemmas.Bool.{cases_order}
use Rattle.cps_theory.specs.Separation.{Landing}
use Rattle.cps_theory.specs.Retiming.{IsFirstOpen}
use Rattle.cps_theory.specs.LandingTrail.{latest_landing, pair_of}
use Rattle.cps_theory.specs.Labels.{NeverCheaper, NoWorse, Pair}
use Rattle.cps_theory.specs.LegalPrefix.{Legal}
use Rattle.cps_theory.specs.Feasible.{Feasible, RankedProblem, SoundProblem, Tight, at_seconds, earliest, next_from}
use Rattle.cps_theory.specs.Feasible.{second_and_cost, second_in}
use Rattle.cps_theory.specs.CompletingPairs.{NoGreaterOrder, onto}
use Rattle.cps_theory.specs.FirstBest.{FirstBest}
use Rattle.cps_theory.specs.laws.Continuations.{no_later_cost, onto_twice}
use Rattle.cps_theory.specs.laws.DecideLegal.{decide_legal, with_decided}
use Rattle.cps_theory.specs.laws.EarliestAndTight.{earliest_tight, tight_earliest}
use Rattle.cps_theory.specs.laws.EarliestLandings.{NoLater, earliest_lands, earliest_least}
use Rattle.cps_theory.specs.laws.FeasibleOrder.{feasible_lands, ranks_at}
use Rattle.cps_theory.specs.laws.LandingOrder.{length-sorted, sorted, sorted_in}
use Rattle.cps_theory.specs.laws.LeastObjective.{landing_trail_feasible, next_later, pair_all}
use Rattle.cps_theory.specs.laws.LeastOrder.{AreRanks, Decided, LeastEnd, least_end}
use Rattle.cps_theory.specs.laws.OrderBySeconds.{in_order_sorted}

-- of any two orders one is no greater, and no greater than one that is no greater is no greater
pub no_greater_total : (xs ys : List ℕ) → NoGreaterOrder xs ys ⊎ NoGreaterOrder ys xs
no_greater_total [] ys = inl tt
no_greater_total (x ∷ xs) ys = grind (arith, cases_order, no_greater_total xs)

pub no_greater_chain : (xs ys zs : List ℕ) → NoGreaterOrder xs ys → NoGreaterOrder ys zs → NoGreaterOrder xs zs
no_greater_chain [] ys zs a b = grind arith
no_greater_chain (x ∷ xs) ys zs a b = grind (arith, no_greater_chain xs)

module _ (p : RankedProblem) (sound : SoundProblem p) (first : ℕ → ℕ → Option ℕ)
    (opens : IsFirstOpen (λ r u. p.is_open r u ≡ true) first) (cost : ℕ → ℕ → ℕ) (dearer : NeverCheaper cost)
    (value : Pair → ℕ) (mono : (a b : Pair) → NoWorse a b → value a ≤ value b) where
  -- a legal order, latest first, that can land
  record LandsEarliest (rs : List ℕ) : Type 0 where
    pub legal : Legal p.rules rs
    pub landings : List Landing
    pub landings_are : earliest first (next_from p) rs ≡ Some landings

  decide_lands : (rs : List ℕ) → Decided (LandsEarliest rs)
  decide_lands rs = with_decided (decide_legal _ sound.ranked rs) (λ l. by l _ refl) (λ h. h.legal)
    where
      by : Legal p.rules rs → (o : Option (List Landing)) → earliest first (next_from p) rs ≡ o
          → Decided (LandsEarliest rs)
      by l (Some zs) e = inl (record { legal = l; landings = zs; landings_are = e })
      by l None e = inr (λ h. absurd (cc))

  -- what its earliest landings are worth
  abbrev worth_of : Option (List Landing) → ℕ
  worth_of None = 0
  worth_of (Some zs) = value (pair_of cost zs)

  worth : List ℕ → ℕ
  worth rs = worth_of (earliest first (next_from p) rs)

  -- cheaper, or as cheap and no greater in landing order
  Before : List ℕ → List ℕ → Type 0
  Before rs os = (worth rs < worth os) ⊎ ((worth rs ≡ worth os) × NoGreaterOrder (onto rs []) (onto os []))

  before_total : (rs os : List ℕ) → Before rs os ⊎ Before os rs
  unfolding Before
  before_total rs os = grind (arith, cases_order, no_greater_total)

  before_chain : (rs os qs : List ℕ) → Before rs os → Before os qs → Before rs qs
  unfolding Before
  before_chain rs os qs x h = grind (arith, no_greater_chain)

  -- the order of a feasible map lands at its earliest seconds, which are worth no more
  record Ordered (t : ℕ → ℕ) : Type 0 where
    pub lands : LandsEarliest (sorted t p.rules.count)
    pub cheap : worth (sorted t p.rules.count) ≤ value (second_and_cost cost p.rules.count t)

  sorted_ranks : (t : ℕ → ℕ) → AreRanks p.rules.count p.rules.count (sorted t p.rules.count)
  sorted_ranks t = record { long = length-sorted t p.rules.count; ranked = sorted_in t p.rules.count }

  no_later_latest : (xs ys : List Landing) → NoLater xs ys → (latest_landing xs).1 ≤ (latest_landing ys).1
  no_later_latest xs ys n = grind arith

  feasible_ordered : (t : ℕ → ℕ) → Feasible p t → Ordered t
  unfolding worth
  feasible_ordered t f =
      let rs = sorted t p.rules.count in
      let l = feasible_lands p t sound f in
      let e = earliest_least _ _ _ opens (next_later p) _ l.landed in
      let is = ap (earliest first (next_from p)) (sym (ranks_at t rs)) ∙ e.1 in
      let le = mono (pair_of cost e.0) (pair_of cost (at_seconds t rs))
      (no_later_latest e.0 _ e.2, no_later_cost _ dearer e.0 _ e.2) in grind (arith, pair_all)

  -- the value of a tight map is what its order is worth
  tight_worth : (t : ℕ → ℕ) → Tight p t → worth (sorted t p.rules.count) ≡ value (second_and_cost cost p.rules.count t)
  unfolding worth
  tight_worth t tight = grind (arith, tight_earliest, pair_all, feasible_lands)

  -- the earliest landings of the first of the cheapest orders
  built : LeastEnd p.rules.count LandsEarliest decide_lands Before before_total before_chain p.rules.count (λ rs. rs)
      → (u : ℕ → ℕ) × FirstBest p (λ v. value (second_and_cost cost p.rules.count v)) u
  unfolding Before worth
  built a =
      let n = p.rules.count in
      let rs = a.end in
      let zs = a.holds.landings in
      let is = a.holds.landings_are in
      let lands = earliest_lands _ _ (next_from p) opens rs zs is in
      let legal = subst (Legal p.rules) (sym lands.1) a.holds.legal in
      let whole = ap length lands.1 ∙ a.ranks.long in
      let et = earliest_tight p sound _ opens zs legal whole (cc) in
      let tf = landing_trail_feasible p _ sound zs legal lands.0 whole in
      let u = second_in zs in
      let worth_is = ap worth_of is ∙ ap value tf.1 in (
        u,
        record {
          best = record {
            feasible = tf.0;
            least = λ v fv.
                let o = feasible_ordered v fv in grind (arith, sorted, sorted_ranks);
          };
          tight = et.0;
          least = λ v bv tv qs os oq ov.
              let b = a.least (sorted v n) (sorted_ranks v) (feasible_ordered v bv.feasible).lands in
              let w = tight_worth v tv in
              let q_is =
              ap (λ l. onto l []) (sym (in_order_sorted p u sound tf.0 qs oq ∙ et.1 ∙ lands.1)) ∙ onto_twice qs [] in
              let o_is = ap (λ l. onto l []) (sym (in_order_sorted p v sound bv.feasible os ov)) ∙ onto_twice os [] in
              elim b [
                | inl lt ↦ absurd (omega arith)
                | inr e ↦ subst (λ l. NoGreaterOrder l os) q_is (subst (λ l. NoGreaterOrder (onto rs []) l) o_is e.1)
              ];
        },
      )

  -- where a map is feasible there is a first best one
  pub first_best_exists : (t : ℕ → ℕ) → Feasible p t → (u : ℕ → ℕ)
      × FirstBest p (λ v. value (second_and_cost cost p.rules.count v)) u
  first_best_exists t f = elim
      (least_end p.rules.count _ decide_lands _ before_total before_chain _ _) [
        | inl a ↦ built a
        | inr none ↦ absurd (none (sorted t p.rules.count) (sorted_ranks t) (feasible_ordered t f).lands)
      ]
