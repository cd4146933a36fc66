-- Landing a feasible order at its earliest seconds gives a tight schedule, no later anywhere; of a least one it gives a
-- best one; one order has one tight schedule.
use Rattle.std.proofs.Common.{◌≡◌, ℕ, zero, suc, ◌<◌, ◌≤◌, List, [], ◌∷◌, Option, Some, true, ltb}
use Rattle.std.proofs.Common.{arith, refl, sym, ap, subst, ◌∙◌, le_refl, le_trans, le_antisymm}
use Rattle.std.proofs.lemmas.Bool.{cases_lt, lt-ltb, le-ltb}
use Rattle.cps_theory.specs.RankLists.{In, IsRank, upto}
use Rattle.cps_theory.specs.Retiming.{IsFirstOpen}
use Rattle.cps_theory.specs.LandingTrail.{Landed}
use Rattle.cps_theory.specs.Labels.{NeverCheaper, NoWorse, Pair}
use Rattle.cps_theory.specs.Feasible.{Feasible, IsBest, LandsAllRanks, RankedProblem, SameOrder, SoundProblem, Tight}
use Rattle.cps_theory.specs.Feasible.{at_seconds, earliest, greatest, next_from, second_and_cost, second_in, total}
use Rattle.cps_theory.specs.laws.EarliestLandings.{NoLater, earliest_lands, earliest_least}
use Rattle.cps_theory.specs.laws.FeasibleOrder.{ranks_at, lands_feasible, feasible_lands, landed_descends}
use Rattle.cps_theory.specs.laws.FrozenFront.{each_fits_distinct}
use Rattle.cps_theory.specs.laws.LandingOrder.{insert_at, sorted, sorted_in, in_sorted, Descends}
use Rattle.cps_theory.specs.laws.LeastObjective.{next_later, at_second_in}
use Rattle.cps_theory.specs.laws.LegalPrefix.{legal_each_fits}
use Rattle.cps_theory.specs.laws.OptionSteps.{some_same}

same_insert : (t u : ℕ → ℕ) (x : ℕ) (ys : List ℕ) → ((y : ℕ) → In y ys → ltb (t y) (t x) ≡ ltb (u y) (u x))
    → insert_at t x ys ≡ insert_at u x ys
same_insert t u x [] h = refl
same_insert t u x (y ∷ ys) h = grind (arith, same_insert t u x ys)

same_test : (a b c d : ℕ) → (a < b → c < d) → (c < d → a < b) → ltb a b ≡ ltb c d
same_test a b c d h k = grind (arith, cases_lt, lt-ltb, le-ltb)

same_sorted : (n : ℕ) (t u : ℕ → ℕ) → SameOrder n t u → sorted t n ≡ sorted u n
same_sorted zero t u same = refl
same_sorted (suc n) t u same =
    same_insert t u _ _ (λ y i. let q = sorted_in t n y i in grind arith)
    ∙ ap (insert_at u (suc n)) (same_sorted n t u (λ f g qf qg. same f g (omega arith) (omega arith)))

pub no_later_at : (t u : ℕ → ℕ) (rs : List ℕ) → NoLater (at_seconds t rs) (at_seconds u rs)
    → (r : ℕ) → In r rs → t r ≤ u r
no_later_at t u [] n r i = absurd i
no_later_at t u (x ∷ rs) n r i = grind (arith, no_later_at t u rs)

pub descends_same : (t u : ℕ → ℕ) (rs : List ℕ) → Descends t rs → Descends u rs → (f g : ℕ)
    → In f rs → In g rs → t f < t g → u f < u g
descends_same t u [] d e f g i j lt = grind arith
descends_same t u (x ∷ rs) d e f g i j lt = grind (arith, descends_same t u rs)

module _ (p : RankedProblem) (sound : SoundProblem p) (first : ℕ → ℕ → Option ℕ)
    (opens : IsFirstOpen (λ r u. p.is_open r u ≡ true) first) where
  -- of feasible seconds, the earliest in their order
  pub tighten : (t : ℕ → ℕ) → Feasible p t → (u : ℕ → ℕ) × Tight p u × SameOrder p.rules.count t u
      × ((r : ℕ) → IsRank p.rules.count r → u r ≤ t r)
      × (earliest first (next_from p) (sorted t p.rules.count) ≡ Some (at_seconds u (sorted t p.rules.count)))
  tighten t f =
      let n = p.rules.count in
      let rs = sorted t n in
      let l = feasible_lands p t sound f in
      let e = earliest_least _ _ _ opens (next_later p) _ l.landed in
      let xs = e.0 in
      let is = ap (earliest first (next_from p)) (sym (ranks_at t rs)) ∙ e.1 in
      let lands = earliest_lands _ _ (next_from p) opens rs xs is in
      let u = second_in xs in
      let same = ap (at_seconds u) (sym lands.1) ∙ at_second_in xs
      (rw lands.1 (each_fits_distinct _ rs (legal_each_fits _ rs l.legal))) in
      let la : LandsAllRanks p u rs =
      record {
        legal = l.legal;
        whole = l.whole;
        landed = subst (Landed (λ r v. p.is_open r v ≡ true) (next_from p)) (sym same) lands.0;
      } in
      let dt = landed_descends p t sound rs (legal_each_fits _ rs l.legal) l.landed in
      let du = landed_descends p u sound rs (legal_each_fits _ rs l.legal) la.landed in
      let so : SameOrder n t u =
      λ a b qa qb. (
        descends_same t u rs dt du a b (in_sorted t n a qa) (in_sorted t n b qb),
        descends_same u t rs du dt a b (in_sorted t n a qa) (in_sorted t n b qb),
      ) in
      let low : (v : ℕ → ℕ) → Feasible p v → SameOrder n t v → (r : ℕ) → IsRank n r → u r ≤ v r = λ v fv sv r q.
      let rv = same_sorted n t v sv in
      let ev = earliest_least _ _ _ opens (next_later p) _ (feasible_lands p v sound fv).landed in
      let isv = ap (earliest first (next_from p)) (rv ∙ sym (ranks_at v _)) ∙ ev.1 in
      let nl = subst (λ z. NoLater z (at_seconds v (sorted v n))) (sym (some_same xs _ (sym is ∙ isv)) ∙ sym same)
      ev.2 in
      let nl' = subst (λ z. NoLater (at_seconds u rs) (at_seconds v z)) (sym rv) nl in
      no_later_at u v rs nl' r (in_sorted t n r q) in grind (arith, lands_feasible)

  greatest_mono : (n : ℕ) (u t : ℕ → ℕ) → ((r : ℕ) → IsRank n r → u r ≤ t r) → greatest u n ≤ greatest t n
  greatest_mono zero u t h = le_refl 0
  greatest_mono (suc n) u t h = omega (arith, greatest_mono n u t (λ r q. h r (q.0, omega arith)))

  total_mono : (cost : ℕ → ℕ → ℕ) → NeverCheaper cost → (n : ℕ) (u t : ℕ → ℕ) → ((r : ℕ) → IsRank n r → u r ≤ t r)
      → total (λ r. cost r (u r)) (upto n) ≤ total (λ r. cost r (t r)) (upto n)
  total_mono cost dearer zero u t h = le_refl 0
  total_mono cost dearer (suc n) u t h = grind (arith, total_mono cost dearer n)

  -- of a feasible schedule of least value, the earliest landings in its order are a best and tight schedule
  pub best_and_tight : (cost : ℕ → ℕ → ℕ) → NeverCheaper cost → (value : Pair → ℕ)
      → ((a b : Pair) → NoWorse a b → value a ≤ value b) → (t : ℕ → ℕ) → Feasible p t
      → ((u : ℕ → ℕ) → Feasible p u → value (second_and_cost cost p.rules.count t) ≤ value
      (second_and_cost cost p.rules.count u)) → (u : ℕ → ℕ)
      × IsBest p (λ v. value (second_and_cost cost p.rules.count v)) u × Tight p u
      × (value (second_and_cost cost p.rules.count u) ≡ value (second_and_cost cost p.rules.count t))
  best_and_tight cost dearer value mono t f least =
      let n = p.rules.count in
      let w = tighten t f in grind (arith, greatest_mono, total_mono, le_trans, le_antisymm)

-- an order has at most one tight map
pub tight_unique : (p : RankedProblem) (t u : ℕ → ℕ) → Tight p t → Tight p u → SameOrder p.rules.count t u
    → (r : ℕ) → IsRank p.rules.count r → t r ≡ u r
tight_unique p t u a b s r q = grind (arith, le_antisymm)
