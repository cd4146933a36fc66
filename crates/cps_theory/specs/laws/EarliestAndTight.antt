-- A schedule is tight exactly where each flight lands at its earliest second in the order of the schedule.
use Rattle.std.proofs.Common.{◌≡◌, ℕ, List, [], ◌∷◌, length, Option, Some, true, arith, ap, ◌∙◌, le_antisymm}
use Rattle.cps_theory.specs.RankLists.{In, IsRank}
use Rattle.cps_theory.specs.Separation.{Landing}
use Rattle.cps_theory.specs.Retiming.{IsFirstOpen}
use Rattle.cps_theory.specs.LandingTrail.{ranks}
use Rattle.cps_theory.specs.LegalPrefix.{Legal}
use Rattle.cps_theory.specs.Feasible.{RankedProblem, SoundProblem, Tight, at_seconds, earliest, next_from, second_in}
use Rattle.cps_theory.specs.laws.EarliestLandings.{earliest_lands}
use Rattle.cps_theory.specs.laws.FeasibleOrder.{at_seconds_agree, landed_descends}
use Rattle.cps_theory.specs.laws.FrozenFront.{each_fits_distinct}
use Rattle.cps_theory.specs.laws.LandingOrder.{sorted, sorted_in, in_sorted}
use Rattle.cps_theory.specs.laws.LeastObjective.{at_second_in, landing_trail_feasible}
use Rattle.cps_theory.specs.laws.LegalPrefix.{legal_each_fits, in_from_one}
use Rattle.cps_theory.specs.laws.OrderBySeconds.{descends_equal, separate}
use Rattle.cps_theory.specs.laws.RanksOfList.{all_ranks}
use Rattle.cps_theory.specs.laws.TightMaps.{tighten}

pub heads : (x y : Landing) (xs ys : List Landing) → ◌≡◌ {A = List Landing} (x ∷ xs) (y ∷ ys) → x ≡ y
heads x y xs ys e = cc

pub agree_at : (t u : ℕ → ℕ) (rs : List ℕ) → at_seconds t rs ≡ at_seconds u rs → (r : ℕ) → In r rs → t r ≡ u r
agree_at t u [] e r i = absurd i
agree_at t u (x ∷ rs) e r i = grind (arith, heads, agree_at t u rs)

module _ (p : RankedProblem) (sound : SoundProblem p) (first : ℕ → ℕ → Option ℕ)
    (opens : IsFirstOpen (λ r u. p.is_open r u ≡ true) first) where
  -- a tight schedule lands its order at its earliest seconds
  pub tight_earliest : (u : ℕ → ℕ) → Tight p u
      → earliest first (next_from p) (sorted u p.rules.count) ≡ Some (at_seconds u (sorted u p.rules.count))
  tight_earliest u t =
      let n = p.rules.count in
      let w = tighten p sound _ opens u t.feasible in
      w.4 ∙ ap Some (at_seconds_agree w.0 u _ (grind (arith, sorted_in, le_antisymm)))

  -- and what an order lands at its earliest seconds is tight
  pub earliest_tight : (zs : List Landing) → Legal p.rules (ranks zs) → length (ranks zs) ≡ p.rules.count
      → earliest first (next_from p) (ranks zs) ≡ Some zs → Tight p (second_in zs)
      × (sorted (second_in zs) p.rules.count ≡ ranks zs)
  earliest_tight zs legal whole e =
      let n = p.rules.count in
      let rs = ranks zs in
      let t = second_in zs in
      let pl = legal_each_fits _ rs legal in
      let differ = each_fits_distinct _ rs pl in
      let landed = (earliest_lands _ _ (next_from p) opens rs zs e).0 in
      let at = at_second_in zs differ in
      let f = (landing_trail_feasible p (λ r u. 0) sound zs legal landed whole).0 in
      let d = landed_descends p t sound rs pl (rw at landed) in
      let ranked : (x : ℕ) → In x rs → IsRank n x = λ x i. in_from_one _ x rs pl i in
      let s = descends_equal t _ rs (separate p t sound f) d
      (λ z i. all_ranks n rs differ ranked whole z (sorted_in t n z i)) (λ z i. in_sorted t n z (ranked z i)) in
      let w = tighten p sound _ opens t f in
      let same : at_seconds w.0 (sorted t n) ≡ at_seconds t (sorted t n) = cc in
      let agree : (r : ℕ) → IsRank n r → w.0 r ≡ t r =
      λ r q. agree_at w.0 t _ same r (in_sorted t n r q) in grind arith
