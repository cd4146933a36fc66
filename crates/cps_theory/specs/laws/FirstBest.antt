-- There is at most one first best schedule, and least choices build it, whatever the objective.
use Rattle.std.proofs.Common.{◌≡◌, ◌≢◌, ℕ, ◌≤◌, List, [], ◌∷◌, length, Option, Some, true, arith, refl, sym, ap, subst}
use Rattle.std.proofs.Common.{◌∙◌, le_trans}
use Rattle.cps_theory.specs.RankLists.{IsRank}
use Rattle.cps_theory.specs.Separation.{Landing}
use Rattle.cps_theory.specs.Retiming.{IsFirstOpen}
use Rattle.cps_theory.specs.LandingTrail.{Landed, cost_of, pair_of, ranks}
use Rattle.cps_theory.specs.Labels.{NeverCheaper, Pair}
use Rattle.cps_theory.specs.LegalPrefix.{Legal}
use Rattle.cps_theory.specs.Network.{Network}
use Rattle.cps_theory.specs.Patterns.{PatternPermits, pattern_node}
use Rattle.cps_theory.specs.Feasible.{Feasible, RankedProblem, SoundProblem, at_seconds, earliest, next_from}
use Rattle.cps_theory.specs.Feasible.{second_and_cost, second_in}
use Rattle.cps_theory.specs.CompletingPairs.{AllLow, Choice, Completes, KeptCompleting, LeastChoices}
use Rattle.cps_theory.specs.CompletingPairs.{OrderWithinBudget, onto}
use Rattle.cps_theory.specs.FirstBest.{BuiltByLeastChoices, FirstBest}
use Rattle.cps_theory.specs.laws.Continuations.{onto_twice, no_greater_order_antisym, no_later_low, no_later_cost}
use Rattle.cps_theory.specs.laws.EarliestAndTight.{earliest_tight, tight_earliest}
use Rattle.cps_theory.specs.laws.EarliestLandings.{earliest_lands, earliest_least}
use Rattle.cps_theory.specs.laws.FeasibleOrder.{ranks_at, feasible_lands}
use Rattle.cps_theory.specs.laws.FrozenFront.{each_fits_distinct}
use Rattle.cps_theory.specs.laws.LandingOrder.{sorted, Descends, in_sorted}
use Rattle.cps_theory.specs.laws.LeastChoices.{choice_more, choice_goes_on, good_goes_on, least_choices_first}
use Rattle.cps_theory.specs.laws.LeastObjective.{next_later, pair_all, landing_trail_feasible}
use Rattle.cps_theory.specs.laws.LegalPrefix.{legal_each_fits, in_from_one}
use Rattle.cps_theory.specs.laws.OptionSteps.{some_same}
use Rattle.cps_theory.specs.laws.OrderBySeconds.{in_order_sorted, separate, sorted_in_order}
use Rattle.cps_theory.specs.laws.PatternNetwork.{pattern_network}
use Rattle.cps_theory.specs.laws.RanksOfList.{few_ranks}
use Rattle.cps_theory.specs.laws.TightMaps.{descends_same, tight_unique}

-- there is at most one first best map
pub first_best_unique : (p : RankedProblem) → SoundProblem p → (value : (ℕ → ℕ) → ℕ) (t u : ℕ → ℕ)
    → FirstBest p value t → FirstBest p value u → (r : ℕ) → IsRank p.rules.count r → t r ≡ u r
first_best_unique p sound value t u a b r q =
    let n = p.rules.count in
    let ft = a.best.feasible in
    let fu = b.best.feasible in
    let qs = onto (sorted t n) [] in
    let os = onto (sorted u n) [] in
    let ot = sorted_in_order p t sound ft in
    let ou = sorted_in_order p u sound fu in
    let e = no_greater_order_antisym qs os (a.least u b.best b.tight qs os ot ou)
    (b.least t a.best a.tight os qs ou ot) in
    let dt = separate p t sound ft in
    let du = subst (Descends u) (sym (sym (onto_twice _ []) ∙ ap (λ l. onto l []) e ∙ onto_twice _ []))
    (separate p u sound fu) in
    tight_unique p t u a.tight b.tight (λ f g qf qg. let i = in_sorted t n f qf in let j = in_sorted t n g qg in
    (descends_same t u _ dt du f g i j, descends_same u t _ du dt f g i j)) r q

-- nothing follows the node of a whole prefix
pub nodes_closed : (p : RankedProblem) → SoundProblem p → (rs : List ℕ) (r : ℕ) → Legal p.rules rs
    → length rs ≡ p.rules.count → PatternPermits p.rules (pattern_node p.rules rs) r → ⊥
nodes_closed p sound rs r l whole permitted =
    let pl = legal_each_fits _ (r ∷ rs)
    ((pattern_network _ (λ a x b. (sound.ranked a x b).0)).grows r rs l permitted) in
    omega (
      arith,
      few_ranks p.rules.count (r ∷ rs) (each_fits_distinct p.rules (r ∷ rs) pl)
          (λ x i. in_from_one p.rules x (r ∷ rs) pl i),
    )

module _ (p : RankedProblem) (sound : SoundProblem p) (first : ℕ → ℕ → Option ℕ)
    (opens : IsFirstOpen (λ r u. p.is_open r u ≡ true) first) where
  module _ (cost : ℕ → ℕ → ℕ) (dearer : NeverCheaper cost) (W : Type 0) (node : List ℕ → W) (stage : W
      → ℕ) (staged : (rs : List ℕ) → stage (node rs) ≡ length rs) (Permitted : W → ℕ → Type 0) (push : W
      → ℕ → W) (newest : W → ℕ) (net : Network W (Legal p.rules) node Permitted push newest) (Low : ℕ
      → Type 0) (lower : (t u : ℕ) → t ≤ u → Low u → Low t) (Keeps : W → Pair → Type 0) (kept : (rs : List ℕ) (r : ℕ)
      → Legal p.rules (r ∷ rs) → KeptCompleting
      (Completes W (λ x u. p.is_open x u ≡ true) (next_from p) cost (Legal p.rules) node Permitted push newest
      (λ w. stage w ≡ p.rules.count) Low (node (r ∷ rs))) (Keeps (node (r ∷ rs)))) (budget : ℕ) where
    -- nothing follows the node of a whole prefix
    closed : (rs : List ℕ) (r : ℕ) → Legal p.rules rs → stage (node rs) ≡ p.rules.count → Permitted (node rs) r → ⊥
    closed rs r l whole permitted =
        let pl = legal_each_fits _ (r ∷ rs) (net.grows r rs l permitted) in
        let few = few_ranks _ (r ∷ rs) (each_fits_distinct _ (r ∷ rs) pl) (λ x i. in_from_one _ x (r ∷ rs) pl i) in
        omega arith

    -- a landing trail of least choices is an order of least choices
    pub built_greedy : (zs : List Landing)
        → BuiltByLeastChoices W first (next_from p) cost node Permitted push newest Keeps budget zs
        → Legal p.rules (ranks zs) → (qs : List ℕ)
        → LeastChoices W first (next_from p) cost Permitted push newest (λ w. stage w ≡ p.rules.count) Keeps budget
        (node (ranks zs)) (pair_of cost zs) qs → (os : List ℕ)
        × LeastChoices W first (next_from p) cost Permitted push newest
        (λ w. stage w ≡ p.rules.count) Keeps budget (node []) (0, 0) os × (onto os [] ≡ onto qs (ranks zs))
    built_greedy [] b l qs g = (qs, g, refl)
    built_greedy (x ∷ xs) b l qs g =
        let s = net.shrinks x.0 (ranks xs) l in
        built_greedy xs b.2 s.0 (x.0 ∷ qs) (x.1, b.0, b.1, rw (net.pushes x.0 (ranks xs) s.0) at g)

    -- which lands at its earliest seconds
    pub built_earliest : (zs : List Landing)
        → BuiltByLeastChoices W first (next_from p) cost node Permitted push newest Keeps budget zs
        → Legal p.rules (ranks zs) → earliest first (next_from p) (ranks zs) ≡ Some zs
    built_earliest [] b l = refl
    built_earliest (x ∷ xs) b l = grind (arith, choice_more, next_later, closed, built_earliest xs)

    built_low : (zs : List Landing)
        → BuiltByLeastChoices W first (next_from p) cost node Permitted push newest Keeps budget zs
        → Legal p.rules (ranks zs) → AllLow Low zs
    built_low [] b l = tt
    built_low (x ∷ xs) b l = grind (arith, choice_more, next_later, closed, built_earliest, built_low xs)

    -- where some feasible schedule is within the value, a landing trail of least choices can be ended
    built_good : (u : ℕ → ℕ) → Feasible p u → AllLow Low (at_seconds u (sorted u p.rules.count))
        → cost_of cost (at_seconds u (sorted u p.rules.count)) ≤ budget → (zs : List Landing)
        → BuiltByLeastChoices W first (next_from p) cost node Permitted push newest Keeps budget zs
        → Legal p.rules (ranks zs) → (qs : List ℕ) × OrderWithinBudget first (next_from p) cost
        (Legal p.rules) node (λ w. stage w ≡ p.rules.count) Low budget (onto qs (ranks zs))
    built_good u fu low cheap [] b l =
        let su = sorted u p.rules.count in
        let fl = feasible_lands p u sound fu in
        let e = earliest_least _ _ _ opens (next_later p) _ fl.landed in
        let good : OrderWithinBudget first (next_from p) cost (Legal p.rules) node
        (λ w. stage w ≡ p.rules.count) Low budget su = record {
          legal = fl.legal;
          final = staged su ∙ fl.whole;
          landings = e.0;
          earliest_is = ap (earliest first (next_from p)) (sym (ranks_at u su)) ∙ e.1;
          low = no_later_low Low lower e.0 (at_seconds u su) e.2 low;
          cheap = le_trans (no_later_cost cost dearer e.0 (at_seconds u su) e.2) cheap;
        } in (onto su [], rw (onto_twice su []) good)
    built_good u fu low cheap (x ∷ xs) b l =
        let s = net.shrinks x.0 (ranks xs) l in
        choice_goes_on W _ _ _ _ _ _ _ _ _ opens (next_later p) dearer net _ closed Low lower _ kept budget _ xs s.0
        (built_earliest xs b.2 s.0) (built_low xs b.2 s.0) x.0 x.1 b.0

    -- so the loop that tries the ranks finds its next one
    pub built_goes_on : (u : ℕ → ℕ) → Feasible p u → AllLow Low (at_seconds u (sorted u p.rules.count))
        → cost_of cost (at_seconds u (sorted u p.rules.count)) ≤ budget → (zs : List Landing)
        → BuiltByLeastChoices W first (next_from p) cost node Permitted push newest Keeps budget zs
        → Legal p.rules (ranks zs) → length (ranks zs) ≢ p.rules.count → (r : ℕ) × (t : ℕ)
        × Choice W first (next_from p) cost Permitted push newest Keeps budget (node (ranks zs))
        (pair_of cost zs) r t
    built_goes_on u fu low cheap zs b l short =
        let g = built_good u fu low cheap zs b l in
        good_goes_on W _ _ _ _ _ _ _ _ _ opens (next_later p) dearer net _ closed Low lower _ kept budget _ zs
        (built_earliest zs b l) (λ e. short (sym (staged (ranks zs)) ∙ e)) g.0 g.1

    -- a whole landing trail of least choices, whose landings are the earliest, makes the first best schedule
    pub built_first : (value : Pair → ℕ) (v : ℕ) → ((xs : List Landing) → Legal p.rules (ranks xs)
        → Landed (λ r u. p.is_open r u ≡ true) (next_from p) xs → length (ranks xs) ≡ p.rules.count
        → value (pair_of cost xs) ≤ v → AllLow Low xs × (cost_of cost xs ≤ budget))
        → ((xs : List Landing) → Legal p.rules (ranks xs) → Landed (λ r u. p.is_open r u ≡ true) (next_from p) xs
        → length (ranks xs) ≡ p.rules.count → AllLow Low xs → cost_of cost xs ≤ budget
        → value (pair_of cost xs) ≤ v)
        → ((u : ℕ → ℕ) → Feasible p u → v ≤ value (second_and_cost cost p.rules.count u))
        → (zs : List Landing) → Legal p.rules (ranks zs) → length (ranks zs) ≡ p.rules.count
        → BuiltByLeastChoices W first (next_from p) cost node Permitted push newest Keeps budget zs
        → FirstBest p (λ u. value (second_and_cost cost p.rules.count u)) (second_in zs)
        × (earliest first (next_from p) (ranks zs) ≡ Some zs)
    built_first value v within back least zs legal whole built =
        let n = p.rules.count in
        let g = built_greedy zs built legal [] (staged (ranks zs) ∙ whole) in
        let f = least_choices_first W _ _ _ _ _ _ _ _ _ opens (next_later p) dearer net
        _ closed Low lower _ kept budget net.empty g.0 g.1 in
        let t = second_in zs in
        let rs = ranks zs in
        let e = built_earliest zs built legal in
        let et = earliest_tight p sound _ opens zs legal whole e in
        let good = f.0 in
        let landings_is = some_same good.landings zs (cc) in
        let landed = (earliest_lands _ _ (next_from p) opens rs zs e).0 in
        let tf = landing_trail_feasible p cost sound zs legal landed whole in
        let v_zs = back zs legal landed whole (rw landings_is at good.low) (rw landings_is at good.cheap) in
        let v_t : value (second_and_cost cost n t) ≤ v = rw tf.1 at v_zs in (
          record {
            best = record { feasible = tf.0; least = λ u fu. le_trans v_t (least u fu) };
            tight = et.0;
            least = λ u bu tu qs os oq ou.
                let qs_is : g.0 ≡ qs = sym (onto_twice g.0 []) ∙ ap (λ l. onto l [])
                (sym (in_order_sorted p t sound tf.0 qs oq ∙ et.1 ∙ sym g.2)) ∙ onto_twice qs [] in
                let su = sorted u n in
                let us = at_seconds u su in
                let fl = feasible_lands p u sound bu.feasible in
                let pa = pair_all p cost sound u su fl in
                let v_u : value (pair_of cost us) ≤ v =
                subst (λ q. value q ≤ v) (sym pa) (le_trans (bu.least t tf.0) v_t) in
                let w = within us (subst (Legal p.rules) (sym (ranks_at u su)) fl.legal) fl.landed
                (ap length (ranks_at u su) ∙ fl.whole) v_u in grind (arith, tight_earliest, in_order_sorted);
          },
          e,
        )
