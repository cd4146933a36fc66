-- Of all orders within the budget, the one that always takes the least rank that can still be completed is the first.
use Rattle.std.proofs.Common.{◌≡◌, ℕ, ◌+◌, ◌≤◌, inl, inr, List, [], ◌∷◌, Option, Some, arith, refl, sym, ap, subst, ◌∙◌}
use Rattle.std.proofs.Common.{le_refl}
use Rattle.std.proofs.lemmas.Bool.{cases_lt}
use Rattle.cps_theory.specs.Separation.{Landing}
use Rattle.cps_theory.specs.Retiming.{IsFirstOpen, NeverEarlier}
use Rattle.cps_theory.specs.LandingTrail.{Landed, cost_of, latest_landing, ranks}
use Rattle.cps_theory.specs.Labels.{NeverCheaper, Pair}
use Rattle.cps_theory.specs.Network.{Network}
use Rattle.cps_theory.specs.Feasible.{earliest}
use Rattle.cps_theory.specs.CompletingPairs.{AllLow, CanEndWithin, Choice, Completes, KeptCompleting, LeastChoices}
use Rattle.cps_theory.specs.CompletingPairs.{NoGreaterOrder, OrderWithinBudget, onto}
use Rattle.cps_theory.specs.laws.CompletingPairs.{continued_whole, whole_continued, follows_mono, newest_last}
use Rattle.cps_theory.specs.laws.Continuations.{cost_onto, earliest_front, earliest_head, no_later_cost, no_later_low}
use Rattle.cps_theory.specs.laws.Continuations.{ranks_onto}
use Rattle.cps_theory.specs.laws.EarliestLandings.{earliest_lands, earliest_least}
use Rattle.cps_theory.specs.laws.OptionSteps.{some_same}
use Rattle.cps_theory.specs.laws.OrderLoops.{earliest_more}

module _ (W : Type 0) (Open : ℕ → ℕ → Type 0) (first : ℕ → ℕ → Option ℕ) (after : ℕ → ℕ → ℕ
    → ℕ) (cost : ℕ → ℕ → ℕ) (Legal : List ℕ → Type 0) (node : List ℕ → W) (Permitted : W → ℕ
    → Type 0) (push : W → ℕ → W) (newest : W → ℕ) (opens : IsFirstOpen Open first) (later : NeverEarlier after)
    (dearer : NeverCheaper cost) (net : Network W Legal node Permitted push newest) (Final : W
    → Type 0) (closed : (rs : List ℕ) (r : ℕ) → Legal rs → Final (node rs) → Permitted (node rs) r
    → ⊥) (Low : ℕ → Type 0) (lower : (t u : ℕ) → t ≤ u → Low u → Low t) where
  abbrev Complete : W → Pair → Type 0
  Complete w q = Completes W Open after cost Legal node Permitted push newest Final Low w q

  module _ (Keeps : W → Pair → Type 0) (kept : (rs : List ℕ) (r : ℕ) → Legal (r ∷ rs)
      → KeptCompleting (Complete (node (r ∷ rs))) (Keeps (node (r ∷ rs)))) (budget : ℕ) where
    abbrev Choose : W → Pair → ℕ → ℕ → Type 0
    Choose w p r t = Choice W first after cost Permitted push newest Keeps budget w p r t

    abbrev LeastFrom : W → Pair → List ℕ → Type 0
    LeastFrom w p qs = LeastChoices W first after cost Permitted push newest Final Keeps budget w p qs

    abbrev Good : List ℕ → Type 0
    Good rs = OrderWithinBudget first after cost Legal node Final Low budget rs

    -- what a prefix at its earliest seconds can end, ends a good order
    pub can_end_within_good : (r t : ℕ) (xs : List Landing) → Legal (ranks ((r, t) ∷ xs))
        → Landed Open after ((r, t) ∷ xs) → AllLow Low ((r, t) ∷ xs)
        → CanEndWithin Keeps budget (node (ranks ((r, t) ∷ xs))) (t, cost_of cost xs + cost r t)
        → (qs : List ℕ) × Good (onto qs (ranks ((r, t) ∷ xs)))
    can_end_within_good r t xs l d a c =
        let zs : List Landing = (r, t) ∷ xs in
        let done = (kept (ranks xs) r l).completes c.0 c.1 in
        let f = continued_whole W _ _ _ _ _ _ _ _ _ opens later dearer net Final closed Low lower zs _ l d a
        (follows_mono W _ _ _ _ _ _ _ _ _ opens later dearer net _ closed Low lower _ t _ done.rest c.2 done.follows) in
        let ws = onto done.rest zs in
        let e = earliest_least _ _ _ opens later ws f.1 in (
          ranks done.rest,
          subst Good (ranks_onto done.rest zs) (grind (arith, no_later_low, no_later_cost)),
        )

    -- the next rank of a good order is a choice
    pub good_choice : (rs : List ℕ) (xs : List Landing) → earliest first after rs ≡ Some xs
        → (r : ℕ) (qs : List ℕ) → Good (onto qs (r ∷ rs))
        → (t : ℕ) × Choose (node rs) ((latest_landing xs).1, cost_of cost xs) r t × Legal (r ∷ rs)
        × (earliest first after (r ∷ rs) ≡ Some ((r, t) ∷ xs)) × AllLow Low ((r, t) ∷ xs)
    good_choice rs xs e r qs g =
        let w = earliest_front first after qs _ _ g.earliest_is in
        let h = earliest_head first after r rs w.0 w.2 in
        let t = h.1 in
        let ys = w.1 in
        let same = some_same h.0 xs (sym h.2 ∙ e) in
        let head = h.4 ∙ ap (λ zs. (r, t) ∷ zs) same in
        let whole = w.3 ∙ ap (onto ys) head in
        let lands = earliest_lands _ _ after opens _ _ g.earliest_is in
        let landed = rw whole at lands.0 in
        let ordered = ap ranks (sym whole) ∙ lands.1 in
        let ranked : ranks xs ≡ rs = (earliest_lands _ _ after opens rs xs e).1 in
        let f = whole_continued W _ _ _ _ _ _ _ _ _ opens
        later dearer net _ closed Low lower _ ys (rw ordered g.legal) landed (rw ordered g.final) (rw whole at g.low) in
        let legal = rw ranked at f.0 in
        let shorter = net.shrinks r rs legal in
        let done : Complete (node (r ∷ ranks xs)) (t, cost_of cost ys) = record {
          opened = subst (λ k. Open k t) (sym (net.newest_is (r ∷ ranks xs) f.0)) f.1.0;
          reached = record { landings = (r, t) ∷ xs; legal = f.0; landed = f.1; at = refl; by = le_refl t };
          low = f.2.0;
          rest = ys;
          follows = f.3;
          cost_is = refl;
        } in
        let o = (kept (ranks xs) r f.0).covers (t, cost_of cost ys) done in
        let newest_xs = ap (λ l. newest (node l)) (sym ranked) ∙ newest_last W _ _ _ _ _ _ _ _ _ opens later
        dearer net Final closed Low lower xs (rw ranked shorter.0) in
        let total =
        ap (cost_of cost) whole ∙ cost_onto _ ys _ in (
          t,
          record {
            permitted = shorter.1;
            found = ap (λ k. first r (after k (latest_landing xs).1 r)) newest_xs ∙ (rw same at h.3);
            can_end = (
              o.0,
              subst (λ v. Keeps v o.0) (ap (λ l. node (r ∷ l)) ranked ∙ net.pushes r rs shorter.0) o.1,
              o.2.0,
              omega arith,
            );
          },
          legal,
          w.2 ∙ ap Some head,
          f.2,
        )

    -- a choice's landing behind the prefix, at its earliest seconds, low and within the budget
    pub choice_more : (rs : List ℕ) (xs : List Landing) → Legal rs → earliest first after rs ≡ Some xs
        → (r t : ℕ) → Choose (node rs) ((latest_landing xs).1, cost_of cost xs) r t
        → Legal (r ∷ rs) × (earliest first after (r ∷ rs) ≡ Some ((r, t) ∷ xs)) × Low t
        × (cost_of cost ((r, t) ∷ xs) ≤ budget)
    choice_more rs xs l e r t c =
        let legal = net.grows r rs l c.permitted in
        let ranked : ranks xs ≡ rs = (earliest_lands _ _ after opens rs xs e).1 in
        let newest_xs = ap (λ k. newest (node k)) (sym ranked) ∙ newest_last W _ _ _ _ _ _ _ _ _ opens later
        dearer net Final closed Low lower xs (rw ranked l) in
        let f = ap (λ k. first r (after k (latest_landing xs).1 r)) (sym newest_xs) ∙ c.found in
        let o = c.can_end in (
          legal,
          earliest_more first after r t rs xs e f,
          lower t o.0.0 o.2 ((kept rs r legal).completes o.0 (rw (net.pushes r rs l) o.1)).low,
          (omega arith),
        )

    -- the order built of least choices is good
    pub least_choices_good : (qs rs : List ℕ) (xs : List Landing) → Legal rs → earliest first after rs ≡ Some xs
        → AllLow Low xs → cost_of cost xs ≤ budget → LeastFrom (node rs) ((latest_landing xs).1, cost_of cost xs) qs
        → Good (onto qs rs)
    least_choices_good [] rs xs l e a c g = search
    least_choices_good (r ∷ qs) rs xs l e a c g =
        let m = choice_more rs xs l e r g.0 g.1 in
        least_choices_good qs _ _ m.0 m.1 (m.2, a) m.3 (rw (net.pushes r rs l) g.3)

    -- and no good order with this front is less
    pub least_choices_least : (qs rs : List ℕ) (xs : List Landing) → Legal rs → earliest first after rs ≡ Some xs
        → LeastFrom (node rs) ((latest_landing xs).1, cost_of cost xs) qs → (os : List ℕ) → Good (onto os rs)
        → NoGreaterOrder qs os
    least_choices_least (r ∷ qs) rs xs l e g (o ∷ os) good =
        let c = good_choice rs xs e o os good in
        let le = g.2 o c.0 c.1 in
        elim (cases_lt r o) [
          | inl lt ↦ grind arith
          | inr ge ↦
              let same : o ≡ r = omega arith in
              let m = choice_more rs xs l e r g.0 g.1 in
              inr (sym same, least_choices_least qs _ _ m.0 m.1 (rw (net.pushes r rs l) g.3) os (rw same at good))
        ]
    least_choices_least qs rs xs l e g os good = search

    -- a loop that tries the ranks in turn finds a choice where a good order goes on
    pub good_goes_on : (rs : List ℕ) (xs : List Landing) → earliest first after rs ≡ Some xs
        → (Final (node rs) → ⊥) → (qs : List ℕ) → Good (onto qs rs) → (r : ℕ) × (t : ℕ)
        × Choose (node rs) ((latest_landing xs).1, cost_of cost xs) r t
    good_goes_on rs xs e not_final [] g = absurd (not_final g.final)
    good_goes_on rs xs e not_final (r ∷ qs) g = let c = good_choice rs xs e r qs g in (r, c.0, c.1)

    -- after a choice a good order still goes on
    pub choice_goes_on : (rs : List ℕ) (xs : List Landing) → Legal rs → earliest first after rs ≡ Some xs
        → AllLow Low xs → (r t : ℕ) → Choose (node rs) ((latest_landing xs).1, cost_of cost xs) r t
        → (qs : List ℕ) × Good (onto qs (r ∷ rs))
    choice_goes_on rs xs l e a r t c =
        let m = choice_more rs xs l e r t c in
        let lands = earliest_lands _ _ after opens _ _ m.1 in
        let g = can_end_within_good r t xs (rw lands.1 m.0) lands.0 (m.2, a) (grind arith) in
        (g.0, subst (λ zs. Good (onto g.0 zs)) lands.1 g.1)

    -- the first of all good orders
    pub least_choices_first : Legal [] → (qs : List ℕ) → LeastFrom (node []) (0, 0) qs
        → Good (onto qs []) × ((os : List ℕ) → Good (onto os []) → NoGreaterOrder qs os)
    least_choices_first l qs g =
        (least_choices_good qs [] [] l refl tt (omega arith) g, least_choices_least qs [] [] l refl g)
