-- The states of a whole certificate miss no successor, and have their shape.
use Rattle.std.proofs.lemmas.Grind.{common_steps}
use Rattle.std.proofs.Common.{rules, ◌≡◌, ℕ, zero, suc, ◌+◌, ◌-◌, ◌*◌, ◌<◌, ◌≤◌, inl, inr, Bool, true, false, not, ◌&&◌}
use Rattle.std.proofs.Common.{leb, ltb, List, [], ◌∷◌, length, get_or, Option, Some, None, refl, sym, ap, subst, ◌∙◌}
use Rattle.std.proofs.Common.{arith}
use Rattle.std.specs.Prelude.{All, option_map}
use Rattle.std.specs.List.{list_any}
use Rattle.std.specs.Option.{option_or}
use Rattle.std.proofs.lemmas.Bool.{or_from, or_left, or_right}
use Rattle.std.proofs.lemmas.Cmp.{tied_itself}
use Rattle.wake_table.specs.declared.category.Category.{Category}
use Rattle.wake_table.specs.Table.{separation}
use Rattle.landing_rules.specs.Problem.{Problem}
use Rattle.cps_theory.specs.RankLists.{IsRank}
use Rattle.cps_theory.specs.Separation.{Landing}
use Rattle.cps_theory.specs.LandingTrail.{Landed, latest_landing, ranks}
use Rattle.cps_theory.specs.Feasible.{next_from}
use Rattle.cps_theory.specs.Labels.{InPairs, NoWorse, Pair, no_worse}
use Rattle.cps_theory.specs.LegalPrefix.{Legal}
use Rattle.cps_theory.specs.Patterns.{IsShaped, PatternNode, PatternPermits, pattern_newest, pattern_node, pattern_push}
use Rattle.cps_theory.specs.FirstFound.{with_number, element_from}
use Rattle.cps_theory.specs.CertificateClosure as closure
use Rattle.cps_theory.specs.CertificateClosure.{is_placed_by_pattern, permits_next}
use Rattle.cps_theory.specs.laws.FirstFound.{none_from}
use Rattle.cps_theory.specs.laws.LeastObjective.{next_later}
use Rattle.cps_theory.specs.laws.NetworkLabels.{attained_next}
use Rattle.cps_theory.specs.laws.NodeOrder.{node_total}
use Rattle.cps_theory.specs.laws.PatternNetwork.{pattern_network}
use Rattle.cps_theory.specs.laws.PatternShape.{legal_is_shaped}
use Rattle.landing_joint.specs.RankedProblem.{ranked, after_last, start_at, first_at, cost_at}
use Rattle.landing_joint.specs.shared.FirstBestLists.{costs_rise}
use Rattle.landing_joint.specs.shared.FirstOpen.{is_first_open}
use Rattle.cps_problem.specs.WellFormed.{IsWellFormed}
use Rattle.certificate.specs.States.{State}
use Rattle.cert_check.specs.Landings.{count, flight}
use Rattle.cert_check.specs.States.{node_of, pairs_of, rules_of, ready, successor, covers, is_missed, misses}
use Rattle.cert_check.specs.States.{first_missed, missed_from, digit, is_wrong_digit, is_shaped, is_misshapen}
use Rattle.cert_check.specs.States.{shape_failure}
use Rattle.cert_check.specs.Whole.{Attains, IsWholeState, AreWholeStates}
use Rattle.cert_check.proofs.PermitTests.{permits_from}
use Rattle.cert_check.proofs.Sound.{sound_problem}

-- ---- tests of lists

pub any_not : (f : Pair → Bool) (ps : List Pair) → ((b : Pair) → InPairs b ps → f b ≡ false) → list_any f ps ≡ false
any_not f [] h = refl
any_not f (b ∷ ps) h = or_from (f b) (list_any f ps) (h b (inl refl)) (any_not f ps (λ c i. h c (inr i)))

any_no_worse : (q o : Pair) (ps : List Pair) → InPairs o ps → NoWorse o q → list_any (λ x. no_worse x q) ps ≡ true
any_no_worse q o [] i le = absurd i
any_no_worse q o (x ∷ ps) (inl e) le = search rules
any_no_worse q o (x ∷ ps) (inr i) le = simp (or_right, any_no_worse q o ps i le)

pub none_passes : {S : Type 0} (test : S → Bool) (i : ℕ) (ss : List S) → All (λ s. test s ≡ false) ss
    → element_from test i ss ≡ None
unfolding element_from
none_passes test i [] h = refl
none_passes test i (s ∷ ss) h =
    rw (h 0 s (omega arith)) (none_passes test (i + 1) ss (λ k d lt. h (suc k) d (omega arith)))

-- ---- what covers

covers_at : (w : PatternNode) (q o : Pair) (s : State) → node_of s ≡ w → InPairs o s.pairs
    → NoWorse o q → closure.covers_at node_of pairs_of w q s ≡ true
covers_at w q o s e i le = cc (tied_itself node_total w, any_no_worse q o s.pairs i le)

covers_by : (w : PatternNode) (q o : Pair) (ss : List State) (k : ℕ) (s : State) → k < length ss
    → get_or ss k s ≡ s → node_of s ≡ w → InPairs o s.pairs → NoWorse o q → covers ss w q ≡ true
unfolding closure.covers
covers_by w q o [] k s lt e at i le = absurd (omega arith)
covers_by w q o (t ∷ ss) zero s lt e at i le = or_left (closure.covers_at node_of pairs_of w q t)
    (covers ss w q) (ap (closure.covers_at node_of pairs_of w q) e ∙ covers_at w q o s at i le)
covers_by w q o (t ∷ ss) (suc k) s lt e at i le = simp (or_right, covers_by w q o ss k s (omega arith) e at i le)

-- ---- the shape

module _ (k n : ℕ) (w : PatternNode) (h : IsShaped k n w) where
  low_digit : (j : ℕ) → 1 ≤ j → j ≤ 2 * k → leb (w.0 + j) k && not (digit w.1 j) ≡ false
  low_digit j one most = go (leb (w.0 + j) k) refl
    where
      go : (b : Bool) → leb (w.0 + j) k ≡ b → b && not (digit w.1 j) ≡ false
      go false e = refl
      go true e =
          let at : w.0 + j - suc w.0 ≡ j - 1 = omega arith in search rules

  high_digit : (j : ℕ) → 1 ≤ j → j ≤ 2 * k → ltb (n + k) (w.0 + j) && digit w.1 j ≡ false
  high_digit j one most = go (ltb (n + k) (w.0 + j)) refl
    where
      go : (b : Bool) → ltb (n + k) (w.0 + j) ≡ b → b && digit w.1 j ≡ false
      go false e = refl
      go true e =
          let at : w.0 + j - suc w.0 ≡ j - 1 = omega arith in search rules

  no_wrong_digit : (j : ℕ) → 1 ≤ j → j < 1 + 2 * k → is_wrong_digit k n w j ≡ false
  no_wrong_digit j one lt = search (rules, low_digit, high_digit)

  last_placed : is_placed_by_pattern k w w.2 ≡ true
  unfolding is_placed_by_pattern
  last_placed = search rules

  pub shaped_is : is_shaped k n w ≡ true
  unfolding is_shaped
  shaped_is = search (rules, none_from, no_wrong_digit, last_placed)

module _ (p : Problem) (well : IsWellFormed p) where
  abbrev opens : ℕ → ℕ → Type 0
  opens r u = (ranked p).is_open r u ≡ true

  pub between : (a r : ℕ) → (rules_of p).before a r ≡ true → IsRank (count p) a
  between a r b = search rules

  ones : (a r : ℕ) → (rules_of p).before a r ≡ true → 1 ≤ a
  ones a r b = (between a r b).0

  -- ---- when the next may land

  last_apart : (o : Option (ℕ × Category)) (a b : Category)
      → after_last p.table o b ≤ after_last p.table o a + separation p.table a b
  last_apart None a b = omega arith
  last_apart (Some l) a b = let t = well.table.triangle l.1 a b in omega arith

  -- what the last frozen flight asks of the next, a landing behind it keeps
  ready_behind : (l u r : ℕ) → start_at p l ≤ u → ready p l u r ≡ next_from (ranked p) l u r
  ready_behind zero u r le = refl
  ready_behind (suc l) u r le = let t =
      last_apart p.last (flight p (suc l)).category (flight p r).category in omega arith

  started : (l t r u : ℕ) → next_from (ranked p) l t r ≤ u → start_at p r ≤ u
  started l t r u le = grind (arith, common_steps)

  ready_after : (xs : List Landing) → Landed opens (next_from (ranked p)) xs → (r : ℕ)
      → ready p (latest_landing xs).0 (latest_landing xs).1 r ≡ next_from (ranked p) (latest_landing xs).0
      (latest_landing xs).1 r
  ready_after xs h r = search (rules, ready_behind)

  ready_is : (w : PatternNode) (b : Pair) (r : ℕ) → Attains p w b → ready p w.2 b.0 r ≡ next_from (ranked p) w.2 b.0 r
  ready_is w b r a = search (rules, ready_after)

  -- ---- successors

  next_attained : (w : PatternNode) (b q : Pair) (r : ℕ) → Attains p w b → PatternPermits (rules_of p) w r
      → successor p w.2 b r ≡ Some q → Attains p (pattern_push (rules_of p) w r) q
  next_attained w b q r a m e = attained_next PatternNode opens (first_at p) (next_from (ranked p)) (cost_at p) (Legal
      (rules_of p)) (pattern_node (rules_of p)) (PatternPermits (rules_of p)) (pattern_push (rules_of p)) pattern_newest
      (is_first_open p) (next_later (ranked p)) (costs_rise p) (pattern_network (rules_of p) ones) w b r q a m
      (sym (ap (λ (t : ℕ). option_map (λ (u : ℕ). (u, b.1 + cost_at p r u)) (first_at p r t)) (ready_is w b r a)) ∙ e)

  -- ---- the states

  attained_listed : (s : State) → IsWholeState p s → (b : Pair) → InPairs b s.pairs → Attains p (node_of s) b
  attained_listed s h b i = search rules

  shape_from : (s : State) (xs : List Landing) → 1 ≤ s.stage → Legal (rules_of p) (ranks xs)
      → pattern_node (rules_of p) (ranks xs) ≡ node_of s → is_misshapen p s ≡ false
  shape_from s [] begun legal at = search rules
  shape_from s (x ∷ xs) begun legal at =
      let h = legal_is_shaped (rules_of p) (λ r. (sound_problem p well).low r) x.0 (ranks xs) legal in search
      (rules, shaped_is)

  well_shaped : (s : State) → IsWholeState p s → is_misshapen p s ≡ false
  well_shaped s h = search (rules, shape_from)

  pub none_misshapen : (ss : List State) → All (IsWholeState p) ss → shape_failure p ss ≡ None
  none_misshapen ss h = simp (none_passes, well_shaped)

  module _ (ss : List State) (whole : AreWholeStates p ss) where
    covered : (w : PatternNode) (q : Pair) → 1 ≤ w.0 → Attains p w q → covers ss w q ≡ true
    covered w q one a =
        let s = whole.every w q one a in
        let i = s.1 in
        let o = (subst (IsWholeState p) i.2 (whole.each i.0 s.0 i.1)).covers q
        (subst (λ (z : PatternNode). Attains p z q) (sym s.2) a) in search (rules, covers_by)

    not_missed : (w : PatternNode) (b : Pair) (r : ℕ) → Attains p w b → PatternPermits (rules_of p) w r
        → is_missed p ss w r b ≡ false
    not_missed w b r a m = go (successor p w.2 b r) refl
      where
        go : (o : Option Pair) → successor p w.2 b r ≡ o
            → closure.is_not_covered node_of pairs_of ss (pattern_push (rules_of p) w r) o ≡ false
        go None e = refl
        go (Some q) e = search (rules, covered, next_attained)

    misses_none : (w : PatternNode) (pairs : List Pair) → ((b : Pair) → InPairs b pairs → Attains p w b)
        → (r : ℕ) → IsRank (count p) r → misses p ss w pairs r ≡ false
    misses_none w pairs a r rank = go (permits_next (rules_of p) w r) refl
      where
        go : (t : Bool) → permits_next (rules_of p) w r ≡ t → t && list_any (is_missed p ss w r) pairs ≡ false
        go false e = refl
        go true e = simp (any_not, not_missed, permits_from, between)

    first_missed_none : (w : PatternNode) (pairs : List Pair) → ((b : Pair) → InPairs b pairs → Attains p w b)
        → first_missed p ss w pairs ≡ None
    unfolding closure.first_missed
    first_missed_none w pairs a = search (rules, none_from, misses_none)

    pub start_misses_none : first_missed p ss (pattern_node (rules_of p) []) ((0, 0) ∷ []) ≡ None
    start_misses_none = search (rules, first_missed_none)

    pub states_miss_none : (i : ℕ) (rest : List State) → All (IsWholeState p) rest → missed_from p ss i rest ≡ None
    unfolding closure.missed_from
    states_miss_none i [] h = refl
    states_miss_none i (s ∷ rest) h = ap (λ (o : Option ℕ). option_or (with_number i o) (missed_from p ss (i + 1) rest))
        (first_missed_none (node_of s) s.pairs (attained_listed s (h 0 s (omega arith))))
        ∙ states_miss_none (i + 1) rest (λ k d lt. h (suc k) d (omega arith))
