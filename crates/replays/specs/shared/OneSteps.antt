-- The steps that are due are one number for a situation: a stage's candidates, and the first difference from the
-- problem that is held, ask of the pairs of ranks only whether a rank must land before another.
use Rattle.std.proofs.Common.{◌≡◌, ℕ, zero, suc, ◌-◌, ◌<◌, ◌≤◌, List, length, Bool, true, false, Some, None, ap, subst}
use Rattle.std.proofs.Common.{sym}
use Rattle.std.specs.Prelude.{ℤ, IsTrue, ◌↔◌}
use Rattle.precedence.specs.Pairs.{MustPrecede, must_precede, must_precede_decides}
use Rattle.landing_rules.specs.Flights.{Situation}
use Rattle.landing_rules.specs.Problem.{Problem, IsProblemOf}
use Rattle.cps_theory.specs.Feasible.{RankedProblem, next_from}
use Rattle.cps_theory.specs.Agreement.{counts}
use Rattle.cps_theory.specs.Labels.{Pair}
use Rattle.cps_theory.specs.LegalPrefix.{Legal}
use Rattle.cps_theory.specs.Network.{Attained}
use Rattle.cps_theory.specs.RankLists.{of_rank}
use Rattle.landing_joint.specs.RankedProblem.{apart_at, cost_at, no_waiting, ranked, start_at}
use Rattle.cps_problem.specs.FirstDifference.{AgreeUpTo, HaveSameAt, IsFirstDifference}
use Rattle.cps_network.specs.Due.{HasCandidates, HasCandidatesIf, HasCandidatesUpto, HasCandidatesWhere, IsDue}
use Rattle.cps_network.specs.Landable.{IsCandidate, IsLandable}
use Rattle.cps_network.specs.Nodes.{node_of}
use Rattle.cps_network.specs.Permits.{IsPermitted}
use Rattle.cps_network.specs.shared.OneDue.{one_due, one_where}
use Rattle.cps_problem.specs.shared.OneProblem.{same_but_pairs, same_flights, same_order, with_pairs}

-- ---- the candidates

-- with other pairs that ask the same, each candidate is one
module _ (p : Problem) (xs : List ℕ) (same : must_precede xs ≡ must_precede p.pairs) where
  -- the problem by rank, by that test
  abbrev ranked_by : (ℕ → ℕ → Bool) → RankedProblem
  ranked_by before = record {
    rules = record {
      count = length p.flights;
      most = p.k;
      back = λ r. p.k - (of_rank no_waiting p.flights r).passed;
      before = before;
    };
    is_open = (ranked p).is_open;
    start = start_at p;
    apart = apart_at p;
  }

  abbrev attains_by : (ℕ → ℕ → Bool) → ℕ → List ℤ → Pair → Type 0
  attains_by before stage ys q = Attained (λ r u. (ranked p).is_open r u ≡ true)
      (next_from (ranked_by before)) (cost_at p) (Legal (ranked_by before).rules) (node_of p.k) (stage, ys) q

  landable_along : (stage : ℕ) (ys : List ℤ) → IsLandable (with_pairs p xs) stage ys → IsLandable p stage ys
  landable_along stage ys (q, attained) =
      (q, subst (λ (before : ℕ → ℕ → Bool). attains_by before stage ys q) same attained)

  asked_back : (first next : ℕ) → MustPrecede p.pairs first next → MustPrecede xs first next
  asked_back first next must =
      (must_precede_decides xs first next).0 (subst (λ (before : ℕ → ℕ → Bool). IsTrue (before first next))
      (sym same) ((must_precede_decides p.pairs first next).1 must))

  permitted_along : (stage : ℕ) (ys : List ℤ) (rank : ℕ) → IsPermitted (with_pairs p xs) stage ys rank
      → IsPermitted p stage ys rank
  permitted_along stage ys rank may = record {
    from_one = may.from_one;
    to_count = may.to_count;
    early = may.early;
    late = may.late;
    accepted = may.accepted;
    after = λ first must. may.after first (asked_back first rank must);
  }

  candidate_along : (stage : ℕ) (next : List ℤ) → IsCandidate (with_pairs p xs) stage next → IsCandidate p stage next
  candidate_along stage next (ys, can, (rank, may, e)) =
      (ys, landable_along stage ys can, (rank, permitted_along stage ys rank may, e))

module _ (p : Problem) (xs : List ℕ) (same : must_precede xs ≡ must_precede p.pairs) where
  has_along : (stage count : ℕ) → HasCandidates (with_pairs p xs) stage count → HasCandidates p stage count
  has_along stage count has = record {
    candidates = has.candidates;
    ascending = has.ascending;
    each = λ next. (
      λ contained. candidate_along p xs same stage next ((has.each next).0 contained),
      λ candidate. (has.each next).1 (candidate_along (with_pairs p xs) p.pairs (sym same) stage next candidate),
    );
    counted = has.counted;
  }

  if_along : (b : Bool) (stage count : ℕ) → HasCandidatesIf b (with_pairs p xs) stage count
      → HasCandidatesIf b p stage count
  if_along true stage count has = has_along stage count has
  if_along false stage count has = has

  where_along : (test : ℕ → Bool) (n total : ℕ) → HasCandidatesWhere test (with_pairs p xs) n total
      → HasCandidatesWhere test p n total
  where_along test zero total e = e
  where_along test (suc n) total (count, before, here, rest, e) =
      (count, before, if_along (test (suc n)) n count here, where_along test n before rest, e)

-- ---- the first difference

abbrev SameBelow : (ℕ → ℕ → Bool) → (ℕ → ℕ → Bool) → ℕ → ℕ → Type 0
SameBelow f g r j = (i : ℕ) → 1 ≤ i → i < r → f i j ≡ g i j

abbrev HasFrom : (ℕ → ℕ → Bool) → ℕ → ℕ → Type 0
HasFrom f r j = (i : ℕ) × (r ≤ i) × IsTrue (f i j)

module _ (held p : Problem) (xs ys : List ℕ) (held_same : must_precede xs ≡ must_precede held.pairs)
    (same : must_precede ys ≡ must_precede p.pairs) where
  at_along : (r j : ℕ) → HaveSameAt (with_pairs held xs) (with_pairs p ys) r j → HaveSameAt held p r j
  at_along r j alike = record {
    below = subst (λ (g : ℕ → ℕ → Bool). SameBelow (must_precede held.pairs) g r j) same
        (subst (λ (f : ℕ → ℕ → Bool). SameBelow f (must_precede ys) r j) held_same alike.below);
    from = subst (λ (g : ℕ → ℕ → Bool). HasFrom (must_precede held.pairs) r j ↔ HasFrom g r j) same
        (subst (λ (f : ℕ → ℕ → Bool). HasFrom f r j ↔ HasFrom (must_precede ys) r j) held_same alike.from);
  }

  agree_along : (r : ℕ) → AgreeUpTo (with_pairs held xs) (with_pairs p ys) r → AgreeUpTo held p r
  agree_along r agree = record {
    head = record {
      table = agree.head.table;
      k = agree.head.k;
      objective = agree.head.objective;
      horizon = agree.head.horizon;
      last = agree.head.last;
    };
    flights = agree.flights;
    predecessors = λ j one lt. at_along r j (agree.predecessors j one lt);
  }

module _ (held p : Problem) (xs ys : List ℕ) (held_same : must_precede xs ≡ must_precede held.pairs)
    (same : must_precede ys ≡ must_precede p.pairs) where
  difference_along : (d : ℕ) → IsFirstDifference (with_pairs held xs) (with_pairs p ys) d → IsFirstDifference held p d
  difference_along d is = record {
    from_one = is.from_one;
    within = is.within;
    agree = λ more. agree_along held p xs ys held_same same d (is.agree more);
    greatest = λ s within agree. is.greatest s within
        (agree_along (with_pairs held xs) (with_pairs p ys) held.pairs p.pairs (sym held_same) (sym same) s agree);
  }

  due_along : (total : ℕ) → IsDue (Some (with_pairs held xs)) (with_pairs p ys) total → IsDue (Some held) p total
  due_along total (d, is, due) = (
    d,
    difference_along d is,
    where_along p ys same (counts d p.k (length held.flights)) (length p.flights) total due,
  )

-- ---- of two problems of a situation

module _ (s : Situation) (p q : Problem) (h : IsProblemOf s p) (k : IsProblemOf s q) where
  one_where_of : (test : ℕ → Bool) (n a b : ℕ) → HasCandidatesWhere test p n a → HasCandidatesWhere test q n b → a ≡ b
  one_where_of test n a b x y =
      let moved : HasCandidatesWhere test (with_pairs q p.pairs) n a =
      subst (λ (o : Problem). HasCandidatesWhere test o n a) (same_but_pairs s p q h k) x in
      one_where test q n a b (where_along q p.pairs (same_order s p q h k) test n a moved) y

  -- all stages together have one number of candidates
  pub one_candidates : (a b : ℕ) → HasCandidatesUpto p (length p.flights) a
      → HasCandidatesUpto q (length q.flights) b → a ≡ b
  one_candidates a b x y =
      let long : length q.flights ≡ length p.flights = ap length (sym (same_flights s p q h k)) in
      one_where_of (λ _. true) (length p.flights) a b x (subst (λ (n : ℕ). HasCandidatesUpto q n b) long y)

  -- where none is held one number of steps is due
  pub one_begun : (a b : ℕ) → IsDue None p a → IsDue None q b → a ≡ b
  one_begun a b x y =
      let moved : IsDue None (with_pairs q p.pairs) a =
      subst (λ (o : Problem). IsDue None o a) (same_but_pairs s p q h k) x in
      one_due None q a b (where_along q p.pairs (same_order s p q h k) (counts 1 q.k 0) (length q.flights) a moved) y

-- and so it is where a problem of another situation is held
module _ (s t : Situation) (held other p q : Problem) (h : IsProblemOf s held) (i : IsProblemOf s other)
    (j : IsProblemOf t p) (k : IsProblemOf t q) where
  pub one_step : (a b : ℕ) → IsDue (Some held) p a → IsDue (Some other) q b → a ≡ b
  one_step a b x y =
      let there : IsDue (Some (with_pairs other held.pairs)) p a =
      subst (λ (o : Problem). IsDue (Some o) p a) (same_but_pairs s held other h i) x in
      let moved : IsDue (Some (with_pairs other held.pairs)) (with_pairs q p.pairs) a =
      subst (λ (o : Problem). IsDue (Some (with_pairs other held.pairs)) o a) (same_but_pairs t p q j k) there in
      one_due (Some other) q a b
      (due_along other q held.pairs p.pairs (same_order s held other h i) (same_order t p q j k) a moved) y
