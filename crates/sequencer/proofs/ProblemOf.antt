-- What was made of a sound situation's flights by rank is its problem, and is well formed.
use Rattle.std.proofs.Common.{◌≡◌, ℕ, zero, suc, ◌+◌, ◌<◌, ◌≤◌, List, [], ◌∷◌, length, map, get_or, refl, sym, ap, ap₂}
use Rattle.std.proofs.Common.{subst, ◌∙◌, arith}
use Rattle.std.specs.Prelude.{All, ◌↔◌, MatchOption, ⊤}
use Rattle.std.specs.List.{AllZip}
use Rattle.std.specs.Ordering.{is_lt}
use Rattle.std.proofs.lemmas.List.{get_or-map}
use Rattle.std.proofs.lemmas.List.Elements.{All-filter}
use Rattle.std.proofs.lemmas.List.Sorted.{All-permutation}
use Rattle.std.proofs.lemmas.Map.Keys.{Less-from_sorted}
use Rattle.std.proofs.lemmas.Slice.Zip.{AllZip-long}
use Rattle.cps_base.specs.Limits.{greatest_k, latest_horizon}
use Rattle.precedence.specs.Pairs.{MustPrecede}
use Rattle.wake_table.specs.Table.{IsWakeTable}
use Rattle.landing_rules.specs.Flights.{Aerodrome, Active, Span, Situation, waiting, is_waiting, horizon}
use Rattle.landing_rules.specs.Rules.{first_come_cmp, last_second}
use Rattle.landing_rules.specs.Events.{frozen_landings, in_landing_order}
use Rattle.landing_rules.specs.Problem as problems
use Rattle.landing_rules.specs.Problem.{IsWaitingOf, IsProblemOf, by_rank, last_of, frozen_cost}
use Rattle.landing_rules.specs.Sound.{IsSound, IsGoodFlight}
use Rattle.cps_problem.specs.declared.problem.Waiting as waits
use Rattle.cps_problem.specs.declared.problem.Head.{Head}
use Rattle.cps_problem.specs.Seen.{waiting_of, seen_problem}
use Rattle.cps_problem.specs.WellFormed.{IsWellFormed}
use Rattle.landing_joint.specs.Numbered.{nobody}
use Rattle.sequencer.specs.Ranked.{arrival_of, rank_cmp}
use Rattle.sequencer.specs.Predecessors.{IsListed}
use Rattle.sequencer.proofs.Ranks.{apart_permutes, rank_permutes, rank_length, rank_ranked, waiting_apart}
use Rattle.sequencer.proofs.Listed.{between, predecessors}
use Rattle.sequencer.proofs.FrozenLeft.{last_low, base_low}

abbrev pub key_of : problems.Waiting → ℕ × List ℕ
key_of w = (w.eta, w.callsign)

-- ---- it is well formed

module _ (closures : List Span) where
  pub zip_all : (R : Active → Type 0) (Q : problems.Waiting → Type 0)
      → ((a : Active) (w : problems.Waiting) → IsWaitingOf closures a w → R a → Q w) →
      (xs : List Active) (ys : List problems.Waiting) → AllZip (IsWaitingOf closures) xs ys
      → All R xs → (k : ℕ) (d : problems.Waiting) → k < length ys → Q (get_or ys k d)
  zip_all R Q h [] [] z all k d lt = absurd (omega arith)
  zip_all R Q h [] (y ∷ ys) z all k d lt = absurd z
  zip_all R Q h (x ∷ xs) [] z all k d lt = absurd z
  zip_all R Q h (x ∷ xs) (y ∷ ys) z all zero d lt = h x y z.0 (all 0 x (omega arith))
  zip_all R Q h (x ∷ xs) (y ∷ ys) z all (suc k) d lt =
      zip_all R Q h xs ys z.1 (λ k d l. all (suc k) d (omega arith)) k d (omega arith)

  pub zip_keys : (xs : List Active) (ys : List problems.Waiting) → AllZip (IsWaitingOf closures) xs ys
      → map key_of ys ≡ map arrival_of xs
  zip_keys [] [] z = refl
  zip_keys [] (y ∷ ys) z = absurd z
  zip_keys (x ∷ xs) [] z = absurd z
  zip_keys (x ∷ xs) (y ∷ ys) z = ap₂ (λ p l. p ∷ l) (ap₂ (λ e n. (e, n)) z.0.eta z.0.callsign) (zip_keys xs ys z.1)

-- ---- the problem of a sound situation

-- the head says what the situation does
pub record IsHeadOf (s : Situation) (h : Head) : Type 0 where
  pub fixed : s.aerodrome ≡ record s.aerodrome { table = h.table; k = h.k; objective = h.objective }
  pub horizon : h.horizon ≡ horizon s
  pub last : h.last ≡ last_of (in_landing_order (frozen_landings s))
  pub base : h.base ≡ frozen_cost s.aerodrome.objective (frozen_landings s)

module _ (s : Situation) (h : Head) (ws : List waits.Waiting) (pairs : List ℕ) (sound : IsSound s) (of : IsHeadOf s h)
    (zip : AllZip (IsWaitingOf s.closures) (by_rank (waiting s)) (map waiting_of ws)) (is : (i j : ℕ)
    → MustPrecede pairs i j ↔ IsListed (by_rank (waiting s)) i j) where
  abbrev R : List Active
  R = by_rank (waiting s)

  each_rank : length (map waiting_of ws) ≡ length R
  each_rank = AllZip-long (IsWaitingOf s.closures) R (map waiting_of ws) zip

  table_is : h.table ≡ s.aerodrome.table
  table_is = sym (ap (λ a. a.table) of.fixed)

  pub posed : IsProblemOf s (seen_problem h ws pairs)
  posed = record {
    table = table_is;
    k = sym (ap (λ (a : Aerodrome). a.k) of.fixed);
    objective = sym (ap (λ (a : Aerodrome). a.objective) of.fixed);
    horizon = of.horizon;
    last = of.last;
    base = of.base;
    flights = zip;
    predecessors = predecessors R pairs is;
    between_ranks = between R pairs (length (map waiting_of ws)) each_rank is;
  }

  long : length (map waiting_of ws) ≡ length (waiting s)
  long = each_rank ∙ rank_length (waiting s)

  good : All (λ (a : Active). IsGoodFlight a.flight) R
  good = All-permutation (λ a. IsGoodFlight a.flight) (waiting s) R (rank_permutes (waiting s))
      (All-filter is_waiting (λ a. IsGoodFlight a.flight) s.active sound.flights)

  passed_low : All (λ (a : Active). a.passed ≤ s.aerodrome.k) R
  passed_low = All-permutation (λ a. a.passed ≤ s.aerodrome.k) (waiting s) R (rank_permutes (waiting s))
      (All-filter is_waiting (λ a. a.passed ≤ s.aerodrome.k) s.active sound.passed)

  keys : map key_of (map waiting_of ws) ≡ map arrival_of R
  keys = zip_keys s.closures R _ zip

  key_at : (k : ℕ) (d : problems.Waiting) → k < length (map waiting_of ws)
      → key_of (get_or (map waiting_of ws) k d) ≡ arrival_of (get_or R k nobody)
  key_at k d lt =
      let n = each_rank in
      sym (get_or-map key_of _ k d (key_of d) lt) ∙ ap (λ l. get_or l k (key_of d)) keys
      ∙ get_or-map arrival_of R k nobody (key_of d) (omega arith)

  pub well_formed : h.k ≤ greatest_k → h.horizon ≤ latest_horizon → IsWellFormed (seen_problem h ws pairs)
  well_formed few near = record {
    table = subst IsWakeTable (sym table_is) sound.table;
    few_places = few;
    few_flights = omega (arith, long, sound.few_waiting);
    in_order = λ k d lt.
        let n = each_rank in
        ap is_lt (ap₂ first_come_cmp (key_at k d (omega arith)) (key_at (k + 1) d lt) ∙ Less-from_sorted rank_cmp R k
        (k + 1) nobody (rank_ranked (waiting s) (waiting_apart s sound.callsigns)) (omega arith) (omega arith));
    callsigns = λ i j d lt within e.
        let n = each_rank in
        apart_permutes (waiting s) R (rank_permutes (waiting s)) (waiting_apart s sound.callsigns) i j nobody lt
        (omega arith) (sym (ap (λ (p : ℕ × List ℕ). p.1) (key_at i d (omega arith))) ∙ e
        ∙ ap (λ (p : ℕ × List ℕ). p.1) (key_at j d within));
    between_ranks = posed.between_ranks;
    last_before = subst (λ o. MatchOption o ⊤ (λ l. l.0 < h.horizon)) (sym of.last)
        (subst (λ n. MatchOption (last_of (in_landing_order (frozen_landings s))) ⊤ (λ l. l.0 < n))
        (sym of.horizon) (last_low (horizon s) s.active sound.frozen_before));
    near_horizon = near;
    estimates = zip_all s.closures (λ x. IsGoodFlight x.flight) (λ w. w.eta ≤ last_second) (λ x w z g. rw z.eta g.eta) R
        (map waiting_of ws) zip good;
    weights = zip_all s.closures (λ x. IsGoodFlight x.flight) (λ w. (1 ≤ w.weight) × (w.weight ≤ 100))
        (λ x w z g. rw z.weight g.weight) R (map waiting_of ws) zip good;
    passed = zip_all s.closures (λ x. x.passed ≤ s.aerodrome.k) (λ w. w.passed ≤ h.k) (λ x w z low. let k =
        posed.k in let e = z.passed in omega (arith, low, k, e)) R (map waiting_of ws) zip passed_low;
    base =
        let b = base_low s sound in
        let e = of.base in
        let n = long in
        let m = sound.few_active in
        omega arith;
  }
