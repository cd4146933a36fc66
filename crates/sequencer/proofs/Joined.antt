-- The frozen landings joined with a list by rank: the flight of each rank stands at the place given for it, and lands
-- at the list's second for the rank.
use Rattle.std.proofs.Common.{◌≡◌, ◌≢◌, ℕ, zero, suc, ◌+◌, ◌-◌, ◌<◌, ◌≤◌, true, cond, List, [], ◌∷◌, length, get_or}
use Rattle.std.proofs.Common.{map, take, Option, Some, None, inl, inr, refl, sym, ap, ap₂, ◌∙◌, arith, count_by}
use Rattle.std.specs.Prelude.{All, IsTrue, is_none, slice_get, unwrap_or}
use Rattle.std.specs.List.{list_any, AllByRecursion}
use Rattle.std.specs.List.Sorted.{IsStrictlySortedBy}
use Rattle.std.specs.declared.cmp.Ordering.TheVariants.{Less}
use Rattle.std.specs.Ordering.{is_lt}
use Rattle.std.proofs.Math.ListN.{set}
use Rattle.std.proofs.lemmas.Bool.{cases_order, false≢true}
use Rattle.std.proofs.lemmas.List.{get_or_default, get_or_past, get_or-map, get_or-take, length-map, length-take}
use Rattle.std.proofs.lemmas.List.Sums.{sum_by-cons}
use Rattle.std.proofs.lemmas.List.Sorted.{IsPermutation-map, IsPermutation-sym, sum_by-IsPermutation, All-permutation}
use Rattle.std.proofs.lemmas.List.Elements.{All-filter}
use Rattle.std.proofs.lemmas.Option.{get_or_from_slice_get, slice_get-get_or, slice_get_within}
use Rattle.std.proofs.lemmas.Slice.Zip.{AllZip-long}
use Rattle.std.proofs.lemmas.Grind.{get_or_default_zero}
use Rattle.landing_rules.specs.Flights.{Flight, Active, Situation, Schedule, waiting, is_waiting}
use Rattle.landing_rules.specs.Rules.{arrival_cmp, first_come_cmp, rank, is_within, last_second}
use Rattle.landing_rules.specs.Problem as problems
use Rattle.landing_rules.specs.Problem.{IsProblemOf, IsWaitingOf, IsFeasibleList, by_rank, joined, joined_second}
use Rattle.landing_rules.specs.Sound.{IsSound, IsGoodFlight}
use Rattle.landing_rules.specs.shared.Counting.{Member}
use Rattle.landing_rules.specs.shared.Members.{filter_in, in_filter, member_at, member_contains, member_permutation}
use Rattle.fcfs_order.specs.shared.Sorted.{counted_at}
use Rattle.landing_joint.specs.Numbered.{nobody}
use Rattle.landing_joint.specs.RankedProblem.{no_waiting}
use Rattle.landing_joint.specs.shared.OpenDays.{open_in_days}
use Rattle.sequencer.specs.Ranked.{arrival_of, rank_cmp, AreRanked, ArePlacesByRank}
use Rattle.sequencer.proofs.Ranks.{Apart, rank_permutes, rank_length, rank_ranked, waiting_apart}
use Rattle.sequencer.proofs.ProblemOf.{zip_all}

-- ---- the rank of a flight is its place in first-come order

counts : (f : Flight) (l : List Active) → count_by (λ p. is_lt (first_come_cmp p (f.eta, f.callsign)))
    (map arrival_of l) ≡ count_by (λ g. is_lt (arrival_cmp g f)) (map (λ (b : Active). b.flight) l)
counts f [] = refl
counts f (a ∷ l) = sum_by-cons (λ p. cond {A = ℕ} (is_lt (first_come_cmp p (f.eta, f.callsign))) 1 0)
    (arrival_of a) (map arrival_of l) ∙ ap (λ n. cond {A = ℕ} (is_lt (arrival_cmp a.flight f)) 1 0 + n) (counts f l)
    ∙ sym (sum_by-cons (λ g. cond {A = ℕ} (is_lt (arrival_cmp g f)) 1 0) a.flight (map (λ b. b.flight) l))

place_is : (s : Situation) (f : Flight) → count_by (λ p. is_lt (first_come_cmp p (f.eta, f.callsign)))
    (map arrival_of (by_rank (waiting s))) ≡ rank (map (λ (b : Active). b.flight) (waiting s)) f - 1
place_is s f =
    let e = sum_by-IsPermutation (λ p. cond {A = ℕ} (is_lt (first_come_cmp p (f.eta, f.callsign))) 1 0)
    (map arrival_of _) _ (IsPermutation-map arrival_of (waiting s) (by_rank (waiting s)) (rank_permutes (waiting s))) in
    omega (arith, counts f (waiting s))

strictly : (xs : List Active) → AreRanked xs → IsStrictlySortedBy first_come_cmp (map arrival_of xs)
unfolding IsStrictlySortedBy
strictly [] s = tt
strictly (x ∷ xs) s = (each xs s.0, strictly xs s.1)
  where
    each : (ys : List Active) → AllByRecursion (λ y. rank_cmp x y ≡ Less) ys
        → AllByRecursion (λ p. first_come_cmp (arrival_of x) p ≡ Less) (map arrival_of ys)
    each [] h = tt
    each (y ∷ ys) h = (h.0, each ys h.1)

-- one second more of a list by rank changes that of no other rank
take_other : (t : List ℕ) (n k : ℕ) → k ≢ n → get_or (take n t) k 0 ≡ get_or (take (n + 1) t) k 0
take_other t n k ne = elim (cases_order k n) [
  | inl e ↦ absurd (ne e)
  | inr (inl lt) ↦ get_or-take n t k 0 lt ∙ sym (get_or-take (n + 1) t k 0 (omega arith))
  | inr (inr gt) ↦ (let a = length-take n t in let b = length-take (n + 1) t in get_or_past (take n t) k 0 (omega arith)
      ∙ sym (get_or_past (take (n + 1) t) k 0 (omega arith)))
]

-- two maps of a list that differ at one place
set_map : {X Y : Type 0} (f g : X → Y) (xs : List X) (p : ℕ) (y : Y)
    → ((i : ℕ) (d : X) → i < length xs → i ≢ p → f (get_or xs i d) ≡ g (get_or xs i d))
    → ((d : X) → p < length xs → y ≡ g (get_or xs p d)) → set (map f xs) p y ≡ map g xs
set_map f g [] p y others here = refl
set_map {X = X} {Y = Y} f g (x ∷ xs) zero y others here = ap₂ (λ z l. z ∷ l)
    (here x (omega arith)) (each xs (λ i d lt. others (suc i) d (omega arith) (omega arith)))
  where
    each : (xs : List X) → ((i : ℕ) (d : X) → i < length xs → f (get_or xs i d) ≡ g (get_or xs i d))
        → map f xs ≡ map g xs
    each [] h = refl
    each (x ∷ xs) h = ap₂ (λ z l. z ∷ l) (h 0 x (omega arith)) (each xs (λ i d lt. h (suc i) d (omega arith)))
set_map {Y = Y} f g (x ∷ xs) (suc p) y others here = ap₂ (λ z l. z ∷ l) (others 0 x (omega arith) (omega arith))
    (set_map f g xs p y (λ i d lt ne. others (suc i) d (omega arith) (omega arith)) (λ d lt. here d (omega arith)))

none_is : (o : Option ℕ) → is_none o ≡ true → o ≡ None
none_is None e = refl
none_is (Some x) e = absurd (false≢true e)

module _ (s : Situation) (apart : Apart s.active) where
  abbrev pub R : List Active
  R = by_rank (waiting s)

  abbrev pub rank_in : Active → ℕ
  rank_in a = rank (map (λ (b : Active). b.flight) (waiting s)) a.flight - 1

  pub rank_at : (n : ℕ) (a : Active) → n < length R → get_or R n a ≡ a → rank_in a ≡ n
  rank_at n a lt e =
      let long = length-map R arrival_of in
      sym (place_is s a.flight) ∙ counted_at (arrival_of a) _ n (strictly R (rank_ranked _ (waiting_apart s apart)))
      (omega arith) (get_or-map arrival_of R n a (arrival_of a) lt ∙ ap arrival_of e)

  -- a waiting flight stands at its rank
  at_rank : (a : Active) → Member a s.active → a.frozen ≡ None → (n : ℕ) → rank_in a ≡ n
      → (n < length R) × (get_or R n a ≡ a)
  at_rank a m none n is =
      let there : Member a R = member_permutation _ R a (rank_permutes (waiting s))
      (filter_in is_waiting s.active a m (ap is_none none)) in
      let c = member_contains R a there in
      let k : c.0 ≡ n = sym (rank_at c.0 a c.1 c.2) ∙ is in
      (rw k at c.1, rw k at c.2)

  pub ranked_waits : (n : ℕ) → n < length R → (get_or R n nobody).frozen ≡ None
  ranked_waits n lt =
      let a : Active = get_or R n nobody in
      let there : Member a (waiting s) = member_permutation R _ a
      (IsPermutation-sym (waiting s) R (rank_permutes (waiting s))) (member_at R n nobody lt) in
      none_is a.frozen (in_filter is_waiting s.active a there).1

  module _ (places : List ℕ) (at : ArePlacesByRank s places) where
    pub places_length : length places ≡ length R
    places_length = let a = length-map places (slice_get s.active) in let b =
        length-map R (λ x. Some x) in omega (arith, ap (length {A = Option Active}) at)

    -- the flight of a rank stands at its place
    pub placed_at : (n : ℕ) (d : Active) → n < length places
        → slice_get s.active (get_or places n 0) ≡ Some (get_or R n d)
    placed_at n d lt =
        let l = places_length in
        sym (get_or-map (slice_get s.active) places n 0 (Some d) lt) ∙ ap (λ l. get_or l n (Some d)) at
        ∙ get_or-map (λ x. Some x) R n d (Some d) (omega arith)

    module _ (t : Schedule) (n : ℕ) (lt : n < length places) where
      abbrev place : ℕ
      place = get_or places n 0

      flight_here : (d : Active) → get_or s.active place d ≡ get_or R n nobody
      flight_here d = get_or_from_slice_get s.active place _ d (placed_at n nobody lt)

      in_ranks : n < length R
      in_ranks = omega (arith, places_length)

      others : (i : ℕ) (d : Active) → i < length s.active → i ≢ place
          → joined_second s (take n t) (get_or s.active i d) ≡ joined_second s (take (n + 1) t) (get_or s.active i d)
      others i d within ne = go a.frozen refl
        where
          a : Active
          a = get_or s.active i d

          -- two flights of one rank are one
          other_rank : a.frozen ≡ None → rank_in a ≡ n → ⊥
          other_rank none e =
              let stands = (at_rank a (member_at s.active i d within) none n e).1 in
              let same : get_or s.active place d ≡ a = flight_here d ∙ get_or_default R n nobody a in_ranks ∙ stands in
              let far = slice_get_within s.active place _ (placed_at n nobody lt) in
              let names : (get_or s.active place d).flight.callsign ≡ a.flight.callsign =
              ap (λ b. b.flight.callsign) same in
              elim (cases_order i place) [
                | inl q ↦ ne q
                | inr (inl low) ↦ apart i place d low far (sym names)
                | inr (inr high) ↦ apart place i d high within names
              ]

          go : (o : Option ℕ) → a.frozen ≡ o → joined_second s (take n t) a ≡ joined_second s (take (n + 1) t) a
          go (Some u) e = ap (λ o. unwrap_or o (get_or (take n t) (rank_in a) 0)) e
              ∙ sym (ap (λ o. unwrap_or o (get_or (take (n + 1) t) (rank_in a) 0)) e)
          go None e = ap (unwrap_or a.frozen) (take_other t n (rank_in a) (other_rank e))

      here : (d : Active) → place < length s.active
          → get_or t n 0 ≡ joined_second s (take (n + 1) t) (get_or s.active place d)
      here d within =
          let b : Active = get_or R n nobody in
          let r : rank_in b ≡ n = rank_at n b in_ranks (get_or_default R n b nobody in_ranks) in
          let second : joined_second s (take (n + 1) t) b ≡ get_or t n 0 =
          ap (λ o. unwrap_or o (get_or (take (n + 1) t) (rank_in b) 0)) (ranked_waits n in_ranks)
          ∙ ap (λ k. get_or (take (n + 1) t) k 0) r ∙ get_or-take (n + 1) t n 0 (omega arith) in
          sym second ∙ ap (joined_second s (take (n + 1) t)) (sym (flight_here d))

      -- the second of one rank more
      pub joined_more : set (joined s (take n t)) place (get_or t n 0) ≡ joined s (take (n + 1) t)
      joined_more = set_map _ _ s.active place _ others here

pub placed_count : (s : Situation) (places : List ℕ) → IsSound s → ArePlacesByRank s places
    → length places ≡ length (waiting s)
placed_count s places sound at = places_length s sound.callsigns places at ∙ rank_length (waiting s)

-- ---- a feasible list

module _ (s : Situation) (p : problems.Problem) (sound : IsSound s) (of : IsProblemOf s p)
    (t : Schedule) (keeps : IsFeasibleList p t) where
  pub list_length : length t ≡ length (waiting s)
  list_length =
      let l = AllZip-long (IsWaitingOf s.closures) (by_rank (waiting s)) p.flights of.flights in
      let n = rank_length (waiting s) in
      omega (arith, keeps.one_each)

  good : All (λ (a : Active). IsGoodFlight a.flight) (by_rank (waiting s))
  good = All-permutation (λ a. IsGoodFlight a.flight) (waiting s) (by_rank (waiting s))
      (rank_permutes (waiting s)) (All-filter is_waiting (λ a. IsGoodFlight a.flight) s.active sound.flights)

  pub list_in_days : All (λ u. u ≤ last_second) t
  list_in_days k d lt =
      let e = keeps.one_each in
      let within : k < length p.flights = omega arith in
      let w = get_or p.flights k no_waiting in
      let days : (u : ℕ) → IsTrue (list_any (is_within u) w.open_spans) → u ≤ last_second = zip_all s.closures
      (λ a. IsGoodFlight a.flight) (λ w. (u : ℕ) → IsTrue (list_any (is_within u) w.open_spans)
      → u ≤ last_second) (λ a w z g u o. open_in_days _ s.closures u g.windows.spans (sym (z.open_spans.same u) ∙ o)) _
      p.flights of.flights good k no_waiting within in
      let here = days _ (keeps.open_seconds k w (slice_get-get_or p.flights k no_waiting within)) in
      omega (arith, get_or_default_zero t k d lt)
