-- The frozen landings stand first in landing order, the waiting ones behind them; and what an event freezes, it freezes
-- where the plan shown lands it.
use Rattle.std.specs.Prelude.{◌≢◌, All, MatchOption, option_map, is_none, nat_lt, slice_get, unwrap_or}
use Rattle.std.proofs.lemmas.List.Kept.{AllPairs-cons}
use Rattle.landing_rules.specs.shared.Members.{all_from, all_at, cases_option, in_filter, in_frozen, in_map}
use Rattle.landing_rules.specs.shared.Members.{member_contains, member_permutation}
use Rattle.std.proofs.Common.{◌≡◌, ℕ, zero, suc, ◌+◌, ◌<◌, ◌≤◌, Bool, true, false, cond, not, List, [], ◌∷◌, ◌++◌}
use Rattle.std.proofs.Common.{length, get_or, map, filter, take, Option, Some, None, inl, inr, ◌⊎◌, refl, sym, ap, ap₂}
use Rattle.std.proofs.Common.{◌∙◌, arith}
use Rattle.std.specs.List.{cons_option}
use Rattle.std.specs.List.Sorted.{IsPermutation}
use Rattle.std.proofs.lemmas.Bool.{cases_Bool, false≢true}
use Rattle.std.proofs.lemmas.List.{append-nil, get_or_default, get_or-map, length-map, map-append, take-map}
use Rattle.std.proofs.lemmas.List.Elements.{All-head, All-tail, filter_map-append}
use Rattle.std.proofs.lemmas.List.Sorted.{IsPermutation-append, IsPermutation-filter_both, IsPermutation-map}
use Rattle.std.proofs.lemmas.List.Sorted.{IsPermutation-sym, IsPermutation-trans, length_permutation}
use Rattle.std.proofs.lemmas.Option.{same_Some}
use Rattle.std.proofs.lemmas.Grind.{same_number_lists}
use Rattle.std.proofs.Math.Bool.{not-not}
use Rattle.std.proofs.Math.Seq.{take-append_seam}
use Rattle.wake_table.specs.Table.{separation}
use Rattle.landing_rules.specs.Flights.{Active, Aerodrome, Callsign, Landing, Schedule, Situation, horizon}
use Rattle.landing_rules.specs.Flights.{is_waiting, landing, landings, waiting}
use Rattle.landing_rules.specs.Rules.{IsFeasible, IsFrozenKept, waits}
use Rattle.landing_rules.specs.Events.{Event, Revision, Revise, Cancel, Add, Clock, after_clock, revise, revised}
use Rattle.landing_rules.specs.Events.{freezes, frozen_landings, in_landing_order, insert_landing, named, newcomer}
use Rattle.landing_rules.specs.Events.{refusal, situation_after}
use Rattle.landing_rules.specs.Problem.{by_rank, joined, joined_second}
use Rattle.landing_rules.specs.Sound.{IsSound}
use Rattle.landing_rules.specs.Text.{ShownLanding, shown_landing, shown_plan}
use Rattle.landing_rules.specs.shared.Counting.{Member}
use Rattle.landing_joint.specs.ClockLaws.{ClockKeepsPlanLaw}
use Rattle.landing_joint.specs.Numbered.{nobody}
use Rattle.landing_joint.specs.shared.Events.{named_waits}
use Rattle.landing_joint.specs.shared.LandingsInOrder.{order_member, order_permutes, order_rises}
use Rattle.sequencer.specs.Frozen.{frozen_of, frozen_shown, frozen_there, BeginsWithFrozen}
use Rattle.sequencer.proofs.Ranks.{Apart, rank_length, rank_permutes}
use Rattle.sequencer.proofs.Rising.{Climbs, climbs_map, once, one_order}
use Rattle.sequencer.specs.Ranked.{ArePlacesByRank}
use Rattle.sequencer.proofs.Joined.{places_length, rank_in, rank_at, ranked_waits}
use Rattle.sequencer.proofs.ShownOrder.{in_order}

abbrev second : ShownLanding → ℕ
second l = l.second

-- ---- the frozen landings in landing order

apart_frozen : (xs : List Active) → Apart xs → (i j : ℕ) (d : Landing) → i < j → j < length (frozen_of xs)
    → (get_or (frozen_of xs) i d).flight.callsign ≡ (get_or (frozen_of xs) j d).flight.callsign → ⊥
apart_frozen [] apart = λ i j d lt within e. absurd (omega arith)
apart_frozen (x ∷ xs) apart =
    let rest = apart_frozen xs (λ i j d lt within. apart (suc i) (suc j) d (omega arith) (omega arith)) in
    elim (cases_option x.frozen) [
      | inl none ↦ rw none rest
      | inr t ↦ rw t.1 (AllPairs-cons (λ (f g : Landing). f.flight.callsign ≢ g.flight.callsign) _ (frozen_of xs)
          (all_from (λ (g : Landing). x.flight.callsign ≢ g.flight.callsign) (frozen_of xs) (λ g m e.
          let r = in_frozen xs g m in
          let c = member_contains xs r.0 r.2 in
          apart 0 (suc c.0) r.0 (omega arith) (omega (arith, c.1)) (e ∙ ap (λ f. f.flight.callsign) r.4
          ∙ ap (λ a. a.flight.callsign) (sym c.2)))) rest)
    ]

-- no two land at one second
pub seconds_apart : (s : Situation) → IsSound s → (i j : ℕ) (d : Landing) → i < j → j < length (frozen_landings s)
    → (get_or (frozen_landings s) i d).second ≡ (get_or (frozen_landings s) j d).second → ⊥
seconds_apart s sound i j d lt within same =
    let f : Landing = get_or _ i d in
    let g : Landing = get_or _ j d in
    let apart : f.second + separation s.aerodrome.table f.flight.category g.flight.category ≤ g.second =
    sound.frozen_separated i d (omega arith) j d (omega arith)
    (apart_frozen s.active sound.callsigns i j d lt (omega arith)) (omega arith) in
    omega (arith, (sound.table.entries f.flight.category g.flight.category).0)

-- in any order in which their seconds do not fall, the frozen landings are in landing order
pub frozen_in_order : (s : Situation) → IsSound s → (sorted : List ShownLanding)
    → IsPermutation (map shown_landing (frozen_landings s)) sorted → Climbs second sorted → sorted ≡ frozen_shown s
frozen_in_order s sound sorted permuted climbs = one_order second (map shown_landing fs) sorted (frozen_shown s)
    (once (map second (map shown_landing fs)) differ) permuted (IsPermutation-map shown_landing fs (in_landing_order fs)
    (order_permutes fs)) climbs (climbs_map shown_landing second (in_landing_order fs) (order_rises fs))
  where
    fs : List Landing
    fs = frozen_landings s

    at : (k : ℕ) (d : Landing) → k < length fs → get_or (map second (map shown_landing fs)) k 0 ≡ (get_or fs k d).second
    at k d lt = let n = length-map fs shown_landing in get_or-map second _ k
        (shown_landing d) 0 (omega arith) ∙ ap second (get_or-map shown_landing fs k d _ lt)

    differ : (i j : ℕ) → i < j → j < length (map second (map shown_landing fs))
        → get_or (map second (map shown_landing fs)) i 0 ≡ get_or (map second (map shown_landing fs)) j 0 → ⊥
    differ i j lt within e =
        let n = length-map fs shown_landing in
        let m = length-map (map shown_landing fs) second in
        let d : Landing = landing nobody 0 in
        seconds_apart s sound i j d lt (omega arith) (sym (at i d (omega arith)) ∙ e ∙ at j d (omega arith))

-- ---- and behind them the waiting ones

in_append : {X : Type 0} (xs ys : List X) (x : X) → Member x (xs ++ ys) → Member x xs ⊎ Member x ys
in_append [] ys x m = inr m
in_append (z ∷ xs) ys x (inl e) = inl (inl e)
in_append (z ∷ xs) ys x (inr m) = elim (in_append xs ys x m) [ inl k ↦ inl (inr k) | inr k ↦ inr k ]

climbs_append : {X : Type 0} (key : X → ℕ) (xs ys : List X) → Climbs key xs → Climbs key ys
    → ((x y : X) → Member x xs → Member y ys → key x ≤ key y) → Climbs key (xs ++ ys)
climbs_append key [] ys c d h = d
climbs_append key (x ∷ xs) ys c d h = (
  λ y m. elim (in_append xs ys y m) [ inl k ↦ c.0 y k | inr k ↦ h x y (inl refl) k ],
  climbs_append key xs ys c.1 d (λ z y k m. h z y (inr k) m),
)

-- a schedule that keeps the frozen seconds lands the frozen flights at them
kept_landings : (h : ℕ) (xs : List Active) (ts : Schedule) → length ts ≡ length xs
    → All (IsFrozenKept h) (landings xs ts) → filter (λ f. not (waits f)) (landings xs ts) ≡ frozen_of xs
kept_landings h [] [] e keeps = refl
kept_landings h [] (t ∷ ts) e keeps = absurd (omega arith)
kept_landings h (x ∷ xs) [] e keeps = absurd (omega arith)
kept_landings h (x ∷ xs) (t ∷ ts) e keeps = go x.frozen (All-head (IsFrozenKept h) (landing x t) (landings xs ts) keeps)
    (kept_landings h xs ts (omega arith) (All-tail (IsFrozenKept h) (landing x t) (landings xs ts) keeps))
  where
    go : (o : Option ℕ) → MatchOption o (h ≤ t) (λ u. t ≡ u) → filter (λ f. not (waits f)) (landings xs ts)
        ≡ frozen_of xs → cond (not (is_none o)) (landing x t ∷ filter (λ f. not (waits f)) (landings xs ts))
        (filter (λ f. not (waits f)) (landings xs ts)) ≡ cons_option (option_map (landing x) o) (frozen_of xs)
    go None k ih = ih
    go (Some u) k ih = ap₂ (λ f fs. f ∷ fs) (ap (landing x) k) ih

length_frozen : (xs : List Active) → length (frozen_of xs) + length (filter is_waiting xs) ≡ length xs
length_frozen [] = refl
length_frozen (x ∷ xs) = let rest = length_frozen xs in
    elim (cases_option x.frozen) [ inl e ↦ rw e (omega (arith, rest)) | inr e ↦ rw e.1 (omega (arith, rest)) ]

module _ (s : Situation) (t : Schedule) (sound : IsSound s) (keeps : IsFeasible s t) where
  abbrev all : List Landing
  all = landings s.active t

  before_waiting : (waiting : List ShownLanding) → IsPermutation (map shown_landing (filter waits all)) waiting
      → (x y : ShownLanding) → Member x (frozen_shown s) → Member y waiting → x.second ≤ y.second
  before_waiting waiting p x y m n =
      let r = in_map shown_landing _ x m in
      let early = all_at (λ f. f.second < horizon s) _ sound.frozen_before r.0 (order_member r.0 _ r.1) in
      let q = in_map shown_landing _ y (member_permutation waiting _ y
      (IsPermutation-sym (map shown_landing _) waiting p) n) in
      let w = in_filter waits all q.0 q.1 in
      let late : horizon s ≤ q.0.second = late_of q.0.frozen q.0.second w.1
      (all_at (IsFrozenKept (horizon s)) all keeps.1.frozen_kept q.0 w.0) in
      let a : x.second ≡ r.0.second = ap second r.2 in
      omega (arith, ap second q.2)
    where
      late_of : (o : Option ℕ) (u : ℕ) → is_none o ≡ true → MatchOption o (horizon s ≤ u) (λ v. u ≡ v) → horizon s ≤ u
      late_of None u e k = k
      late_of (Some v) u e k = absurd (false≢true e)

  -- the plan of a feasible schedule
  pub front_first : (waiting : List ShownLanding) → IsPermutation (map shown_landing (filter waits all)) waiting
      → Climbs second waiting → frozen_shown s ++ waiting ≡ (shown_plan s t).landings
  front_first waiting p climbs =
      let fs = frozen_landings s in
      let held : filter (λ f. not (waits f)) all ≡ fs = kept_landings (horizon s) s.active t keeps.0
      keeps.1.frozen_kept in
      let parts : IsPermutation all (filter (λ f. not (waits f)) all ++ filter waits all) = IsPermutation-filter_both
      (λ f. not (waits f)) waits (λ f. sym (not-not (waits f))) all in
      let shown : IsPermutation (map shown_landing all) (map shown_landing fs ++ map shown_landing (filter waits all)) =
      rw (ap (λ fs. map shown_landing (fs ++ filter waits all)) held ∙ map-append shown_landing fs _) at
      (IsPermutation-map shown_landing all (filter (λ f. not (waits f)) all ++ filter waits all) parts) in
      let each : IsPermutation (map shown_landing fs ++ map shown_landing (filter waits all))
      (frozen_shown s ++ waiting) =
      IsPermutation-append (map shown_landing fs) (frozen_shown s) (map shown_landing _) waiting
      (IsPermutation-map shown_landing fs (in_landing_order fs) (order_permutes fs)) p in
      in_order s t sound keeps _ _ refl
      (IsPermutation-trans (map shown_landing all) (map shown_landing fs ++ map shown_landing _)
      (frozen_shown s ++ waiting) shown each) (climbs_append second _ waiting
      (climbs_map shown_landing second _ (order_rises fs)) climbs (before_waiting waiting p))

  -- its first landings are the frozen ones
  front_is : take (length (frozen_shown s)) (shown_plan s t).landings ≡ frozen_shown s
  front_is =
      let ws = filter waits all in
      let behind = map shown_landing _ in
      let whole = front_first behind (IsPermutation-map shown_landing ws (in_landing_order ws) (order_permutes ws))
      (climbs_map shown_landing second _ (order_rises ws)) in
      ap (take (length (frozen_shown s))) (sym whole) ∙ take-append_seam _ behind

-- how many they are
pub frozen_count : (s : Situation) → length (frozen_shown s) + length (waiting s) ≡ length s.active
frozen_count s =
    let fs = frozen_landings s in
    let a = length-map (in_landing_order fs) shown_landing in
    let b = length_permutation fs (in_landing_order fs) (order_permutes fs) in
    omega (arith, length_frozen s.active)

pub frozen_and_placed : (s : Situation) (places : List ℕ) → IsSound s → ArePlacesByRank s places
    → length (frozen_shown s) + length places ≡ length s.active
frozen_and_placed s places sound at = let a = places_length s sound.callsigns places at in let b =
    rank_length (waiting s) in omega (arith, frozen_count s)

-- ---- the waiting landings of a list by rank

landings_of : (f : Active → ℕ) (xs : List Active) → landings xs (map f xs) ≡ map (λ a. landing a (f a)) xs
landings_of f [] = refl
landings_of f (x ∷ xs) = ap (λ l. landing x (f x) ∷ l) (landings_of f xs)

waiting_landings : (f : Active → ℕ) (xs : List Active)
    → filter waits (map (λ a. landing a (f a)) xs) ≡ map (λ a. landing a (f a)) (filter is_waiting xs)
waiting_landings f [] = refl
waiting_landings f (x ∷ xs) = elim (cases_Bool (is_waiting x)) [
  | inl e ↦ rw e (ap (λ l. landing x (f x) ∷ l) (waiting_landings f xs))
  | inr e ↦ rw e (waiting_landings f xs)
]

ranked_seconds : (s : Situation) (u : Schedule) → Apart s.active → length u ≡ length (waiting s)
    → map (joined_second s u) (by_rank (waiting s)) ≡ u
ranked_seconds s u apart e =
    let R : List Active = by_rank (waiting s) in
    let n = rank_length (waiting s) in
    let m = length-map R (joined_second s u) in
    same_number_lists (map (joined_second s u) R) u (omega arith) (λ k lt.
    let within : k < length R = omega arith in
    get_or-map (joined_second s u) R k nobody 0 within ∙ ap (λ o. unwrap_or o
    (get_or u (rank_in s apart (get_or R k nobody)) 0)) (ranked_waits s apart k within) ∙ ap (λ r. get_or u r 0)
    (rank_at s apart k (get_or R k nobody) within (get_or_default R k (get_or R k nobody) nobody within)))

-- those of the waiting flights where the seconds by rank are joined with the frozen ones
pub waiting_shown : (s : Situation) (u : Schedule) → IsSound s → length u ≡ length (waiting s)
    → IsPermutation (map shown_landing (filter waits (landings s.active (joined s u))))
    (map shown_landing (landings (by_rank (waiting s)) u))
waiting_shown s u sound e =
    let R : List Active = by_rank (waiting s) in
    let f : Active → ℕ = joined_second s u in
    let here : filter waits (landings s.active (joined s u)) ≡ map (λ a. landing a (f a)) (waiting s) =
    ap (filter waits) (landings_of f s.active) ∙ waiting_landings f s.active in
    let there : map (λ a. landing a (f a)) R ≡ landings R u =
    sym (landings_of f R) ∙ ap (landings R) (ranked_seconds s u sound.callsigns e) in
    rw here (rw there at (IsPermutation-map shown_landing (map (λ a. landing a (f a)) _) (map (λ a. landing a (f a)) R)
    (IsPermutation-map (λ a. landing a (f a)) (waiting s) R (rank_permutes (waiting s)))))

-- ---- no event but a clock moves a frozen landing

frozen_revised : (c : Callsign) (r : Revision) (xs : List Active)
    → ((a : Active) → Member a xs → named c a ≡ true → a.frozen ≡ None)
    → frozen_of (map (revise c r) xs) ≡ frozen_of xs
frozen_revised c r [] h = refl
frozen_revised c r (x ∷ xs) h = ap₂ (λ o fs. cons_option o fs) here (frozen_revised c r xs (λ a m. h a (inr m)))
  where
    set_anew : Active
    set_anew = record x { flight = revised r x.flight }

    here : option_map (landing (revise c r x)) (revise c r x).frozen ≡ option_map (landing x) x.frozen
    here = elim (cases_Bool (named c x)) [
      | inl e ↦ (let none = h x (inl refl) e in rw e (ap (option_map (landing set_anew)) none
          ∙ sym (ap (option_map (landing x)) none)))
      | inr e ↦ rw e refl
    ]

frozen_cancelled : (c : Callsign) (xs : List Active) → ((a : Active) → Member a xs → named c a ≡ true → a.frozen ≡ None)
    → frozen_of (filter (λ a. not (named c a)) xs) ≡ frozen_of xs
frozen_cancelled c [] h = refl
frozen_cancelled c (x ∷ xs) h =
    let rest = frozen_cancelled c xs (λ a m. h a (inr m)) in
    elim (cases_Bool (named c x)) [
      | inl e ↦ rw e (rest ∙ sym (ap (λ o. cons_option (option_map (landing x) o) (frozen_of xs)) (h x (inl refl) e)))
      | inr e ↦ rw e (ap (cons_option (option_map (landing x) x.frozen)) rest)
    ]

-- ---- a landing, frozen where it stands

pub there_at : (ls : List ShownLanding) (i : ℕ) (l : ShownLanding) → slice_get ls i ≡ Some l
    → slice_get (map frozen_there ls) i ≡ Some (frozen_there l)
there_at [] i l e = let w : None ≡ Some l = e in absurd (cc)
there_at (x ∷ xs) zero l e = ap (λ y. Some (frozen_there y)) (same_Some x l e)
there_at (x ∷ xs) (suc i) l e = there_at xs i l e

-- a frozen one stays as it is
there_still : (fs : List Landing) → ((f : Landing) → Member f fs → waits f ≡ false)
    → map frozen_there (map shown_landing fs) ≡ map shown_landing fs
there_still [] h = refl
there_still (f ∷ fs) h = ap₂ (λ l ls. l ∷ ls)
    (ap (λ b. (let l : ShownLanding = record { callsign = f.flight.callsign; second = f.second; frozen = b } in l))
    (sym (ap not (h f (inl refl))))) (there_still fs (λ g m. h g (inr m)))

frozen_still : (s : Situation) → map frozen_there (frozen_shown s) ≡ frozen_shown s
frozen_still s = there_still _ stands
  where
    stands : (f : Landing) → Member f (in_landing_order (frozen_landings s)) → waits f ≡ false
    stands f m = let r = in_frozen s.active f (order_member f _ m) in
        ap (λ g. waits g) r.4 ∙ ap is_none r.3

begins : (s : Situation) (t : Schedule) → IsSound s → IsFeasible s t → BeginsWithFrozen s (shown_plan s t)
begins s t sound keeps = ap (map frozen_there) (front_is s t sound keeps) ∙ frozen_still s

-- ---- what a clock event freezes, it freezes where the plan lands it

module _ (g : Landing → Landing) (same : (f : Landing) → (g f).second ≡ f.second) where
  insert_map : (f : Landing) (fs : List Landing) → insert_landing (g f) (map g fs) ≡ map g (insert_landing f fs)
  insert_map f [] = refl
  insert_map f (x ∷ xs) = ap₂ (λ a b. cond (nat_lt a b) (g x ∷ insert_landing (g f) (map g xs)) (g f ∷ g x ∷ map g xs))
      (same x) (same f) ∙ go (nat_lt x.second f.second) (insert_map f xs)
    where
      go : (b : Bool) → insert_landing (g f) (map g xs) ≡ map g (insert_landing f xs) →
          cond b (g x ∷ insert_landing (g f) (map g xs)) (g f ∷ g x ∷ map g xs) ≡ map g
          (cond b (x ∷ insert_landing f xs) (f ∷ x ∷ xs))
      go true ih = ap (λ l. g x ∷ l) ih
      go false ih = refl

  order_map : (fs : List Landing) → in_landing_order (map g fs) ≡ map g (in_landing_order fs)
  order_map [] = refl
  order_map (f ∷ fs) = ap (insert_landing (g f)) (order_map fs) ∙ insert_map f _

  there_map : ((f : Landing) → (g f).flight.callsign ≡ f.flight.callsign) → (fs : List Landing)
      → map frozen_there (map shown_landing (map g fs)) ≡ map frozen_there (map shown_landing fs)
  there_map names [] = refl
  there_map names (f ∷ fs) = ap₂ (λ l ls. l ∷ ls)
      (ap₂ (λ c n. (let l : ShownLanding = record { callsign = c; second = n; frozen = true } in l))
      (names f) (same f)) (there_map names fs)

landings_after : (g : Landing → Active) (xs : List Active) (ts : Schedule)
    → landings (map g (landings xs ts)) ts ≡ map (λ f. landing (g f) f.second) (landings xs ts)
landings_after g [] [] = refl
landings_after g [] (t ∷ ts) = refl
landings_after g (x ∷ xs) [] = refl
landings_after g (x ∷ xs) (t ∷ ts) = ap (λ l. landing (g (landing x t)) t ∷ l) (landings_after g xs ts)

same_name : (a : Aerodrome) (h : ℕ) (all : List Landing) (f : Landing)
    → (after_clock a h all f).flight.callsign ≡ f.flight.callsign
same_name a h all f = elim (cases_Bool (freezes h f)) [
  | inl e ↦ rw e refl
  | inr e ↦ elim (cases_Bool (waits f)) [ inl w ↦ rw (e, w) refl | inr w ↦ rw (e, w) refl ]
]

clock_begins : ClockKeepsPlanLaw → (s : Situation) (t : Schedule) (now : ℕ) → IsSound s → IsFeasible s t
    → refusal s (Clock now) ≡ None → IsSound (situation_after s (Some t) (Clock now)) →
    BeginsWithFrozen (situation_after s (Some t) (Clock now)) (shown_plan s t)
clock_begins law s t now sound keeps ok next_sound =
    let next = situation_after s (Some t) (Clock now) in
    let h = now + s.aerodrome.freeze in
    let all = landings s.active t in
    let g : Landing → Landing = λ f. landing (after_clock s.aerodrome h all f) f.second in
    let n = length (frozen_shown next) in
    let same : map frozen_there (shown_plan next t).landings ≡ map frozen_there (shown_plan s t).landings =
    ap (λ fs. map frozen_there (map shown_landing (in_landing_order fs)))
    (landings_after (after_clock s.aerodrome h all) s.active t)
    ∙ ap (λ fs. map frozen_there (map shown_landing fs)) (order_map g (λ f. refl) all)
    ∙ there_map g (λ f. refl) (same_name s.aerodrome h all) (in_landing_order all) in
    sym (take-map frozen_there n (shown_plan s t).landings) ∙ ap (take n) (sym same)
    ∙ take-map frozen_there n (shown_plan next t).landings
    ∙ begins next t next_sound (law s t now sound keeps ok).feasible

-- no other event moves a frozen landing, or freezes one more
still : (s next : Situation) (t : Schedule) → frozen_landings next ≡ frozen_landings s
    → BeginsWithFrozen s (shown_plan s t) → BeginsWithFrozen next (shown_plan s t)
still s next t same h = rw same h

-- the plan shown begins with the frozen landings of the next situation
pub next_begins : ClockKeepsPlanLaw → (s : Situation) (t : Schedule) (e : Event) → IsSound s
    → IsFeasible s t → refusal s e ≡ None → IsSound (situation_after s (Some t) e) →
    BeginsWithFrozen (situation_after s (Some t) e) (shown_plan s t)
next_begins law s t (Revise c r) sound keeps ok next = still s (record s { active = map (revise c r) s.active }) t
    (frozen_revised c r s.active (named_waits s c sound ok)) (begins s t sound keeps)
next_begins law s t (Cancel c) sound keeps ok next = still s
    (record s { active = filter (λ a. not (named c a)) s.active }) t
    (frozen_cancelled c s.active (named_waits s c sound ok)) (begins s t sound keeps)
next_begins law s t (Add f) sound keeps ok next = still s (record s { active = s.active ++ newcomer f ∷ [] }) t
    (filter_map-append (λ a. option_map _ a.frozen) s.active (newcomer f ∷ []) ∙ append-nil (frozen_landings s))
    (begins s t sound keeps)
next_begins law s t (Clock now) sound keeps ok next = clock_begins law s t now sound keeps ok next
next_begins law s t e sound keeps ok next = begins s t sound keeps
