-- A clock event keeps the plan feasible.
use Rattle.std.proofs.Common.{◌≡◌, ℕ, suc, ◌+◌, ◌-◌, ◌<◌, ◌≤◌, ◌⊎◌, inl, inr, min, List, [], ◌∷◌, length, map}
use Rattle.std.proofs.Common.{filter, cond, Bool, true, false, not, ◌&&◌, nat_le, nat_lt, count_by, unwrap_or, zero-le}
use Rattle.std.proofs.Common.{arith, refl, sym, ap, ap₂, subst, ◌∙◌}
use Rattle.std.specs.Prelude.{All, IsTrue, Option, Some, None, is_none}
use Rattle.std.proofs.lemmas.Bool.{cases_lt, cases_Bool, and_parts, lt-ltb, ltb-true, false≢true, false_from_ne_true}
use Rattle.std.specs.Ordering.{is_lt}
use Rattle.wake_table.specs.Table.{separation}
use Rattle.landing_rules.specs.Flights.{Flight, Active, Situation, Schedule, Landing, landing, landings, waiting}
use Rattle.landing_rules.specs.Flights.{horizon, horizon_after}
use Rattle.landing_rules.specs.Rules.{last_second, is_open, lists, arrival_cmp, ArePairSeparated, IsPairInPrecedence}
use Rattle.landing_rules.specs.Rules.{objective, IsFeasible}
use Rattle.landing_rules.specs.Events.{Clock, frozen_landings, freezes, after_clock, clock_back}
use Rattle.landing_rules.specs.Events.{situation_after}
use Rattle.landing_rules.specs.Sound.{IsGoodFlight, ListsNone, IsSound}
use Rattle.cps_theory.specs.RankLists.{In, numbers_from}
use Rattle.cps_theory.specs.Freeze.{rank_in, place_in, staying_of, overtook}
use Rattle.cps_theory.specs.NumberedSituation as numbers
use Rattle.cps_theory.specs.laws.Members.{in_filter, filter_in}
use Rattle.cps_theory.specs.laws.ShiftAfterFreeze.{stays_shifted}
use Rattle.landing_joint.specs.Numbered.{nobody, numbered, second_of, numbers_of, waits_at, comes_before}
use Rattle.landing_joint.specs.Numbered.{numbered_situation}
use Rattle.landing_joint.specs.ClockLaws.{ClockKeepsPlanLaw, ClockShowsPlanLaw, ClockKeepsSoundLaw}
use Rattle.landing_joint.proofs.Numbered.{landing_at, landings_are}
use Rattle.landing_joint.proofs.Joint.{comes_is, among, all_among, feasible_numbered, numbered_feasible, sound_numbered}
use Rattle.landing_joint.proofs.Joint.{first_come, some_of, active_are, list_frozen, callsigns_differ, passed_low}
use Rattle.cps_theory.specs.laws.NumberedLists.{count_by_map, count_by_agree, map_map, filter_map_is, at_all}
use Rattle.cps_theory.specs.laws.NumberedLists.{in_numbers, numbers_in}
use Rattle.std.proofs.lemmas.List.{length-map, get_or_default}
use Rattle.landing_joint.specs.shared.FirstBestLists.{numbers_get, numbers_long}
use Rattle.landing_joint.specs.shared.BestLists.{sum_map}
use Rattle.cps_theory.specs.laws.WholeObjective.{sum_agree}
use Rattle.landing_rules.specs.shared.Members.{fewer_kept}

-- ---- lists

filter_agree : (p q : ℕ → Bool) (xs : List ℕ) → ((x : ℕ) → In x xs → p x ≡ q x) → filter p xs ≡ filter q xs
filter_agree p q [] h = refl
filter_agree p q (x ∷ xs) h = ap₂ (λ b l. cond b (x ∷ l) l) (h x (inl refl)) (filter_agree p q xs (λ y i. h y (inr i)))

filter_twice : (p q : ℕ → Bool) (xs : List ℕ) → filter p (filter q xs) ≡ filter (λ x. q x && p x) xs
filter_twice p q [] = refl
filter_twice p q (x ∷ xs) = grind (arith, cases_Bool, filter_twice p q xs)

-- what the clock makes of a landing: of its flight, its second, how many passed it before and after, whether it is
-- before the horizon, and whether counts are carried
pub record Froze (fl : Flight) (fr : Option ℕ) (pa sec m : ℕ) (d c : Bool) (a : Active) : Type 0 where
  pub flight : a.flight ≡ fl
  pub waits : is_none a.frozen ≡ (is_none fr && not d)
  pub second : is_none a.frozen ≡ false → is_none fr ≡ true → a.frozen ≡ Some sec
  pub was : is_none fr ≡ false → a.frozen ≡ fr
  pub passed : (a.passed ≡ pa) ⊎ ((a.passed ≡ 0) ⊎ ((c ≡ true) × (a.passed ≡ m)))
  pub counted : c ≡ true → is_none fr ≡ true → d ≡ false → a.passed ≡ m

froze : (fl : Flight) (fr : Option ℕ) (pa sec m : ℕ) (d c : Bool)
    → Froze fl fr pa sec m d c (cond (is_none fr && d) (record { flight = fl; frozen = Some sec; passed = 0 })
    (cond (is_none fr) (record { flight = fl; frozen = None; passed = cond c m pa })
    (record { flight = fl; frozen = fr; passed = pa })))
froze fl fr pa sec m d c = grind (arith, false≢true)

module _ (s : Situation) (sound : IsSound s) (t : Schedule) (f : IsFeasible s t) (now : ℕ)
    (forth : horizon s ≤ now + s.aerodrome.freeze) where
  abbrev h : ℕ
  h = now + s.aerodrome.freeze

  abbrev all : List Landing
  all = landings s.active t

  abbrev after : List Active
  after = map (after_clock s.aerodrome h all) all

  abbrev changed : Situation
  changed = situation_after s (Some t) (Clock now)

  abbrev ns : numbers.NumberedSituation
  ns = numbered_situation s

  after_is : after ≡ map (λ i. after_clock s.aerodrome h all (landing_at s.active t i)) (numbers_of s.active)
  after_is = ap (map _) (landings_are _ t f.0) ∙ map_map _ _ _

  pub length_after : length after ≡ length s.active
  length_after = ap length after_is ∙ numbers_long _ 0 _

  -- so the numbers stay
  pub numbers_after : numbers_of after ≡ numbers_of s.active
  numbers_after = ap (numbers_from 0) length_after

  abbrev count_passing : ℕ → ℕ
  count_passing i = count_by (λ (g : Landing). is_lt (arrival_cmp (numbered s.active i).flight g.flight))
      (filter (freezes h) all)

  pub at_after : (i : ℕ) → In i (numbers_of s.active)
      → Froze (numbered s.active i).flight (numbered s.active i).frozen (numbered s.active i).passed
      (second_of t i) (min s.aerodrome.k ((numbered s.active i).passed + count_passing i))
      (nat_lt (second_of t i) h) s.aerodrome.carry (numbered after i)
  at_after i m =
      let e =
      ap (λ l. numbered l i) after_is ∙ numbers_get _ _ 0
      (length s.active) i (omega (arith, (in_numbers 0 _ i m).1)) ∙ ap
      (λ j. after_clock s.aerodrome h all (landing_at s.active t j)) (omega arith) in
      rw e (froze _ _ _ _ _ _ _)

  -- those that wait after it are those that stay
  waits_after : (i : ℕ) → In i (numbers_of s.active)
      → waits_at after i ≡ (waits_at s.active i && not (nat_lt (second_of t i) h))
  waits_after i m = (at_after i m).waits

  pub waiting_after : (numbered_situation changed).waiting ≡ staying_of (second_of t) h ns.waiting
  waiting_after = search (numbers_after, filter_agree, waits_after, filter_twice)

  -- as many pass a flight as overtake it by number
  pub passing_is : (i : ℕ) → In i (numbers_of s.active)
      → count_passing i ≡ overtook (comes_before s.active) (second_of t) h ns.waiting i
  passing_is i m =
      grind (arith, landings_are, filter_map_is, count_by_map, count_by_agree, comes_is, in_filter, filter_twice)

  -- ---- the situation stays sound

  fn : numbers.FeasibleIn (numbered_situation s) (second_of t)
  fn = feasible_numbered s sound t f.0 f

  pub same_flight : (i : ℕ) → In i (numbers_of s.active) → (numbered after i).flight ≡ (numbered s.active i).flight
  same_flight i m = (at_after i m).flight

  in_after : (i : ℕ) → i < length after → In i (numbers_of s.active)
  in_after i lt = let e = length_after in numbers_in 0 _ i zero-le (omega arith)

  -- what is frozen after it is frozen at its second of the plan, before the horizon
  frozen_after : (i : ℕ) → In i (numbers_of s.active) → (u : ℕ) → (numbered after i).frozen ≡ Some u
      → (u ≡ second_of t i) × (second_of t i < h)
  frozen_after i m u e = elim (cases_Bool _) [
    | inl w ↦
        (let gone = ap is_none e in (
          some_same u _ (sym e ∙ (at_after i m).second gone w),
          ltb-true _ h (early _ _ w (sym gone ∙ (at_after i m).waits)),
        ))
    | inr w ↦
        (let j = filter_in _ i _ m (ap not w) in
        let k = fn.kept i j in
        let k' = k ∙ ap (λ x. unwrap_or x 0) (sym ((at_after i m).was w) ∙ e) in
        let b = (sound_numbered s sound).frozen_before i j in
        (omega arith))
  ]
    where
      some_same : (a b : ℕ) → Some a ≡ Some b → a ≡ b
      some_same a b e = cc

      early : (a b : Bool) → a ≡ true → false ≡ (a && not b) → b ≡ true
      early a b p q = grind (arith, false≢true)

  pub late_after : (i : ℕ) → In i (numbered_situation changed).waiting → In i (numbers_of s.active)
      × (waits_at s.active i ≡ true) × (h ≤ second_of t i)
  late_after i m =
      let w = in_filter _ i _ (rw waiting_after at m) in
      let v = in_filter _ i _ w.0 in (
        v.0,
        v.1,
        elim (cases_lt (second_of t i) h) [
          | inl lt ↦ absurd (false≢true (sym (ap not (lt-ltb _ h lt)) ∙ w.1))
          | inr le ↦ le
        ],
      )

  pub waiting_changed : waiting changed ≡ map (numbered after) (numbered_situation changed).waiting
  waiting_changed = ap (filter _) (active_are after) ∙ filter_map_is _ _ (numbers_of after)

  pub waiting_before : waiting s ≡ map (numbered s.active) ns.waiting
  waiting_before = ap (filter _) (active_are s.active) ∙ filter_map_is _ _ (numbers_of s.active)

  pub few_after : length (waiting changed) ≤ length (waiting s)
  few_after = grind (arith, waiting_changed, length-map, waiting_after, waiting_before, fewer_kept, not)

  each_after : (P : Active → Type 0) → ((i : ℕ) → In i (numbers_of s.active) → P (numbered after i)) → All P after
  each_after P q i d lt = rw (get_or_default after i nobody d lt) at (q i (in_after i lt))

  each_frozen_after : (P : Landing → Type 0) → ((i : ℕ) → In i (numbers_of s.active) → second_of t i < h
      → P (landing (numbered after i) (second_of t i))) → All P (frozen_landings changed)
  each_frozen_after P q = list_frozen P _ (λ i lt u e. let m = in_after i lt in grind (arith, frozen_after))

  pub sound_after : IsSound changed
  sound_after = record {
    table = sound.table;
    callsigns = λ i j d lt ltj e.
        let mi = in_after i (omega arith) in
        let mj = in_after j ltj in
        let ej = get_or_default after j d nobody ltj in
        callsigns_differ s sound i j mi mj (λ x. omega arith)
        (ap (λ (x : Flight). x.callsign) (sym (same_flight i mi)) ∙ ap (λ (a : Active). a.flight.callsign)
        (sym (get_or_default after i d nobody (omega arith)))
        ∙ e ∙ ap (λ (a : Active). a.flight.callsign) ej ∙ ap (λ (x : Flight). x.callsign) (same_flight j mj));
    few_active = let a = sound.few_active in let b = length_after in omega arith;
    few_waiting = let a = sound.few_waiting in let b = few_after in omega arith;
    few_closures = sound.few_closures;
    flights = each_after (λ a. IsGoodFlight a.flight) (λ i m. let b = in_numbers 0 (length s.active) i m in
        subst IsGoodFlight (sym (same_flight i m)) (omega arith));
    passed = each_after (λ a. a.passed ≤ s.aerodrome.k) (grind (arith, passed_low, at_after));
    no_carry = λ c. each_after (λ a. a.passed ≡ 0) (λ i m.
        let o = sound.no_carry c i nobody (omega (arith, (in_numbers 0 (length s.active) i m).1)) in
        elim (at_after i m).passed [
          | inl e ↦ e ∙ o
          | inr x ↦ elim x [ inl e ↦ e | inr y ↦ absurd (cc) ]
        ]);
    frozen_open = each_frozen_after (λ g. IsTrue (is_open g.flight.windows s.closures g.second)) (λ i m lt.
        subst (λ (x : Flight). is_open x.windows s.closures (second_of t i) ≡ true) (sym (same_flight i m))
        (and_parts (nat_le (second_of t i) last_second)
        (is_open (numbered s.active i).flight.windows s.closures (second_of t i))
        (fn.opened i (all_among s sound i m))).1);
    frozen_separated = each_frozen_after (λ g. All (ArePairSeparated s.aerodrome.table g) (frozen_landings changed))
        (λ i m lt. each_frozen_after (ArePairSeparated s.aerodrome.table (landing (numbered after i) (second_of t i)))
        (λ j k lt'. λ ne le. subst (λ (y : Flight). second_of t i + separation s.aerodrome.table
        (numbered after i).flight.category y.category ≤ second_of t j) (sym (same_flight j k))
        (subst (λ (x : Flight). second_of t i + separation s.aerodrome.table x.category
        (numbered s.active j).flight.category ≤ second_of t j) (sym (same_flight i m))
        (fn.separated i j (all_among s sound i m) (all_among s sound j k) (λ e. ne (cc)) le))));
    frozen_in_precedence = each_frozen_after (λ g. All (IsPairInPrecedence g) (frozen_landings changed))
        (λ i m lt. each_frozen_after (IsPairInPrecedence (landing (numbered after i) (second_of t i))) (λ j k lt'. λ l.
        fn.in_order i j (all_among s sound i m) (all_among s sound j k)
        (ap₂ (λ (y : Flight) (x : Flight). lists y x.callsign) (sym (same_flight j k)) (sym (same_flight i m)) ∙ l)));
    frozen_before = each_frozen_after (λ g. g.second < h) (λ i m lt. lt);
    frozen_alone = each_frozen_after (ListsNone (waiting changed)) (λ i m lt.
        subst (All (λ a. lists (numbered after i).flight a.flight.callsign ≡ false)) (sym waiting_changed)
        (at_all (λ a. lists (numbered after i).flight a.flight.callsign ≡ false) (numbered after)
        (numbered_situation changed).waiting (λ j k.
        let w = late_after j k in
        false_from_ne_true (lists (numbered after i).flight (numbered after j).flight.callsign) (λ l.
        omega (
          arith,
          fn.in_order j i (all_among s sound j w.0) (all_among s sound i m)
              (ap₂ (λ (y : Flight) (x : Flight). lists y x.callsign) (sym (same_flight i m)) (sym (same_flight j w.0)) ∙
              l),
        )))));
  }

  -- ---- the plan stays feasible

  after_among : (i : ℕ) → In i (numbers.active (numbered_situation changed)) → In i (numbers_of s.active)
  after_among i m = rw numbers_after at (among _ sound_after i m)

  less_back : (i : ℕ) → In i (numbers_of s.active)
      → ns.back i - overtook (comes_before s.active) (second_of t) h ns.waiting i ≤ s.aerodrome.k -
      (numbered after i).passed
  less_back i m = grind (arith, passing_is, at_after)

  pub comes_after : (i j : ℕ) → In i (numbers_of s.active) → In j (numbers_of s.active)
      → comes_before after i j ≡ comes_before s.active i j
  comes_after i j mi mj = search same_flight

  rank_after : (i : ℕ) → In i (numbers_of s.active)
      → rank_in (comes_before after) (numbered_situation changed).waiting i ≡ rank_in (comes_before s.active)
      (staying_of (second_of t) h ns.waiting) i
  rank_after i m = ap suc (count_by_agree _ _ _ (λ g k. comes_after g i (late_after g k).0 m)
      ∙ ap (count_by (λ g. comes_before s.active g i)) waiting_after)

  place_after : (i : ℕ) → place_in (second_of t) (numbered_situation changed).waiting i ≡ place_in
      (second_of t) (staying_of (second_of t) h ns.waiting) i
  place_after i = ap (λ l. place_in (second_of t) l i) waiting_after

  after_numbered : numbers.FeasibleIn (numbered_situation changed) (second_of t)
  after_numbered = record {
    kept = λ i m.
        let w = in_filter (λ x. not (waits_at after x)) i (numbers_of after) m in
        sym (frozen_after i (subst (In i) numbers_after w.0) (unwrap_or (numbered after i).frozen 0)
        (some_of (numbered after i).frozen w.1)).0;
    behind = λ i m. (late_after i m).2;
    opened = λ i m. let a = after_among i m in subst
        (λ (x : Flight). (nat_le (second_of t i) last_second && is_open x.windows s.closures (second_of t i)) ≡ true)
        (sym (same_flight i a)) (fn.opened i (all_among s sound i a));
    separated = grind (arith, after_among, same_flight, fn, all_among);
    in_order = λ i j mi mj l.
        let a = after_among i mi in
        let b = after_among j mj in
        fn.in_order i j (all_among s sound i a) (all_among s sound j b)
        (ap₂ (λ (y : Flight) (x : Flight). lists y x.callsign) (sym (same_flight j b)) (sym (same_flight i a)) ∙ l);
    shifted = λ i m.
        let w = late_after i m in
        let k = stays_shifted (comes_before s.active) (first_come s.active)
        (second_of t) ns.waiting s.aerodrome.k h ns.back (sound_numbered s sound).differ fn.shifted i
        (filter_in (waits_at s.active) i (numbers_of s.active) w.0 w.1) w.2 in
        let r = rank_after i w.0 in
        let p = place_after i in
        let b = less_back i w.0 in
        (omega (arith, k.0), omega (arith, k.1));
  }

  pub feasible_after : IsFeasible changed t
  feasible_after = numbered_feasible _ sound_after t (f.0 ∙ sym length_after) after_numbered

  pub objective_after : objective changed t ≡ objective s t
  objective_after =
      grind (arith, landings_are, length_after, numbers_after, landing_at, map_map, sum_map, sum_agree, same_flight)

-- ---- the laws

pub forth_of : (clock : Option ℕ) (now freeze : ℕ) → clock_back clock now ≡ None
    → horizon_after clock freeze ≤ now + freeze
forth_of clock now freeze e = grind (arith, zero-le, cases_lt, lt-ltb)

pub clock_keeps_plan : ClockKeepsPlanLaw
clock_keeps_plan s t now sound f e = search (forth_of, feasible_after, objective_after)

pub clock_shows_plan : ClockShowsPlanLaw
clock_shows_plan old new now t sound shown e step = grind (arith, clock_keeps_plan)

-- with no plan shown the situation stays as it is, but for its horizon
sound_alone : (s : Situation) (now : ℕ) → IsSound s → horizon s ≤ now + s.aerodrome.freeze
    → IsSound (situation_after s None (Clock now))
sound_alone s now sound forth = grind arith

pub clock_keeps_sound : ClockKeepsSoundLaw
clock_keeps_sound s None now sound f e = sound_alone s now sound (forth_of _ now _ e)
clock_keeps_sound s (Some t) now sound f e = sound_after s sound t (f t refl) now (forth_of _ now _ e)
