-- A schedule keeps the rules exactly where its map of seconds does over the numbers.
use Rattle.std.proofs.Common.{◌≡◌, ◌≢◌, ℕ, ◌<◌, ◌≤◌, inl, inr, List, [], ◌∷◌, length, map, filter, true, false, not}
use Rattle.std.proofs.Common.{nat_le, unwrap_or, arith, refl, sym, ap, subst, ◌∙◌}
use Rattle.std.specs.Prelude.{filter_map, option_map, All, IsTrue, MatchOption, Option, Some, is_none}
use Rattle.std.proofs.lemmas.Bool.{cases_order, cases_Bool, and_parts, and_from, leb-true, le-leb, false≢true}
use Rattle.std.specs.declared.cmp.Ordering.{Ordering}
use Rattle.std.specs.declared.cmp.Ordering.TheVariants.{Less, Equal, Greater}
use Rattle.std.specs.Ordering.{nat_cmp, ordering_then, ordering_reverse, is_lt}
use Rattle.std.specs.Cmp.{IsTotalOrder}
use Rattle.std.proofs.lemmas.Cmp.{then_total, on_total, nat_cmp_total, tied_itself}
use Rattle.std.proofs.lemmas.Map.Lookups.{exact_unsigned}
use Rattle.landing_rules.specs.Flights.{Active, Situation, Schedule, Landing, landing, landings, waiting, horizon}
use Rattle.landing_rules.specs.Rules.{last_second, is_open, lists, arrival_cmp, waits, rank_among, place}
use Rattle.landing_rules.specs.Rules.{ArePairSeparated, IsPairInPrecedence, IsShiftKept, IsFrozenKept, IsFeasible}
use Rattle.landing_rules.specs.Events.{frozen_landings}
use Rattle.landing_rules.specs.Sound.{IsSound, ListsNone}
use Rattle.landing_rules.specs.shared.Ranks.{arrival_total, second_equal, level-callsign}
use Rattle.landing_rules.specs.shared.Counting.{cases, is_lt-Less}
use Rattle.cps_theory.specs.RankLists.{In}
use Rattle.cps_theory.specs.Freeze.{FirstCome, rank_in, place_in}
use Rattle.cps_theory.specs.NumberedSituation as numbers
use Rattle.cps_theory.specs.laws.Members.{in_filter, in_append, append_in, distinct_filter, filter_in}
use Rattle.landing_joint.specs.Numbered.{nobody, numbered, second_of, numbers_of, waits_at, comes_before}
use Rattle.landing_joint.specs.Numbered.{numbered_situation}
use Rattle.landing_joint.specs.shared.Members as members
use Rattle.landing_rules.specs.shared.Members as general
use Rattle.landing_joint.specs.shared.OpenDays.{open_low}
use Rattle.landing_joint.proofs.Numbered.{landing_at, landings_are}
use Rattle.cps_theory.specs.laws.NumberedLists.{count_by_map, count_by_agree, map_map, filter_map_is, all_at, at_all}
use Rattle.cps_theory.specs.laws.NumberedLists.{in_numbers, map_numbers, distinct_numbers}

-- ---- the order of arrival

then_not_equal : (r o : Ordering) → (r ≡ Equal → ⊥) → ordering_then r o ≡ r
then_not_equal Less o h = refl
then_not_equal Equal o h = absurd (h refl)
then_not_equal Greater o h = refl

abbrev by_number : List Active → ℕ → ℕ → Ordering
by_number all i j = ordering_then (arrival_cmp (numbered all i).flight (numbered all j).flight) (nat_cmp i j)

number_total : (all : List Active) → IsTotalOrder (by_number all)
number_total all = then_total (on_total (λ (i : ℕ). (numbered all i).flight) arrival_total) nat_cmp_total

number_level : (all : List Active) (i j : ℕ) → by_number all i j ≡ Equal → i ≡ j
number_level all i j e = exact_unsigned i j (second_equal _ _ e)

pub first_come : (all : List Active) → FirstCome (comes_before all)
first_come all = record {
  one_way = λ a b e. ap is_lt
      ((number_total all).antisymm b a ∙ ap ordering_reverse (is_lt-Less (by_number all a b) e));
  chain = λ a b c e f. ap is_lt ((number_total all).trans a b c (is_lt-Less (by_number all a b) e)
      (is_lt-Less (by_number all b c) f));
  total = λ a b ne e. ap is_lt ((number_total all).antisymm b a ∙ ap ordering_reverse (greater a b ne e));
}
  where
    greater : (a b : ℕ) → a ≢ b → is_lt (by_number all a b) ≡ false → by_number all a b ≡ Greater
    greater a b ne e = grind (arith, cases, false≢true, number_level)

-- ---- one flight

pub kept_of : (o : Option ℕ) (h x : ℕ) → not (is_none o) ≡ true → MatchOption o (h ≤ x) (λ u. x ≡ u) → x ≡ unwrap_or o 0
kept_of o h x e m = grind (arith, false≢true)

pub late_of : (o : Option ℕ) (h x : ℕ) → is_none o ≡ true → MatchOption o (h ≤ x) (λ u. x ≡ u) → h ≤ x
late_of o h x e m = grind (arith, false≢true)

of_kept : (o : Option ℕ) (h x : ℕ) → (is_none o ≡ true → h ≤ x) → (not (is_none o) ≡ true → x ≡ unwrap_or o 0)
    → MatchOption o (h ≤ x) (λ u. x ≡ u)
of_kept o h x f g = grind arith

pub some_of : (o : Option ℕ) → not (is_none o) ≡ true → o ≡ Some (unwrap_or o 0)
some_of o e = grind (arith, false≢true)

module _ (s : Situation) (sound : IsSound s) where
  pub among : (i : ℕ) → In i (numbers.active (numbered_situation s)) → In i (numbers_of s.active)
  among i m = elim (in_append i _ _ m) [
    | inl j ↦ (in_filter _ i _ j).0
    | inr j ↦ (in_filter (waits_at s.active) i _ j).0
  ]

  pub all_among : (i : ℕ) → In i (numbers_of s.active) → In i (numbers.active (numbered_situation s))
  all_among i m = grind (arith, append_in, cases_Bool, filter_in, not)

  -- different flights have different callsigns
  pub callsigns_differ : (i j : ℕ) → In i (numbers_of s.active) → In j (numbers_of s.active)
      → i ≢ j → (numbered s.active i).flight.callsign ≢ (numbered s.active j).flight.callsign
  callsigns_differ i j mi mj ne e = grind (arith, in_numbers, cases_order)

  -- among the flights the order is that of arrival
  pub comes_is : (i j : ℕ) → In i (numbers_of s.active) → In j (numbers_of s.active)
      → comes_before s.active i j ≡ is_lt (arrival_cmp (numbered s.active i).flight (numbered s.active j).flight)
  comes_is i j mi mj =
      grind (arith, then_not_equal, callsigns_differ, level-callsign, tied_itself, number_total, arrival_total)

  module _ (t : Schedule) (long : length t ≡ length s.active) where
    -- ranks and places among the waiting
    waiting_are : filter waits (landings s.active t) ≡ map (landing_at s.active t) (numbered_situation s).waiting
    waiting_are = ap (filter _) (landings_are _ t long) ∙ filter_map_is _ _ (numbers_of s.active)

    rank_is : (i : ℕ) → In i (numbers_of s.active)
        → rank_among (map (landing_at s.active t) (numbered_situation s).waiting) (landing_at s.active t i) ≡ rank_in
        (comes_before s.active) (numbered_situation s).waiting i
    rank_is i m = grind (arith, landing_at, map_map, count_by_map, count_by_agree, comes_is, in_filter)

    place_is : (i : ℕ) → place (map (landing_at s.active t) (numbered_situation s).waiting)
        (landing_at s.active t i) ≡ place_in (second_of t) (numbered_situation s).waiting i
    place_is i = omega (arith, landing_at, count_by_map)

    pub passed_low : (i : ℕ) → In i (numbers_of s.active) → (numbered s.active i).passed ≤ s.aerodrome.k
    passed_low i m = sound.passed i nobody (omega (arith, (in_numbers 0 _ i m).1))

    pub feasible_numbered : IsFeasible s t → numbers.FeasibleIn (numbered_situation s) (second_of t)
    feasible_numbered f =
        let ls = landings s.active t in
        let r = f.1 in
        let each : (P : Landing → Type 0) → All P ls → (i : ℕ) → In i (numbers_of s.active)
        → P (landing_at s.active t i) =
        λ P a i m. all_at P _ _ (rw (landings_are _ t long) at a) i m in
        record {
          kept = λ i m. let w = in_filter (λ x. not (waits_at s.active x)) i (numbers_of s.active) m in
              kept_of (numbered s.active i).frozen (horizon s) (second_of t i) w.1
              (each (IsFrozenKept (horizon s)) r.frozen_kept i w.0);
          behind = λ i m. let w = in_filter (waits_at s.active) i (numbers_of s.active) m in
              late_of (numbered s.active i).frozen (horizon s) (second_of t i) w.1
              (each (IsFrozenKept (horizon s)) r.frozen_kept i w.0);
          opened = λ i m. let a = among i m in and_from (nat_le (second_of t i) last_second)
              (is_open (numbered s.active i).flight.windows s.closures (second_of t i))
              (le-leb (second_of t i) last_second (each (λ g. g.second ≤ last_second) r.in_days i a))
              (each (λ g. IsTrue (is_open g.flight.windows s.closures g.second)) r.open_seconds i a);
          separated = λ i j mi mj ne le. each (ArePairSeparated s.aerodrome.table (landing_at s.active t i))
              (each (λ g. All (ArePairSeparated s.aerodrome.table g) ls) r.separated i (among i mi)) j
              (among j mj) (callsigns_differ i j (among i mi) (among j mj) ne) le;
          in_order = λ i j mi mj l. each (IsPairInPrecedence (landing_at s.active t i))
              (each (λ g. All (IsPairInPrecedence g) ls) r.in_precedence i (among i mi)) j (among j mj) l;
          shifted = λ i m.
              let w = (numbered_situation s).waiting in
              let k = all_at (IsShiftKept s.aerodrome.k (map (landing_at s.active t) w)) (landing_at s.active t) w
              (subst (λ l. All (IsShiftKept s.aerodrome.k l) l) waiting_are r.shift) i m in
              let a = rank_is i ((in_filter (waits_at s.active) i (numbers_of s.active) m).0) in
              let b = place_is i in
              (omega (arith, k.0), omega (arith, k.1));
        }

    pub numbered_feasible : numbers.FeasibleIn (numbered_situation s) (second_of t) → IsFeasible s t
    numbered_feasible f =
        let from : (P : Landing → Type 0) → ((i : ℕ) → In i (numbers_of s.active) → P (landing_at s.active t i))
        → All P (landings s.active t) =
        λ P h. rw (landings_are _ t long) (at_all P _ _ h) in (
          long,
          record {
            in_days = from (λ g. g.second ≤ last_second) (λ i m. leb-true (second_of t i) last_second
                (and_parts (nat_le (second_of t i) last_second)
                (is_open (numbered s.active i).flight.windows s.closures (second_of t i))
                (f.opened i (all_among i m))).0);
            open_seconds = from (λ g. IsTrue (is_open g.flight.windows s.closures g.second))
                (λ i m. (and_parts (nat_le (second_of t i) last_second)
                (is_open (numbered s.active i).flight.windows s.closures (second_of t i))
                (f.opened i (all_among i m))).1);
            separated = from (λ g. All (ArePairSeparated s.aerodrome.table g) (landings s.active t))
                (λ i m. from (ArePairSeparated s.aerodrome.table (landing_at s.active t i)) (λ j k ne le.
                f.separated i j (all_among i m) (all_among j k) (λ e. ne (cc)) le));
            in_precedence = from (λ g. All (IsPairInPrecedence g) (landings s.active t))
                (λ i m. from (IsPairInPrecedence (landing_at s.active t i))
                (λ j k l. f.in_order i j (all_among i m) (all_among j k) l));
            shift = subst (λ l. All (IsShiftKept s.aerodrome.k l) l) (sym waiting_are)
                (at_all (IsShiftKept s.aerodrome.k (map (landing_at s.active t) (numbered_situation s).waiting))
                (landing_at s.active t) (numbered_situation s).waiting (λ i m.
                let n = (in_filter (waits_at s.active) i (numbers_of s.active) m).0 in
                let k = f.shifted i m in
                let a = rank_is i n in
                let b = place_is i in
                let c = passed_low i n in
                (omega (arith, k.0), omega (arith, k.1))));
            frozen_kept = search (arith, of_kept, filter_in, not, s.active, f.behind, f.kept);
          },
        )

-- ---- the frozen

frozen_list : (P : Landing → Type 0) (all : List Active) → All P (filter_map (λ a. option_map (landing a) a.frozen) all)
    → (i : ℕ) → i < length all → (u : ℕ) → (numbered all i).frozen ≡ Some u → P (landing (numbered all i) u)
frozen_list P all h i lt u e = general.all_at P _ h _ (general.frozen_in all _ u (members.number_member all i lt) e)

pub list_frozen : (P : Landing → Type 0) (all : List Active)
    → ((i : ℕ) → i < length all → (u : ℕ) → (numbered all i).frozen ≡ Some u → P (landing (numbered all i) u))
    → All P (filter_map (λ a. option_map (landing a) a.frozen) all)
list_frozen P all h = general.all_from P _ (λ x m. let w = members.frozen_member x all m in rw w.4 (h w.0 w.1 w.2 w.3))

pub active_are : (all : List Active) → all ≡ map (numbered all) (numbers_of all)
active_are [] = refl
active_are (a ∷ all) = ap (λ l. a ∷ l) (active_are all ∙ sym (map_numbers _ 0 _))

module _ (s : Situation) (sound : IsSound s) where
  pub frozen_each : (P : Landing → Type 0) → All P (frozen_landings s) → (i : ℕ) → In i (numbered_situation s).frozen
      → P (landing (numbered s.active i) ((numbered_situation s).frozen_at i))
  frozen_each P h i m =
      let w = in_filter _ i _ m in
      frozen_list P _ h i (omega (arith, (in_numbers 0 (length s.active) i w.0).1)) _ (some_of _ w.1)

  pub waiting_each : (P : Active → Type 0) → All P (waiting s) → (i : ℕ) → In i (numbered_situation s).waiting
      → P (numbered s.active i)
  waiting_each P h i m = all_at P _ _ (subst (All P) (ap (filter _) (active_are s.active)
      ∙ filter_map_is _ _ (numbers_of s.active)) h) i m

  -- what the theory asks of a situation
  pub sound_numbered : numbers.SoundSituation (numbered_situation s)
  sound_numbered =
      let n = numbered_situation s in
      let a = frozen_among in
      record {
        triangle = search (arith, sound.table.triangle, s.active);
        order = first_come s.active;
        differ = distinct_filter (waits_at s.active) (numbers_of s.active) (distinct_numbers 0 (length s.active));
        frozen_before = λ i m. frozen_each (λ g. g.second < horizon s) sound.frozen_before i m;
        frozen_open = λ i m.
            let w = in_filter (λ x. not (waits_at s.active x)) i (numbers_of s.active) m in
            and_from (nat_le (n.frozen_at i) last_second)
            (is_open (numbered s.active i).flight.windows s.closures (n.frozen_at i))
            (open_low (numbered s.active i).flight.windows s.closures (n.frozen_at i)
            (let b = in_numbers 0 (length s.active) i w.0 in
            (sound.flights i nobody (omega (arith, b.1))).windows.spans)
            (frozen_each (λ g. IsTrue (is_open g.flight.windows s.closures g.second)) sound.frozen_open i m))
            (frozen_each (λ g. IsTrue (is_open g.flight.windows s.closures g.second)) sound.frozen_open i m);
        frozen_apart = λ i j mi mj ne le.
            frozen_each (ArePairSeparated s.aerodrome.table (landing (numbered s.active i) (n.frozen_at i)))
            (frozen_each (λ g. All (ArePairSeparated s.aerodrome.table g) (frozen_landings s))
            sound.frozen_separated i mi) j mj (callsigns_differ s sound i j (a i mi) (a j mj) ne) le;
        frozen_in_order = λ i j mi mj l. frozen_each
            (IsPairInPrecedence (landing (numbered s.active i) (n.frozen_at i)))
            (frozen_each (λ g. All (IsPairInPrecedence g) (frozen_landings s)) sound.frozen_in_precedence i mi) j mj l;
        none_listed = λ i j mi mj l.
            let x = waiting_each (λ b. lists (numbered s.active j).flight b.flight.callsign ≡ false)
            (frozen_each (ListsNone (waiting s)) sound.frozen_alone j mj) i mi in
            false≢true (sym x ∙ l);
      }
    where
      frozen_among : (i : ℕ) → In i (numbered_situation s).frozen → In i (numbers_of s.active)
      frozen_among i m = (in_filter _ i _ m).0
