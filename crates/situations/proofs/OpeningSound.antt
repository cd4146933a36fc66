-- What opens is a sound situation.
use Rattle.std.proofs.Common.{rules, ◌≡◌, ◌≢◌, ℕ, ◌+◌, ◌<◌, ◌≤◌, inl, inr, Bool, true, false, cond, List, [], ◌∷◌}
use Rattle.std.proofs.Common.{length, map, filter, Option, Some, None, zero, suc, refl, sym, ap, subst, ◌∙◌, arith, leb}
use Rattle.std.proofs.lemmas.Grind.{common_steps}
use Rattle.std.specs.Prelude.{All, AllPairs, IsTrue, find, option_map, unwrap_or, is_none}
use Rattle.std.specs.List.{list_any}
use Rattle.std.specs.Option.{option_or}
use Rattle.std.specs.Str.{bytes_eq}
use Rattle.std.proofs.lemmas.Bool.{leb-false, le-leb, true≢false}
use Rattle.std.proofs.lemmas.List.{length-map}
use Rattle.cps_base.specs.Limits.{most_waiting}
use Rattle.landing_rules.specs.shared.Counting.{Member}
use Rattle.landing_rules.specs.shared.Members.{all_at, all_from, in_filter, in_map, filter_map_in, in_frozen}
use Rattle.landing_rules.specs.shared.Members.{none_found, none_any, fewer_kept}
use Rattle.landing_rules.specs.shared.Tests.{is_pair_separated-Decides}
use Rattle.landing_rules.specs.Flights.{Callsign, Flight, Active, Landing, Situation, landing, waiting, is_waiting}
use Rattle.landing_rules.specs.Flights.{horizon, horizon_after}
use Rattle.landing_rules.specs.Rules.{is_open, lists, ArePairSeparated, IsPairInPrecedence, AreSeparated}
use Rattle.landing_rules.specs.Rules.{AreInPrecedence}
use Rattle.landing_rules.specs.Events.{named, look_up, opening_flight, frozen_landings}
use Rattle.landing_rules.specs.Testing.{is_pair_separated}
use Rattle.landing_rules.specs.Sound.{IsSound, IsGoodFlight, ListsNone}
use Rattle.arrivals.specs.declared.aerodrome.Aerodrome.{Aerodrome}
use Rattle.arrivals.specs.declared.frozen_list.FrozenLanding.{FrozenLanding}
use Rattle.arrivals.specs.declared.passed_list.PassedCount.{PassedCount}
use Rattle.arrivals.specs.Aerodromes.{AreFrozenBy, IsFrozen}
use Rattle.arrivals.specs.declared.flight.Flight as files
use Rattle.arrivals.specs.Seen.{flight_of}
use Rattle.situations.specs.declared.opening_refusal.OpeningFault.{OpeningFault}
use Rattle.situations.specs.declared.opening_refusal.OpeningFault.TheVariants as fault
use Rattle.situations.specs.Opened.{opened, opening_of, CanOpen, HasRanges, IsKept}
use Rattle.situations.specs.Refused.{unless, first_from, too_many_waiting, opening_fault, name_fault, given_landing}
use Rattle.situations.specs.Refused.{given, closed_at, clash_at, clash_from, is_not_before, late_at, rule_fault}
use Rattle.situations.specs.Refused.{AreKept, OpeningLaw, PlainLaw}
use Rattle.situations.proofs.Apart.{opened_apart}

-- ---- what it means that no fault is found

or_none : {T : Type 0} (o p : Option T) → option_or o p ≡ None → (o ≡ None) × (p ≡ None)
or_none None p e = (refl, e)
or_none (Some x) p e = absurd (cc)

unless_none : (b : Bool) (f : OpeningFault) → unless b f ≡ None → b ≡ true
unless_none true f e = refl
unless_none false f e = absurd (cc)

first_none : {X : Type 0} (fault_at : ℕ → X → Option OpeningFault) (p : ℕ) (xs : List X)
    → first_from fault_at p xs ≡ None → (x : X) → Member x xs → (q : ℕ) × (fault_at q x ≡ None)
first_none fault_at p [] e x m = absurd m
first_none fault_at p (y ∷ ys) e x (inl s) = search rules
first_none fault_at p (y ∷ ys) e x (inr m) =
    first_none fault_at (p + 1) ys (or_none (fault_at p y) (first_from fault_at (p + 1) ys) e).1 x m

clash_none : (table : List (List ℕ)) (p : ℕ) (xs : List Landing) → clash_from table p xs ≡ None
    → (g h : Landing) → Member g xs → Member h xs → g.flight.callsign ≢ h.flight.callsign
    → is_pair_separated table g h ≡ true
clash_none table p [] e g h m k n = absurd m
clash_none table p (x ∷ xs) e g h (inl s) (inl t) n = search rules
clash_none table p (x ∷ xs) e g h (inl s) (inr k) n = grind (
  arith,
  first_none (clash_at table p x) (p + 1) xs
      (or_none (first_from (clash_at table p x) (p + 1) xs) (clash_from table (p + 1) xs) e).0 h k,
)
clash_none table p (x ∷ xs) e g h (inr m) (inl t) n = grind (
  arith,
  first_none (clash_at table p x) (p + 1) xs
      (or_none (first_from (clash_at table p x) (p + 1) xs) (clash_from table (p + 1) xs) e).0 g m,
)
clash_none table p (x ∷ xs) e g h (inr m) (inr k) n =
    clash_none table (p + 1) xs (or_none (first_from (clash_at table p x) (p + 1) xs) (clash_from table (p + 1) xs) e).1
    g h m k n

map_none : {X Y : Type 0} (f : X → Y) (o : Option X) → option_map f o ≡ None → o ≡ None
map_none f None e = refl
map_none f (Some x) e = absurd (cc)

any_member : {X : Type 0} (p : X → Bool) (xs : List X) → list_any p xs ≡ true → (x : X) × Member x xs × (p x ≡ true)
any_member p [] e = cc
any_member {X = X} p (x ∷ xs) e = grind (arith, common_steps, any_member p xs)

-- ---- entries, and the flights that they name

look_from : {X : Type 0} (seen : X → Callsign × ℕ) (c : Callsign) (xs : List X) (t : ℕ)
    → look_up c (map seen xs) ≡ Some t → (x : X) × Member x xs × ((seen x).0 ≡ c) × ((seen x).1 ≡ t)
look_from seen c [] t e = absurd (cc)
look_from {X = X} seen c (x ∷ xs) t e = go (bytes_eq (seen x).0 c) refl e (look_from seen c xs t)
  where
    go : (b : Bool) → bytes_eq (seen x).0 c ≡ b → cond b (Some (seen x).1) (look_up c (map seen xs)) ≡ Some t →
        (look_up c (map seen xs) ≡ Some t → (z : X) × Member z xs × ((seen z).0 ≡ c) × ((seen z).1 ≡ t))
        → (z : X) × Member z (x ∷ xs) × ((seen z).0 ≡ c) × ((seen z).1 ≡ t)
    go true k e ih = search rules
    go false k e ih = search rules

abbrev Differ : Active → Active → Type 0
Differ x y = x.flight.callsign ≢ y.flight.callsign

find_own : (x : Active) (xs : List Active) → AllPairs Differ xs → Member x xs
    → find (named x.flight.callsign) xs ≡ Some x
find_own x [] apart m = absurd m
find_own x (y ∷ ys) apart (inl s) = search rules
find_own x (y ∷ ys) apart (inr m) =
    let n : y.flight.callsign ≢ x.flight.callsign =
    all_at (Differ y) ys (λ k d lt. apart zero (suc k) d (omega arith) (omega arith)) x m in
    ap (λ b. cond b (Some y) (find (named x.flight.callsign) ys)) (differ y.flight.callsign x.flight.callsign n)
    ∙ find_own x ys (λ i j d l k. apart (suc i) (suc j) d (omega arith) (omega arith)) m
  where
    differ : (c d : List ℕ) → c ≢ d → bytes_eq c d ≡ false
    differ c d n = search rules

module _ (a : Aerodrome) (fs : List files.Flight) (kept : AreKept a fs) (can : CanOpen a fs)
    (none : opening_fault a fs ≡ None) where
  abbrev s : Situation
  s = opened a fs

  abbrev all : List Landing
  all = given s.active a.frozen

  abbrev made : Flight → Active
  made f = opening_flight (opening_of a) f

  -- ---- what was tested

  by_name : name_fault a s.active ≡ None
  by_name = search rules

  by_rule : rule_fault a s.active all ≡ None
  by_rule = search rules

  few_wait : length (waiting s) ≤ most_waiting
  few_wait = search rules

  no_closed : first_from (closed_at a.closures) 1 all ≡ None
  no_closed = search rules

  rest : option_or (clash_from a.table 1 all) (first_from (late_at s.active) 1 all) ≡ None
  rest = search rules

  no_clash : clash_from a.table 1 all ≡ None
  no_clash = search rules

  no_late : first_from (late_at s.active) 1 all ≡ None
  no_late = search rules

  -- ---- the flights in the system

  length_active : length s.active ≡ length fs
  length_active = grind (arith, common_steps)

  each_active : (P : Active → Type 0) → ((f : files.Flight) → Member f fs → P (made (flight_of f))) → All P s.active
  each_active P h = all_from P s.active (λ x m.
      let y = in_map made (map flight_of fs) x m in
      let f = in_map flight_of fs y.0 y.1 in
      subst P (sym (y.2 ∙ ap made f.2)) (h f.0 f.1))

  apart : AllPairs Differ s.active
  apart = opened_apart a fs can.callsigns

  good : All (λ (x : Active). IsGoodFlight x.flight) s.active
  good = each_active (λ x. IsGoodFlight x.flight) (λ f m.
      let h = all_at (λ (f : files.Flight). IsKept (flight_of f)) fs kept.flights f m in
      let r = all_at HasRanges fs can.flights f m in
      record { callsign = h.callsign; eta = r.eta; weight = r.weight; windows = h.windows; after = h.after })

  count_of : (f : files.Flight) (o : Option ℕ)
      → look_up f.callsign (map (λ (p : PassedCount). (p.callsign, p.count)) a.passed) ≡ o → unwrap_or o 0 ≤ a.k
  count_of f None e = omega arith
  count_of f (Some n) e =
      let p = look_from (λ (p : PassedCount). (p.callsign, p.count)) f.callsign a.passed n e in
      let h = all_at (λ (p : PassedCount). (1 ≤ p.count)
      × (p.count ≤ a.k)) a.passed can.aerodrome.passed.counts p.0 p.1 in
      omega arith

  counted : All (λ (x : Active). x.passed ≤ a.k) s.active
  counted = each_active (λ x. x.passed ≤ a.k)
      (λ f m. count_of f (look_up f.callsign (map (λ (p : PassedCount). (p.callsign, p.count)) a.passed)) refl)

  uncounted : a.carry ≡ false → All (λ (x : Active). x.passed ≡ 0) s.active
  uncounted e = each_active (λ x. x.passed ≡ 0)
      (λ f m. ap (λ l. unwrap_or (look_up f.callsign (map (λ (p : PassedCount). (p.callsign, p.count)) l)) 0)
      (can.aerodrome.none_passed e))

  -- ---- the frozen landings are those of the file

  record IsOfFile (f : Landing) : Type 0 where
    flight : Active
    active : Member flight s.active
    frozen : flight.frozen ≡ Some f.second
    is : f ≡ landing flight f.second
    entry : FrozenLanding
    in_file : Member entry a.frozen
    second : entry.second ≡ f.second
    in_all : Member f all

  frozen_of : (f : Landing) → Member f (frozen_landings s) → (x : Active) × Member x s.active
      × (x.frozen ≡ Some f.second) × (f ≡ landing x f.second)
  frozen_of f m = search (rules, in_frozen)

  of_file : (f : Landing) → Member f (frozen_landings s) → IsOfFile f
  of_file f m =
      let x = frozen_of f m in
      let y = in_map made (map flight_of fs) x.0 x.1 in
      let g = in_map flight_of fs y.0 y.1 in
      let own : x.0 ≡ made (flight_of g.0) = y.2 ∙ ap made g.2 in
      let e = look_from (λ (e : FrozenLanding). (e.callsign, e.second)) g.0.callsign a.frozen f.second
      (sym (ap (λ (z : Active). z.frozen) own) ∙ x.2) in
      let given_own : given_landing s.active e.0 ≡ Some f =
      ap (λ c. option_map (λ (z : Active). landing z e.0.second) (find (named c) s.active))
      (e.2 ∙ sym (ap (λ (z : Active). z.flight.callsign) own))
      ∙ ap (option_map (λ (z : Active). landing z e.0.second)) (find_own x.0 s.active apart x.1)
      ∙ ap (λ t. Some (landing x.0 t)) e.3
      ∙ ap (λ z. Some z) (sym x.3) in search (rules, filter_map_in)

  -- ---- and keep the rules

  open_all : All (λ (f : Landing). IsTrue (is_open f.flight.windows a.closures f.second)) (frozen_landings s)
  open_all = all_from (λ (f : Landing). IsTrue (is_open f.flight.windows a.closures f.second))
      (frozen_landings s) (λ f m.
      let h = first_none (closed_at a.closures) 1 all no_closed f (of_file f m).in_all in
      unless_none (is_open f.flight.windows a.closures f.second) (fault.FrozenClosed h.0) h.1)

  separated : AreSeparated a.table (frozen_landings s)
  separated = all_from (λ f. All (ArePairSeparated a.table f) (frozen_landings s)) (frozen_landings s) (λ f m.
      all_from (ArePairSeparated a.table f) (frozen_landings s) (λ g k n.
      (is_pair_separated-Decides a.table f g).0 (clash_none a.table 1 all no_clash f g (of_file f m).in_all
      (of_file g k).in_all n) n))

  -- one that a frozen flight lists is frozen at an earlier second
  earlier : (g : Landing) → Member g (frozen_landings s) → (x : Active) → Member x s.active
      → lists g.flight x.flight.callsign ≡ true → is_not_before g.second x.frozen ≡ false
  earlier g m x k e = search (rules, first_none, of_file, any_member, none_found, none_any)

  in_precedence : AreInPrecedence (frozen_landings s)
  in_precedence = all_from (λ f. All (IsPairInPrecedence f) (frozen_landings s)) (frozen_landings s) (λ f m.
      all_from (IsPairInPrecedence f) (frozen_landings s) (λ g k l.
      let o = of_file f m in
      let c : f.flight.callsign ≡ o.flight.flight.callsign = ap (λ (z : Landing). z.flight.callsign) o.is in
      let early = earlier g k o.flight o.active (sym (ap (lists g.flight) c) ∙ l) in
      lt g.second f.second (sym (ap (is_not_before g.second) o.frozen) ∙ early)))
    where
      lt : (a b : ℕ) → leb a b ≡ false → b < a
      lt a b e = leb-false a b e

  alone : All (ListsNone (waiting s)) (frozen_landings s)
  alone = all_from (ListsNone (waiting s)) (frozen_landings s) (λ f m.
      all_from (λ (x : Active). lists f.flight x.flight.callsign ≡ false) (waiting s) (λ x k.
      let w = in_filter is_waiting s.active x k in
      go f m x w.0 w.1 (lists f.flight x.flight.callsign) refl))
    where
      waits_on : (t : ℕ) (o : Option ℕ) → is_none o ≡ true → is_not_before t o ≡ true
      waits_on t None e = refl
      waits_on t (Some z) e = cc

      go : (f : Landing) → Member f (frozen_landings s) → (x : Active) → Member x s.active
          → is_waiting x ≡ true → (b : Bool) → lists f.flight x.flight.callsign ≡ b → b ≡ false
      go f m x k w true e = absurd (true≢false (sym (waits_on f.second x.frozen w) ∙ earlier f m x k e))
      go f m x k w false e = refl

  before : All (λ (f : Landing). f.second < horizon s) (frozen_landings s)
  before = all_from (λ (f : Landing). f.second < horizon s) (frozen_landings s) (λ f m.
      let o = of_file f m in
      subst (λ t. t < horizon s) o.second (go a.clock a.frozen can.aerodrome.frozen o.entry o.in_file))
    where
      go : (clock : Option ℕ) (frozen : List FrozenLanding) → AreFrozenBy clock a.freeze frozen
          → (e : FrozenLanding) → Member e frozen → e.second < horizon_after clock a.freeze
      go None frozen h e m = search rules
      go (Some now) frozen h e m = (all_at (IsFrozen now a.freeze) frozen h.seconds e m).early

  pub sound : IsSound s
  sound = record {
    table = kept.table;
    callsigns = apart;
    few_active = let n = length_active in omega (arith, can.few);
    few_waiting = few_wait;
    few_closures = kept.closures;
    flights = good;
    passed = counted;
    no_carry = uncounted;
    frozen_open = open_all;
    frozen_separated = separated;
    frozen_in_precedence = in_precedence;
    frozen_before = before;
    frozen_alone = alone;
  }

pub opening_sound : OpeningLaw
opening_sound a fs kept openable = sound a fs kept openable.0 openable.1

-- ---- files without entries

pub plain_opening : PlainLaw
plain_opening a fs no_frozen no_passed few =
    let active = (opened a fs).active in
    let n : length active ≡ length fs = length-map (map flight_of fs) (opening_flight (opening_of a))
    ∙ length-map fs flight_of in
    let enough : too_many_waiting active ≡ None =
    ap (λ b. unless b (fault.TooManyWaiting (length (filter is_waiting active))))
    (le-leb (length (filter is_waiting active)) most_waiting (omega (arith, fewer_kept is_waiting active))) in cc
