-- What a look-up by callsign finds, and what a change of the map makes of the flights in order of arrival.
use Rattle.std.proofs.Common.{rules, ◌≡◌, ◌≢◌, ℕ, zero, suc, ◌+◌, ◌<◌, Bool, true, false, cond, not, List, [], ◌∷◌}
use Rattle.std.proofs.Common.{◌++◌, ◌||◌, ◌&&◌, length, map, filter, take, set, get_or}
use Rattle.std.proofs.Common.{Option, Some, None, is_some, refl, sym, ap, ◌∙◌, arith}
use Rattle.std.proofs.lemmas.Grind.{common_steps}
use Rattle.std.specs.Prelude.{AllPairs, find}
use Rattle.std.specs.List.{IsDistinct, list_any}
use Rattle.std.specs.Option.{option_map_or}
use Rattle.std.specs.Map.{keys_of, values_of, lookup, remove_entry, set_value}
use Rattle.std.specs.Str.{bytes_eq}
use Rattle.std.proofs.lemmas.List.{get_or-map, get_or-take, length-map, length-take, map-append, take_more}
use Rattle.std.proofs.lemmas.Map.Keys.{apart_from_distinct}
use Rattle.indexmap.specs.IndexMap.{set_value_at}
use Rattle.landing_rules.specs.Flights.{Active, Callsign}
use Rattle.landing_rules.specs.Events.{Revision, named, revised, look_up, newcomer}
use Rattle.arrivals.specs.declared.aerodrome.Aerodrome.{Aerodrome}
use Rattle.arrivals.specs.declared.flight.Flight as files
use Rattle.arrivals.specs.Seen.{flight_of}
use Rattle.situations.specs.Named.{with_count, with_second}
use Rattle.situations.specs.Opened.{counts_in, newcomers, opened, seconds_in}
use Rattle.situations.specs.Seen.{AreApart}
use Rattle.situations.proofs.Apart.{at_named, name_of, others, tail_apart}
use Rattle.situations.proofs.Callsigns.{bytes_eq-true}

abbrev pub Entry : Type 0
Entry = Callsign × Active

abbrev pub Keyed : List Entry → Type 0
Keyed es = keys_of es ≡ map name_of (values_of es)

tail_keyed : (e : Entry) (es : List Entry) → Keyed (e ∷ es) → Keyed es
tail_keyed e es h = cc

-- ---- look-ups

-- what the map finds is the first flight of the callsign
pub looked_up : (c : Callsign) (es : List Entry) → Keyed es → lookup (bytes_eq c) es ≡ find (named c) (values_of es)
looked_up c [] h = refl
looked_up c (e ∷ es) h = search (rules, looked_up c es (tail_keyed e es h))

pub is_found : (c : Callsign) (xs : List Active) → is_some (find (named c) xs) ≡ list_any (named c) xs
is_found c [] = refl
is_found c (x ∷ xs) = grind (arith, common_steps, is_found c xs)

pub none_from_some : {X : Type 0} (o : Option X) → is_some o ≡ false → o ≡ None
none_from_some None e = refl
none_from_some (Some x) e = cc

-- where no flight has the callsign, the key is not there
pub not_there : (c : Callsign) (es : List Entry) → Keyed es → list_any (named c) (values_of es) ≡ false
    → lookup (bytes_eq c) es ≡ None
not_there c es h none = search (rules, none_from_some, looked_up, is_found)

-- a flight that is found has the callsign
pub found_named : (c : Callsign) (xs : List Active) (a : Active) → find (named c) xs ≡ Some a → named c a ≡ true
found_named c [] a e = cc
found_named c (x ∷ xs) a e = grind (arith, common_steps, found_named c xs a)

-- ---- callsigns are apart

pub keyed_apart : (es : List Entry) → Keyed es → IsDistinct bytes_eq (keys_of es) → AreApart (values_of es)
keyed_apart es keyed distinct i j d lt le same =
    let vs = values_of es in
    let names = map name_of vs in
    let long : length names ≡ length vs = length-map vs name_of in
    let keys : length (keys_of es) ≡ length names = ap length keyed in
    let at : (k : ℕ) → k < length vs → get_or (keys_of es) k (name_of d) ≡ name_of (get_or vs k d) =
    λ k lk. ap (λ l. get_or l k (name_of d)) keyed ∙ get_or-map name_of vs k d (name_of d) lk in
    let differ : bytes_eq (get_or (keys_of es) i (name_of d)) (get_or (keys_of es) j (name_of d)) ≡ false =
    apart_from_distinct bytes_eq (keys_of es) i j (name_of d) distinct lt (omega arith) in search rules

-- the others of a list have another callsign than the first
pub none_behind : (c : Callsign) (x : Active) (xs : List Active) → AreApart (x ∷ xs) → named c x ≡ true
    → (j : ℕ) (d : Active) → j < length xs → named c (get_or xs j d) ≡ false
none_behind c x xs apart is j d lt = go (named c (get_or xs j d)) refl
  where
    go : (b : Bool) → named c (get_or xs j d) ≡ b → b ≡ false
    go true e = absurd (apart zero (suc j) d (omega arith) (omega arith) (bytes_eq-true x.flight.callsign c is
        ∙ sym (bytes_eq-true (get_or xs j d).flight.callsign c e)))
    go false e = refl

-- whether the flight of the callsign passes a test, where callsigns are apart
pub any_named : (c : Callsign) (test : Active → Bool) (xs : List Active) → AreApart xs
    → option_map_or test (find (named c) xs) false ≡ list_any (λ a. named c a && test a) xs
any_named c test [] apart = refl
any_named c test (x ∷ xs) apart = go (named c x) refl (any_named c test xs (tail_apart x xs apart))
  where
    none : (ys : List Active) → ((j : ℕ) (d : Active) → j < length ys → named c (get_or ys j d) ≡ false)
        → false ≡ list_any (λ a. named c a && test a) ys
    none [] h = refl
    none (y ∷ ys) h = none ys (λ j d lt. h (suc j) d (omega arith))
        ∙ ap (λ b. (b && test y) || list_any (λ a. named c a && test a) ys) (sym (h zero y (omega arith)))

    or : (b : Bool) → false ≡ list_any (λ a. named c a && test a) xs → b ≡ (b || list_any (λ a. named c a && test a) xs)
    or true h = refl
    or false h = h

    go : (b : Bool) → named c x ≡ b → option_map_or test (find (named c) xs) false ≡ list_any
        (λ a. named c a && test a) xs →
        option_map_or test (cond b (Some x) (find (named c) xs)) false ≡ ((b && test x)
        || list_any (λ a. named c a && test a) xs)
    go true e ih = or (test x) (none xs (none_behind c x xs apart e))
    go false e ih = ih

-- ---- a change of the flight that has a callsign

module _ (c : Callsign) (g : Active → Active) where
  -- with no flight of the callsign nothing changes
  pub none_named : (xs : List Active) → find (named c) xs ≡ None → map (at_named c g) xs ≡ xs
  none_named [] n = refl
  none_named (x ∷ xs) n = grind (arith, common_steps, none_named xs)

  -- the entry of the callsign has the new value, and no other flight has that callsign
  one_set : (a : Active) (es : List Entry) → Keyed es → AreApart (values_of es) → lookup (bytes_eq c) es ≡ Some a
      → values_of (set_value (bytes_eq c) es (g a)) ≡ map (at_named c g) (values_of es)
  one_set a [] h apart n = cc
  one_set a (e ∷ es) h apart n = search
      (rules, others, none_behind, one_set a es (tail_keyed e es h) (tail_apart e.1 (values_of es) apart))

  -- the flights of a map where the value under the callsign has changed
  pub changed_one : (es fs : List Entry) (a : Active) (x : Active) → Keyed es → IsDistinct bytes_eq (keys_of es)
      → lookup (bytes_eq c) es ≡ Some a → x ≡ g a → fs ≡ set_value (bytes_eq c) es x →
      values_of fs ≡ map (at_named c g) (values_of es)
  changed_one es fs a x h distinct n new e = search (rules, one_set, keyed_apart)

pub revision_keeps_name : (r : Revision) (a : Active) → name_of a ≡ (revised r a.flight).callsign
revision_keeps_name r a = grind arith

-- ---- a flight less

none_gone : (c : Callsign) (xs : List Active) → ((j : ℕ) (d : Active) → j < length xs → named c (get_or xs j d) ≡ false)
    → xs ≡ filter (λ a. not (named c a)) xs
none_gone c [] none = refl
none_gone c (x ∷ xs) none =
    ap (λ l. x ∷ l) (none_gone c xs (λ j d lt. none (suc j) d (omega arith)))
    ∙ ap (λ b. cond (not b) (x ∷ filter (λ a. not (named c a)) xs) (filter (λ a. not (named c a)) xs))
    (sym (none zero x (omega arith)))

-- the flights of a map without the entry of the callsign
pub values_gone : (c : Callsign) (es : List Entry) → Keyed es → AreApart (values_of es)
    → values_of (remove_entry (bytes_eq c) es) ≡ filter (λ a. not (named c a)) (values_of es)
values_gone c [] h apart = refl
values_gone c (e ∷ es) h apart = search
    (rules, none_gone, none_behind, values_gone c es (tail_keyed e es h) (tail_apart e.1 (values_of es) apart))

pub keyed_gone : (c : Callsign) (es : List Entry) → Keyed es → Keyed (remove_entry (bytes_eq c) es)
keyed_gone c [] h = refl
keyed_gone c (e ∷ es) h = search (rules, tail_keyed e es h, keyed_gone c es (tail_keyed e es h))

-- ---- by place

pub values_set : (es : List Entry) (i : ℕ) (a : Active) → values_of (set_value_at es i a) ≡ set (values_of es) i a
values_set [] i a = refl
values_set (e ∷ es) zero a = refl
values_set (e ∷ es) (suc i) a = cc (values_set es i a)

-- ---- the keys stay those of the flights

-- where the keys stay, and the flights keep their callsigns
pub keyed_still : (es fs : List Entry) (xs : List Active) → keys_of fs ≡ keys_of es → values_of fs ≡ xs
    → map name_of (values_of es) ≡ map name_of xs → Keyed es → Keyed fs
keyed_still es fs xs k v names h = cc

-- ---- the opening

-- the entry of a callsign that none of these flights has is not there
none_there : (c : Callsign) (d : files.Flight) (fs : List files.Flight)
    → ((j : ℕ) → j < length fs → (get_or fs j d).callsign ≢ c) → lookup (bytes_eq c) (newcomers fs) ≡ None
none_there c d [] h = refl
none_there c d (g ∷ fs) h = go (bytes_eq c g.callsign) refl (none_there c d fs (λ j lt. h (suc j) (omega arith)))
  where
    go : (b : Bool) → bytes_eq c g.callsign ≡ b → lookup (bytes_eq c) (newcomers fs) ≡ None
        → cond b (Some (newcomer (flight_of g))) (lookup (bytes_eq c) (newcomers fs)) ≡ None
    go true e ih = absurd (h zero (omega arith) (sym (bytes_eq-true c g.callsign e)))
    go false e ih = ih

module _ (fs : List files.Flight) (i : ℕ) (f : files.Flight) (lt : i < length fs) (is : f ≡ get_or fs i f) where
  pub not_yet : AllPairs (λ f later. f.callsign ≢ later.callsign) fs
      → lookup (bytes_eq f.callsign) (newcomers (take i fs)) ≡ None
  not_yet apart =
      none_there f.callsign f (take i fs)
      (λ j within same. let n = length-take i fs in
      apart j i f (omega arith) lt (ap (λ (g : files.Flight). g.callsign) (sym (get_or-take i fs j f (omega arith)))
      ∙ same ∙ ap (λ (g : files.Flight). g.callsign) is))

  pub one_more : newcomers (take i fs) ++ (f.callsign, newcomer (flight_of f)) ∷ [] ≡ newcomers (take (i + 1) fs)
  one_more =
      sym (ap newcomers (take_more fs i f lt ∙ ap (λ g. take i fs ++ g ∷ []) (sym is))
      ∙ map-append (λ (g : files.Flight). (g.callsign, newcomer (flight_of g))) (take i fs) (f ∷ []))

pub newcomers_keyed : (fs : List files.Flight) → Keyed (newcomers fs)
newcomers_keyed [] = refl
newcomers_keyed (f ∷ fs) = cc (newcomers_keyed fs)

-- the flights with what the entries say
pub all_opened : (a : Aerodrome) (fs : List files.Flight) →
    map (λ x. with_count (look_up x.flight.callsign (counts_in a.passed)) x)
    (map (λ x. with_second (look_up x.flight.callsign (seconds_in a.frozen)) x)
    (values_of (newcomers fs))) ≡ (opened a fs).active
all_opened a [] = refl
all_opened a (f ∷ fs) = grind (arith, common_steps, all_opened a fs)
