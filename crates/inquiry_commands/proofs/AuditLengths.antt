-- How long the lines of all findings are.
use Rattle.std.proofs.Common.{◌≡◌, ℕ, suc, ◌+◌, ◌*◌, ◌≤◌, inl, inr, List, [], ◌∷◌, ◌++◌, length, map, filter}
use Rattle.std.proofs.Common.{if◌then◌else◌, true, false, Bool, Option, Some, None, refl, sym, subst, arith}
use Rattle.std.specs.Prelude.{◌==◌, ⊤, All, bytes_eq, codes, decimal, find, flat_map, nat_lt, unwrap_or}
use Rattle.std.proofs.Math.Nat.{mul-le-mul_left, mul-le-mul_right}
use Rattle.std.proofs.lemmas.Bool.{cases_Bool}
use Rattle.std.proofs.lemmas.Fmt.{length-decimal-le}
use Rattle.std.proofs.lemmas.Slice.Eq.{bytes_eq-Decides}
use Rattle.std.proofs.lemmas.List.{length-append, length-map}
use Rattle.std.proofs.lemmas.List.Elements.{All-nil, All-cons, All-filter, All-head, All-tail}
use Rattle.std.proofs.lemmas.List.Sums.{count_by-le-length, length-filter}
use Rattle.std.specs.List.{list_any}
use Rattle.std.specs.Ordering.{is_lt}
use Rattle.landing_rules.specs.Audit.{Block, Finding, Missing, Unknown, Twice, Order, Mark, Closed, Separation}
use Rattle.landing_rules.specs.Audit.{Precedence, Moved, Early, Shift, Value, are_apart, by_head, by_line, by_name}
use Rattle.landing_rules.specs.Audit.{by_rules, closed, disordered, disordered_from, early, findings, for_failing}
use Rattle.landing_rules.specs.Audit.{for_failing_pairs, has_line, is_kept, is_late_enough, is_marked, is_objective}
use Rattle.landing_rules.specs.Audit.{landing_of, late, lines_found, listed_late, mismarked, missing, moved, or_else}
use Rattle.landing_rules.specs.Audit.{other_objective, other_value, shifted, twice, twice_after, unknown, unseparated}
use Rattle.landing_rules.specs.Events.{named}
use Rattle.landing_rules.specs.Flights.{Active, Callsign, Flight, Landing, Situation, horizon}
use Rattle.cps_base.specs.Limits.{greatest_weight, most_flights}
use Rattle.landing_rules.specs.Rules.{arrival_cmp, cost, is_open, last_second, place, rank_among, waits}
use Rattle.landing_rules.specs.Sound.{IsGoodFlight, IsSound}
use Rattle.landing_rules.specs.Testing.{is_shift_kept}
use Rattle.landing_rules.specs.Text.{ShownLanding, line}
use Rattle.landing_rules.specs.shared.Counting.{Member}
use Rattle.landing_rules.specs.shared.Members.{all_at, all_from, cases_option, found_in}
use Rattle.audit.specs.Texts.{finding_words, findings_text}
use Rattle.text_bounds.specs.shared.Lengths.{callsign_short, second_short, value_short}
use Rattle.plan_file.specs.shared.Objectives.{IsLight, cost_low}
use Rattle.text_bounds.specs.shared.Events.{active_name, frozen_second}
use Rattle.inquiry_commands.proofs.PlanLines.{IsTold}

-- ---- lists of findings

-- a finding whose line has at most 30 bytes
abbrev Fits : Finding → Type 0
Fits f = length (line (finding_words f)) ≤ 30

joined : (a b : List Finding) → length (findings_text (a ++ b)) ≡ length (findings_text a) + length (findings_text b)
joined [] b = omega arith
joined (x ∷ a) b = simp length-append (omega (arith, joined a b))

more : (x : Finding) (a : List Finding)
    → length (findings_text (x ∷ a)) ≡ length (line (finding_words x)) + length (findings_text a)
more x a = length-append (line (finding_words x)) (findings_text a)

module _ {X : Type 0} (P : X → Type 0) where
  failing_short : (passes : X → Bool) (finding : X → Finding) (xs : List X)
      → ((x : X) → P x → passes x ≡ false → Fits (finding x))
      → All P xs → length (findings_text (for_failing passes finding xs)) ≤ 30 * length xs
  failing_short passes finding [] fits all = omega arith
  failing_short passes finding (x ∷ xs) fits all =
      let rest = failing_short passes finding xs fits (All-tail P x xs all) in
      elim (cases_Bool (passes x)) [
        | inl passed ↦ rw passed (omega (arith, rest))
        | inr failed ↦ rw failed
            (omega (arith, fits x (All-head P x xs all) failed, more (finding x) (for_failing passes finding xs)))
      ]

  -- half as many as all pairs
  pairs_short : (pass : X → X → Bool) (finding : X → X → Finding) (xs : List X)
      → ((x y : X) → P x → P y → Fits (finding x y))
      → All P xs → length (findings_text (for_failing_pairs pass finding xs)) ≤ 15 * (length xs * length xs)
  pairs_short pass finding [] fits all = omega arith
  pairs_short pass finding (x ∷ xs) fits all =
      let here = All-head P x xs all in
      let own = failing_short (pass x) (finding x) xs (λ y p failed. fits x y here p) (All-tail P x xs all) in
      let rest = pairs_short pass finding xs fits (All-tail P x xs all) in
      square (length xs) _ _ _ own rest (joined (for_failing (pass x) (finding x) xs)
      (for_failing_pairs pass finding xs))
    where
      square : (n a b c : ℕ) → a ≤ 30 * n → b ≤ 15 * (n * n) → c ≡ a + b → c ≤ 15 * (suc n * suc n)
      square n a b c own rest both = omega arith

  flat_short : (m : ℕ) (g : X → List Finding) (xs : List X) → ((x : X) → P x → length (findings_text (g x)) ≤ m)
      → All P xs → length (findings_text (flat_map g xs)) ≤ length xs * m
  flat_short m g [] short all = omega arith
  flat_short m g (x ∷ xs) short all =
      let own = short x (All-head P x xs all) in
      let rest = flat_short m g xs short (All-tail P x xs all) in
      once_more (length xs) _ _ _ own rest (joined (g x) (flat_map g xs))
    where
      once_more : (n a b c : ℕ) → a ≤ m → b ≤ n * m → c ≡ a + b → c ≤ suc n * m
      once_more n a b c own rest both = omega arith

-- ---- the names and the order of the lines

twice_short : (seen ls : List ShownLanding) → All IsTold ls
    → length (findings_text (twice_after seen ls)) ≤ 30 * length ls
twice_short seen [] told = omega arith
twice_short seen (l ∷ ls) told =
    let rest = twice_short (l ∷ seen) ls (All-tail IsTold l ls told) in
    let name = callsign_short l.callsign (All-head IsTold l ls told).callsign in
    elim (cases_Bool (has_line seen l.callsign)) [
      | inl there ↦ rw there (
          let both = more (Twice l.callsign) (twice_after (l ∷ seen) ls) in
          let end = length-append l.callsign (10 ∷ []) in
          omega arith)
      | inr new ↦ rw new (omega arith)
    ]

small : (n : ℕ) → n ≤ 999 → length (decimal n) ≤ 3
small n le = length-decimal-le 3 n (omega arith) (omega arith) (omega arith)

order_short : (i t : ℕ) (ls : List ShownLanding) → i + length ls ≤ 999
    → length (findings_text (disordered_from i t ls)) ≤ 30 * length ls
order_short i t [] few = omega arith
order_short i t (l ∷ ls) few =
    let rest = order_short (i + 1) l.second ls (omega (arith, few)) in
    let digits = small i (omega (arith, few)) in
    elim (cases_Bool (nat_lt t l.second)) [
      | inl later ↦ rw later (omega arith)
      | inr before ↦ rw before (
          let both = more (Order i) (disordered_from (i + 1) l.second ls) in
          let end = length-append (decimal i) (10 ∷ []) in
          omega arith)
    ]

disordered_short : (ls : List ShownLanding) → length ls ≤ most_flights
    → length (findings_text (disordered ls)) ≤ 30 * length ls
disordered_short [] few = omega arith
disordered_short (l ∷ ls) few = omega (arith, order_short 2 l.second ls (omega arith))

-- ---- a callsign has one line where none stands twice

same_name : (c d : Callsign) → bytes_eq c d ≡ true → c ≡ d
same_name c d e = (bytes_eq-Decides c d).0 e

-- how many lines have a callsign
abbrev lines_named : Callsign → List ShownLanding → ℕ
lines_named c [] = 0
lines_named c (l ∷ ls) = if bytes_eq l.callsign c then 1 + lines_named c ls else lines_named c ls

-- what is behind a line that was new
behind_new : (seen ls : List ShownLanding) (l : ShownLanding) → twice_after seen (l ∷ ls) ≡ []
    → (has_line seen l.callsign ≡ false) × (twice_after (l ∷ seen) ls ≡ [])
behind_new seen ls l none = elim (cases_Bool (has_line seen l.callsign)) [
  | inl there ↦ absurd (cc (rw there at none))
  | inr new ↦ (new, rw new at none)
]

none_again : (seen ls : List ShownLanding) (c : Callsign) → has_line seen c ≡ true → twice_after seen ls ≡ []
    → lines_named c ls ≡ 0
none_again seen [] c there none = refl
none_again seen (l ∷ ls) c there none =
    let new = behind_new seen ls l none in
    elim (cases_Bool (bytes_eq l.callsign c)) [
      | inl same ↦ absurd (let is = same_name l.callsign c same in cc (new.0, there))
      | inr other ↦ rw other (none_again (l ∷ seen) ls c (rw (other, there) refl) new.1)
    ]

one_line : (seen ls : List ShownLanding) (c : Callsign) → twice_after seen ls ≡ [] → lines_named c ls ≤ 1
one_line seen [] c none = omega arith
one_line seen (l ∷ ls) c none =
    let new = behind_new seen ls l none in
    elim (cases_Bool (bytes_eq l.callsign c)) [
      | inl same ↦ rw same (let rest = none_again (l ∷ seen) ls c (rw same refl) new.1 in omega (arith, rest))
      | inr other ↦ rw other (one_line (l ∷ seen) ls c new.1)
    ]

-- and how many landings
abbrev landings_named : Callsign → List Landing → ℕ
landings_named c [] = 0
landings_named c (f ∷ all) = if bytes_eq f.flight.callsign c then 1 + landings_named c all else landings_named c all

-- ---- a line of words and names

one_name : (c : Callsign) → length c ≤ 8 → length (c ++ 10 ∷ []) ≤ 9
one_name c short = simp length-append (omega arith)

-- two texts with a blank between them
two_texts : (a b : List ℕ) → length ((a ++ codes " " ++ b) ++ 10 ∷ []) ≡ length a + length b + 2
two_texts a b = simp length-append (omega arith)

module _ (s : Situation) (sound : IsSound s) where
  -- a line with a flight that is active
  record IsFound (x : ShownLanding × Active) : Type 0 where
    line : IsTold x.0
    there : Member x.1 s.active

  found_all : (ls : List ShownLanding) → All IsTold ls
      → All IsFound (lines_found s.active ls) × (length (lines_found s.active ls) ≤ length ls)
  found_all [] told = (All-nil IsFound, omega arith)
  found_all (l ∷ ls) told =
      let rest = found_all ls (All-tail IsTold l ls told) in
      let few = rest.1 in
      elim (cases_option (find (named l.callsign) s.active)) [
        | inl none ↦ rw none (rest.0, omega (arith, few))
        | inr some ↦ rw some.1 (
          All-cons IsFound (l, some.0) (lines_found s.active ls) (record {
            line = All-head IsTold l ls told;
            there = (found_in (named l.callsign) s.active some.0 some.1).0;
          }) rest.0,
          omega (arith, few),
        )
      ]

  -- at most one landing has a callsign, where at most one line has it
  found_named : (c : Callsign) (ls : List ShownLanding)
      → landings_named c (map landing_of (lines_found s.active ls)) ≤ lines_named c ls
  found_named c [] = omega arith
  found_named c (l ∷ ls) =
      let rest = found_named c ls in
      elim (cases_option (find (named l.callsign) s.active)) [
        | inl none ↦ rw none (elim (cases_Bool (bytes_eq l.callsign c)) [
          | inl same ↦ rw same (omega (arith, rest))
          | inr other ↦ rw other rest
        ])
        | inr some ↦ rw some.1 (
            let is : some.0.flight.callsign ≡ l.callsign = same_name some.0.flight.callsign l.callsign
            (found_in (named l.callsign) s.active some.0 some.1).1 in
            elim (cases_Bool (bytes_eq l.callsign c)) [
              | inl same ↦
                  (let there : bytes_eq some.0.flight.callsign c ≡ true = subst
                  (λ (x : Callsign). bytes_eq x c ≡ true) (sym is) same in
                  rw (same, there) (omega (arith, rest)))
              | inr other ↦
                  (let there : bytes_eq some.0.flight.callsign c ≡ false = subst
                  (λ (x : Callsign). bytes_eq x c ≡ false) (sym is) other in
                  rw (other, there) rest)
            ])
      ]

  -- what is known of a landing
  record IsKnown (f : Landing) : Type 0 where
    name : length f.flight.callsign ≤ 8
    second : f.second ≤ last_second
    weight : f.flight.weight ≤ greatest_weight
    after : length f.flight.after ≤ 4
    frozen : unwrap_or f.frozen 0 ≤ last_second

  frozen_low : (a : Active) (o : Option ℕ) → Member a s.active → a.frozen ≡ o → unwrap_or o 0 ≤ last_second
  frozen_low a None m e = omega arith
  frozen_low a (Some t) m e = frozen_second s sound a t m e

  known : (x : ShownLanding × Active) → IsFound x → IsKnown (landing_of x)
  known x found =
      let good = all_at (λ (b : Active). IsGoodFlight b.flight) s.active sound.flights x.1 found.there in
      record {
        name = active_name s sound x.1 found.there;
        second = found.line.second;
        weight = good.weight.1;
        after = good.after;
        frozen = frozen_low x.1 x.1.frozen found.there refl;
      }

  known_all : (xs : List (ShownLanding × Active)) → All IsFound xs → All IsKnown (map landing_of xs)
  known_all [] all = All-nil IsKnown
  known_all (x ∷ xs) all = All-cons IsKnown (landing_of x)
      (map landing_of xs) (known x (All-head IsFound x xs all)) (known_all xs (All-tail IsFound x xs all))

  -- ---- the rules

  module _ (all : List Landing) (has : All IsKnown all) (few : length all ≤ most_flights) (once : (c : Callsign)
      → landings_named c all ≤ 1) where
    closed_short : length (findings_text (closed s all)) ≤ 30 * length all
    closed_short = failing_short IsKnown (λ f. is_open f.flight.windows s.closures f.second)
        (λ (f : Landing). Closed f.flight.callsign f.second) all (λ f h failed. omega
        (arith, second_short f.second h.second, two_texts f.flight.callsign (decimal f.second))) has

    pair_fits : (f g : Landing) → IsKnown f → IsKnown g → Fits (Separation f.flight.callsign g.flight.callsign)
    pair_fits f g h k = omega (arith, two_texts f.flight.callsign g.flight.callsign)

    unseparated_short : length (findings_text (unseparated s.aerodrome.table all)) ≤ 15 * (length all * length all)
    unseparated_short = pairs_short IsKnown (are_apart s.aerodrome.table)
        (λ (f g : Landing). Separation f.flight.callsign g.flight.callsign) all pair_fits has

    listed_fits : (d : Landing) (c : Callsign) → IsKnown d → length c ≤ 8 → Fits (Precedence c d.flight.callsign)
    listed_fits d c k short = omega (arith, two_texts c d.flight.callsign)

    -- a finding for each landing of the callsign at most
    listed_few : (d : Landing) (c : Callsign) → IsKnown d → (fs : List Landing) → All IsKnown fs
        → length (findings_text (listed_late fs d c)) ≤ 30 * landings_named c fs
    listed_few d c k [] h = omega arith
    listed_few d c k (f ∷ fs) h =
        let rest = listed_few d c k fs (All-tail IsKnown f fs h) in
        elim (cases_Bool (bytes_eq f.flight.callsign c)) [
          | inl same ↦ rw same (elim (cases_Bool (nat_lt f.second d.second)) [
            | inl before ↦ rw before (omega (arith, rest))
            | inr behind ↦ rw behind (
                let name : length c ≤ 8 = subst (λ (x : Callsign). length x ≤ 8)
                (same_name f.flight.callsign c same) (All-head IsKnown f fs h).name in
                let both = more (Precedence c d.flight.callsign) (listed_late fs d c) in
                omega (arith, listed_fits d c k name))
          ])
          | inr other ↦ rw other rest
        ]

    listed_short : (d : Landing) (c : Callsign) → IsKnown d → length (findings_text (listed_late all d c)) ≤ 30
    listed_short d c k = omega (arith, listed_few d c k all has, once c)

    late_of : (d : Landing) → IsKnown d → length (findings_text (flat_map (listed_late all d) d.flight.after)) ≤ 120
    late_of d k = omega (
      arith,
      flat_short (λ (c : Callsign). ⊤) 30 (listed_late all d) d.flight.after (λ c t. listed_short d c k) (λ i c lt. tt),
    )

    late_short : length (findings_text (late all)) ≤ 120 * length all
    late_short = omega
        (arith, flat_short IsKnown 120 (λ (d : Landing). flat_map (listed_late all d) d.flight.after) all late_of has)

    moved_short : length (findings_text (moved all)) ≤ 30 * length all
    moved_short = failing_short IsKnown is_kept
        (λ (f : Landing). Moved f.flight.callsign (unwrap_or f.frozen 0)) all (λ f h failed. omega (
          arith,
          second_short (unwrap_or f.frozen 0) h.frozen,
          two_texts f.flight.callsign (decimal (unwrap_or f.frozen 0)),
        )) has

    early_short : length (findings_text (early (horizon s) all)) ≤ 30 * length all
    early_short = failing_short IsKnown (is_late_enough (horizon s)) (λ (f : Landing). Early f.flight.callsign) all
        (λ f h failed. omega (arith, one_name f.flight.callsign h.name)) has

    fewer : length (filter waits all) ≤ length all
    fewer = omega (arith, length-filter waits all, count_by-le-length waits all)

    shift_fits : (f : Landing) → IsKnown f
        → Fits (Shift f.flight.callsign (place (filter waits all) f) (rank_among (filter waits all) f))
    shift_fits f h =
        let less = fewer in
        let p = count_by-le-length (λ (g : Landing). nat_lt g.second f.second) (filter waits all) in
        let q = count_by-le-length (λ (g : Flight). is_lt (arrival_cmp g f.flight)) (map (λ (g : Landing). g.flight)
        (filter waits all)) in
        let r = length-map (filter waits all) (λ (g : Landing). g.flight) in
        let x = small (place (filter waits all) f) (omega arith) in
        let y = small (rank_among (filter waits all) f) (omega arith) in
        simp length-append (omega arith)

    shifted_short : length (findings_text (shifted s.aerodrome.k (filter waits all))) ≤ 30 * length all
    shifted_short = omega (
      arith,
      fewer,
      failing_short IsKnown (is_shift_kept s.aerodrome.k (filter waits all))
          (λ (f : Landing). Shift f.flight.callsign (place (filter waits all) f) (rank_among (filter waits all) f))
          (filter waits all) (λ f h failed. shift_fits f h) (All-filter waits IsKnown all has),
    )

    rules_short : length (findings_text (by_rules s all)) ≤ 240 * length all + 15 * (length all * length all)
    rules_short = simp joined
        (omega (arith, closed_short, unseparated_short, late_short, moved_short, early_short, shifted_short))

    head_short : (b : Block) → length (findings_text (by_head s b all)) ≤ 60
    head_short b = omega (
      arith,
      objective_line,
      value_line,
      joined (other_objective b.objective s.aerodrome.objective)
          (other_value b.plan.value (cost s.aerodrome.objective all)),
    )
      where
        objective_line : length (findings_text (other_objective b.objective s.aerodrome.objective)) ≤ 30
        objective_line = elim (cases_Bool (is_objective b.objective s.aerodrome.objective)) [
          | inl same ↦ rw same (omega arith)
          | inr other ↦ rw other (omega arith)
        ]

        light : (fs : List Landing) → All IsKnown fs → All IsLight fs
        light [] h = All-nil IsLight
        light (f ∷ fs) h =
            let own = All-head IsKnown f fs h in
            All-cons IsLight f fs (record { weight = own.weight; second = own.second }) (light fs
            (All-tail IsKnown f fs h))

        value_line : length (findings_text (other_value b.plan.value (cost s.aerodrome.objective all))) ≤ 30
        value_line = elim (cases_Bool (cost s.aerodrome.objective all == b.plan.value)) [
          | inl same ↦ rw same (omega arith)
          | inr other ↦ rw other (
              let low = cost_low s.aerodrome.objective all (light all has) few in
              let digits = value_short (cost s.aerodrome.objective all) low in
              let one = more (Value (cost s.aerodrome.objective all)) [] in
              let end = length-append (decimal (cost s.aerodrome.objective all)) (10 ∷ []) in
              omega arith)
        ]

  -- ---- all findings of a block

  module _ (b : Block) (told : All IsTold b.plan.landings) (few : length b.plan.landings ≤ most_flights) where
    names_short : length (findings_text
        (by_name s.active b.plan.landings)) ≤ 30 * length s.active + 60 * length b.plan.landings
    names_short =
        let ls = b.plan.landings in
        let x = failing_short (λ (a : Active). Member a s.active) (λ a. has_line ls a.flight.callsign)
        (λ (a : Active). Missing a.flight.callsign) s.active
        (λ a m failed. omega (arith, one_name a.flight.callsign (active_name s sound a m)))
        (all_from (λ (a : Active). Member a s.active) s.active (λ a m. m)) in
        let y = failing_short IsTold (λ l. list_any (named l.callsign) s.active)
        (λ (l : ShownLanding). Unknown l.callsign) ls
        (λ l h failed. omega (arith, one_name l.callsign (callsign_short l.callsign h.callsign))) told in
        simp joined (omega (arith, x, y, twice_short [] ls told))

    line_short : twice b.plan.landings ≡ [] → length (findings_text (by_line s b))
        ≤ 60 + 300 * length b.plan.landings + 15 * (length b.plan.landings * length b.plan.landings)
    line_short none =
        let ls = b.plan.landings in
        let found = lines_found s.active ls in
        let are = found_all ls told in
        let fewer = are.1 in
        let all = map landing_of found in
        let as_many = length-map found landing_of in
        let little : length all ≤ most_flights = omega (arith, fewer, as_many, few) in
        let once : (c : Callsign) → landings_named c all ≤ 1 = λ c.
        (omega (arith, one_line [] ls c none, found_named c ls)) in
        let rules = rules_short all (known_all found are.0) little once in
        let head = head_short all (known_all found are.0) little once b in
        let order = disordered_short ls few in
        let marks = failing_short IsFound is_marked (λ (x : ShownLanding × Active). Mark x.0.callsign) found
        (λ x h failed. omega (arith, one_name x.0.callsign (callsign_short x.0.callsign h.line.callsign))) are.0 in
        let r = joined (by_rules s all) (by_head s b all) in
        let q = joined (mismarked found) (by_rules s all ++ by_head s b all) in
        let p = joined (disordered ls) (mismarked found ++ (by_rules s all ++ by_head s b all)) in
        let less : length all ≤ length ls = omega (arith, fewer, as_many) in
        let across = mul-le-mul_right (length all) less in
        let down = mul-le-mul_left (length ls) less in
        omega arith

    -- none by name, so none that stands twice
    none_twice : (xs ys zs : List Finding) → xs ++ (ys ++ zs) ≡ [] → zs ≡ []
    none_twice [] [] zs e = e
    none_twice [] (y ∷ ys) zs e = absurd (cc e)
    none_twice (x ∷ xs) ys zs e = absurd (cc e)

    -- the findings of the names, or the others
    pub findings_short : length (findings_text (findings s b))
        ≤ 60 + 30 * length s.active + 300 * length b.plan.landings + 15 *
        (length b.plan.landings * length b.plan.landings)
    findings_short = go (by_name s.active b.plan.landings) refl names_short
      where
        go : (xs : List Finding) → by_name s.active b.plan.landings ≡ xs
            → length (findings_text xs) ≤ 30 * length s.active + 60 * length b.plan.landings
            → length (findings_text (or_else xs (by_line s b)))
            ≤ 60 + 30 * length s.active + 300 * length b.plan.landings + 15 *
            (length b.plan.landings * length b.plan.landings)
        go [] e h = omega (
          arith,
          line_short (none_twice (missing s.active b.plan.landings) (unknown s.active b.plan.landings)
              (twice b.plan.landings) e),
        )
        go (x ∷ xs) e h = omega (arith, h)
