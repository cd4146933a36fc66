-- The lines that name active flights: at most all, and the flights are good ones.
use Rattle.std.proofs.Common.{◌≡◌, ℕ, ◌+◌, ◌<◌, ◌≤◌, Bool, true, false, cond, List, [], ◌∷◌, ◌++◌, length, get_or, map}
use Rattle.std.proofs.Common.{drop, Some, None, Option, refl, sym, ap, ◌∙◌, arith}
use Rattle.std.specs.Prelude.{All, IfSome, find, filter, is_none, is_some, option_map}
use Rattle.std.specs.List.{cons_option, list_any}
use Rattle.std.proofs.lemmas.List.Elements.{All-cons, All-head, All-tail}
use Rattle.landing_rules.specs.Flights.{Active}
use Rattle.landing_rules.specs.Rules.{waits}
use Rattle.landing_rules.specs.Sound.{IsGoodFlight}
use Rattle.landing_rules.specs.Events.{named}
use Rattle.landing_rules.specs.Text.{ShownLanding}
use Rattle.landing_rules.specs.Audit.{Unknown, landing_of, lines_found, unknown}
use Rattle.plan_file.specs.Shown.{shown_of}
use Rattle.plan_file.specs.declared.landing.Landing.{Landing}
use Rattle.audit.specs.Findings.{HasSmallWeight, one_found}
use Rattle.audit.specs.shared.Steps.{place_step}
use Rattle.audit.proofs.SeenNames.{some-find}

abbrev Pair : Type 0
Pair = ShownLanding × Active

pub few_found : (active : List Active) (lines : List ShownLanding) → length (lines_found active lines) ≤ length lines
few_found active [] = omega arith
few_found active (l ∷ lines) = go (one_found active l) (few_found active lines)
  where
    go : (o : Option Pair) → length (lines_found active lines) ≤ length lines
        → length (cons_option o (lines_found active lines)) ≤ length (l ∷ lines)
    go None h = omega arith
    go (Some x) h = omega arith

small_one : (l : ShownLanding) (p : Active → Bool) (active : List Active)
    → All (λ (a : Active). IsGoodFlight a.flight) active
    → IfSome (option_map (λ (a : Active). (l, a)) (find p active)) HasSmallWeight
small_one l p [] h = tt
small_one l p (a ∷ active) h =
    go (p a) (small_one l p active (All-tail (λ (b : Active). IsGoodFlight b.flight) a active h))
  where
    good : IsGoodFlight a.flight
    good = All-head (λ (b : Active). IsGoodFlight b.flight) a active h

    go : (b : Bool) → IfSome (option_map (λ (a : Active). (l, a)) (find p active)) HasSmallWeight
        → IfSome (option_map (λ (a : Active). (l, a)) (cond b (Some a) (find p active))) HasSmallWeight
    go true ih = good.weight.1
    go false ih = ih

pub small_found : (active : List Active) (lines : List ShownLanding)
    → All (λ (a : Active). IsGoodFlight a.flight) active → All HasSmallWeight (lines_found active lines)
small_found active [] h = λ k d lt. absurd (omega arith)
small_found active (l ∷ lines) h =
    go (one_found active l) (small_one l (named l.callsign) active h) (small_found active lines h)
  where
    go : (o : Option Pair) → IfSome o HasSmallWeight → All HasSmallWeight (lines_found active lines)
        → All HasSmallWeight (cons_option o (lines_found active lines))
    go None s ih = ih
    go (Some x) s ih = All-cons HasSmallWeight x (lines_found active lines) s ih

-- one more line
pub found_step : (active : List Active) (lines : List Landing)
    (i : ℕ) (l : Landing) (done more : List Pair) (whole : List Pair) → i < length lines → l ≡ get_or lines i l
    → more ≡ cons_option (one_found active (shown_of l)) [] → done ++ lines_found active (map shown_of (drop i lines))
    ≡ whole → (done ++ more) ++ lines_found active (map shown_of (drop (i + 1) lines)) ≡ whole
found_step active lines i l done more whole lt same e h =
    let left = λ (ls : List Landing). lines_found active (map shown_of ls) in
    place_step left left lines i l done more whole lt same
    (sym (ap (λ m. m ++ left (drop (i + 1) lines)) e ∙ one (one_found active (shown_of l)))) h
  where
    one : (o : Option Pair) → cons_option o [] ++ lines_found active (map shown_of (drop (i + 1) lines)) ≡ cons_option o
        (lines_found active (map shown_of (drop (i + 1) lines)))
    one None = refl
    one (Some x) = refl

-- with a flight for each line none is unknown
pub none_unknown : (active : List Active) (lines : List ShownLanding) → length (lines_found active lines) ≡ length lines
    → unknown active lines ≡ []
none_unknown active [] e = refl
none_unknown active (l ∷ lines) e = go (find (named l.callsign) active) (list_any (named l.callsign) active)
    (some-find (named l.callsign) active) (none_unknown active lines) e
  where
    go : (o : Option Active) (b : Bool) → is_some o ≡ b
        → (length (lines_found active lines) ≡ length lines → unknown active lines ≡ []) →
        length (cons_option (option_map (λ (a : Active). (l, a)) o) (lines_found active lines)) ≡ length (l ∷ lines) →
        cond b (unknown active lines) (Unknown l.callsign ∷ unknown active lines) ≡ []
    go (Some a) true h more e = more (omega (arith, e))
    go (Some a) false h more e = absurd (cc)
    go None b h more e = let few = few_found active lines in absurd (omega (arith, few, e))

-- ---- the lines of waiting flights

pub waiting_lines : {T : Type 0} (read : T → Pair) (ts : List T) (found : List Pair)
    → map read ts ≡ filter (λ (x : Pair). is_none x.1.frozen) found →
    map (λ t. landing_of (read t)) ts ≡ filter waits (map landing_of found)
waiting_lines {T} read ts found h = twice ts ∙ ap (map landing_of) h ∙ each found
  where
    twice : (us : List T) → map (λ t. landing_of (read t)) us ≡ map landing_of (map read us)
    twice [] = refl
    twice (u ∷ us) = ap (λ l. landing_of (read u) ∷ l) (twice us)

    each : (xs : List Pair) → map landing_of (filter (λ (x : Pair). is_none x.1.frozen) xs) ≡ filter waits
        (map landing_of xs)
    each [] = refl
    each (x ∷ xs) = go (is_none x.1.frozen) (each xs)
      where
        go : (b : Bool) → map landing_of (filter (λ (y : Pair). is_none y.1.frozen) xs) ≡ filter waits
            (map landing_of xs) →
            map landing_of (cond b (x ∷ filter (λ (y : Pair). is_none y.1.frozen) xs)
            (filter (λ (y : Pair). is_none y.1.frozen) xs)) ≡ cond b (landing_of x ∷ filter waits (map landing_of xs))
            (filter waits (map landing_of xs))
        go true ih = ap (λ l. landing_of x ∷ l) ih
        go false ih = ih
