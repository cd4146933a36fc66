-- Freezing one flight after another freezes each.
use Rattle.std.proofs.Common.{rules, ◌≡◌, ℕ, zero, suc, ◌+◌, ◌<◌, Bool, true, false, cond, ◌&&◌, List, [], ◌∷◌, ◌++◌}
use Rattle.std.proofs.Common.{length, map, set, take, Option, Some, None, get_or, refl, arith}
use Rattle.std.proofs.lemmas.Grind.{common_steps}
use Rattle.std.specs.Prelude.{zip, is_none, filter}
use Rattle.landing_rules.specs.Flights.{Flight, Active, Aerodrome, Landing, landing, landings}
use Rattle.landing_rules.specs.Events.{after_clock, passed_after, freezes}
use Rattle.situations.specs.Freezes.{arrival, arrival_if, freezing, count_after, frozen_one, IsFreezeOf}
use Rattle.situations.specs.declared.freeze.Freeze.{Freeze}

-- ---- one flight after another

module _ {B : Type 0} (f : Active → B → Active) where
  -- the flights after the first i turns
  abbrev pub turned : ℕ → List Active → List B → List Active
  turned zero xs ys = xs
  turned (suc i) [] ys = []
  turned (suc i) (x ∷ xs) [] = x ∷ xs
  turned (suc i) (x ∷ xs) (y ∷ ys) = f x y ∷ turned i xs ys

  pub turned-step : (i : ℕ) (xs : List Active) (ys : List B) (d : Active) (e : B) → length xs ≡ length ys
      → i < length xs →
      set (turned i xs ys) i (f (get_or (turned i xs ys) i d) (get_or ys i e)) ≡ turned (suc i) xs ys
  turned-step i [] ys d e n l = absurd (omega arith)
  turned-step i (x ∷ xs) [] d e n l = cc
  turned-step zero (x ∷ xs) (y ∷ ys) d e n l = refl
  turned-step (suc i) (x ∷ xs) (y ∷ ys) d e n l = cc (turned-step i xs ys d e (omega arith) (omega arith))

  pub turned-all : (i : ℕ) (xs : List Active) (ys : List B) → length xs ≡ length ys → i ≡ length ys
      → turned i xs ys ≡ map (λ p. f p.0 p.1) (zip xs ys)
  turned-all i [] [] n l = cc
  turned-all i [] (y ∷ ys) n l = cc
  turned-all i (x ∷ xs) [] n l = cc
  turned-all zero (x ∷ xs) (y ∷ ys) n l = cc
  turned-all (suc i) (x ∷ xs) (y ∷ ys) n l = cc (turned-all i xs ys (omega arith) (omega arith))

-- ---- what freezes

-- one more flight
pub freezing-more : (h i : ℕ) (active : List Active) (ts : List ℕ) (d : Active) → length active ≡ length ts
    → i < length ts →
    freezing h (take i active) (take i ts) ++ arrival_if h (landing (get_or active i d) (get_or ts i 0)) ≡ freezing h
    (take (suc i) active) (take (suc i) ts)
freezing-more h i [] ts d n l = absurd (omega arith)
freezing-more h i (a ∷ active) [] d n l = cc
freezing-more h zero (a ∷ active) (t ∷ ts) d n l = search rules
freezing-more h (suc i) (a ∷ active) (t ∷ ts) d n l =
    go (freezes h (landing a t)) (freezing-more h i active ts d (omega arith) (omega arith))
  where
    go : (b : Bool) → freezing h (take i active) (take i ts)
        ++ arrival_if h (landing (get_or active i d) (get_or ts i 0)) ≡ freezing h (take (suc i) active)
        (take (suc i) ts)
        →
        map (λ (g : Landing). arrival g.flight)
        (cond b (landing a t ∷ filter (freezes h) (landings (take i active) (take i ts)))
        (filter (freezes h) (landings (take i active) (take i ts))))
        ++ arrival_if h (landing (get_or active i d) (get_or ts i 0))
        ≡ map (λ (g : Landing). arrival g.flight)
        (cond b (landing a t ∷ filter (freezes h) (landings (take (suc i) active) (take (suc i) ts)))
        (filter (freezes h) (landings (take (suc i) active) (take (suc i) ts))))
    go true ih = cc
    go false ih = ih

pub freezing-step : (h i : ℕ) (active : List Active) (ts : List ℕ) (a : Active) (now new : List (ℕ × List ℕ))
    → length active ≡ length ts → i < length ts → a ≡ get_or active i a →
    now ≡ freezing h (take i active) (take i ts) → new ≡ now ++ arrival_if h (landing a (get_or ts i 0))
    → new ≡ freezing h (take (i + 1) active) (take (i + 1) ts)
freezing-step h i active ts a now new n l at e set = search (rules, freezing-more)

-- ---- and what a clock event makes of a flight

abbrev froze : ℕ → Flight → Active
froze t f = record { flight = f; frozen = Some t; passed = 0 }

abbrev stays : Flight → Option ℕ → ℕ → Active
stays f o p = record { flight = f; frozen = o; passed = p }

parts : (t n m : ℕ) → n ≡ m → (f : Flight) (o : Option ℕ) (p : ℕ) (b : Bool) →
    cond (is_none o && b) (froze t f) (cond (is_none o) (stays f o n) (stays f o p)) ≡ cond
    (is_none o && b) (froze t f) (cond (is_none o) (stays f None m) (stays f o p))
parts t n m e f (Some s) p b = refl
parts t n m e f None p true = refl
parts t n m e f None p false = cc

kept-map : (test : ℕ × List ℕ → Bool) (all : List Landing)
    → length (filter test (map (λ (g : Landing). arrival g.flight) all)) ≡ length
    (filter (λ (g : Landing). test (arrival g.flight)) all)
kept-map test [] = refl
kept-map test (g ∷ all) = grind (arith, common_steps, kept-map test all)

-- the count that the rules give
count_is : (a : Aerodrome) (h : ℕ) (active : List Active) (ts : List ℕ) (z : Freeze) → IsFreezeOf a h active ts z
    → (x : Active) (t : ℕ) → count_after z x ≡ passed_after a h (landings active ts) (landing x t)
count_is a h active ts z of x t = grind (arith, common_steps)

pub frozen_flights : (a : Aerodrome) (h : ℕ) (active : List Active) (all : List ℕ) (z : Freeze)
    → IsFreezeOf a h active all z → (xs : List Active) (ts : List ℕ) →
    map (λ p. frozen_one z p.0 p.1) (zip xs ts) ≡ map (after_clock a h (landings active all)) (landings xs ts)
frozen_flights a h active all z of [] ts = refl
frozen_flights a h active all z of (x ∷ xs) [] = refl
frozen_flights a h active all z of (x ∷ xs) (t ∷ ts) = grind
    (arith, common_steps, frozen_flights a h active all z of xs ts)
