-- Places of flights in order of arrival, and the waiting flights that stand there.
use Rattle.std.proofs.Common.{◌≡◌, ℕ, ◌+◌, ◌<◌, ◌≤◌, Bool, true, false, cond, not, Option, None, List, [], ◌∷◌, ◌++◌}
use Rattle.std.proofs.Common.{length, get_or, map, filter, take, Some, refl, sym, ap, ap₂, ◌∙◌, arith}
use Rattle.std.specs.Prelude.{All, is_none, is_some, slice_get}
use Rattle.std.proofs.lemmas.Bool.{false≢true}
use Rattle.std.proofs.lemmas.List.{append-nil, take_more, length-map}
use Rattle.std.proofs.lemmas.List.Elements.{All-head, All-tail, filter-append}
use Rattle.cps_base.specs.Limits.{most_waiting}
use Rattle.landing_rules.specs.Flights.{Active, Situation, is_waiting, waiting}
use Rattle.landing_rules.specs.Problem.{by_rank}
use Rattle.landing_rules.specs.Sound.{IsSound}
use Rattle.sequencer.specs.Ranked.{ArePlacesByRank, IsAt}
use Rattle.sequencer.proofs.Ranks.{rank_length}

-- one element more of those that pass a test
pub filter_more : (test : Active → Bool) (xs : List Active) (i : ℕ) (x : Active) (found : List Active)
    → i < length xs → x ≡ get_or xs i x → found ≡ filter test (take i xs) →
    cond (test x) (found ++ x ∷ []) found ≡ filter test (take (i + 1) xs)
filter_more test xs i x found lt is e = sym (ap (filter test) here ∙ filter-append test _ (x ∷ [])
    ∙ ap (λ l. l ++ filter test (x ∷ [])) (sym e) ∙ go (test x))
  where
    here : take (i + 1) xs ≡ take i xs ++ x ∷ []
    here = take_more xs i x lt ∙ ap (λ b. take i xs ++ b ∷ []) (sym is)

    go : (b : Bool) → found ++ cond b (x ∷ []) [] ≡ cond b (found ++ x ∷ []) found
    go true = refl
    go false = append-nil found

-- what stands at each place
pub places_at : {X : Type 0} (flights : List Active) (place : X → ℕ) (flight : X → Active) (ps : List X) →
    All (λ p. IsAt flights (place p) (flight p)) ps → map (slice_get flights) (map place ps) ≡ map Some (map flight ps)
places_at flights place flight [] all = refl
places_at flights place flight (p ∷ ps) all = ap₂ (λ o l. o ∷ l) (All-head (λ p. IsAt flights (place p) (flight p))
    p ps all) (places_at flights place flight ps (All-tail (λ p. IsAt flights (place p) (flight p)) p ps all))

pub few_ranked : {X : Type 0} (s : Situation) (flight : X → Active) (ranked : List X) → IsSound s
    → map flight ranked ≡ by_rank (waiting s) → length ranked ≤ most_waiting
few_ranked s flight ranked sound is =
    let a = length-map ranked flight in
    let b = ap (length {A = Active}) is in
    let c = rank_length (waiting s) in
    omega (arith, sound.few_waiting)

-- the places of flights by rank
pub by_rank_places : {X : Type 0} (s : Situation) (place : X → ℕ) (flight : X → Active) (ranked : List X)
    (flights : List Active) (places : List ℕ) → flights ≡ s.active
    → map flight ranked ≡ by_rank (filter is_waiting flights) →
    All (λ p. IsAt flights (place p) (flight p)) ranked → places ≡ map place ranked → ArePlacesByRank s places
by_rank_places s place flight ranked flights places same is at e = ap (map (slice_get s.active)) e
    ∙ ap (λ l. map (slice_get l) (map place ranked)) (sym same) ∙ places_at flights place flight ranked at
    ∙ ap (map (λ a. Some a)) (is ∙ ap (λ l. by_rank (filter is_waiting l)) same)

-- a flight that is not frozen waits
pub waits_where : (o : Option ℕ) (r : Bool) → is_some o ≡ not r → is_none o ≡ r
waits_where None true e = refl
waits_where None false e = absurd (false≢true e)
waits_where (Some t) true e = absurd (false≢true (sym e))
waits_where (Some t) false e = refl
