-- A loop along a list that adds to another one: one element more, and the end.
use Rattle.std.proofs.Common.{◌≡◌, ℕ, ◌+◌, ◌<◌, ◌≤◌, List, [], ◌∷◌, ◌++◌, length, get_or, drop, refl, sym, ap, ◌∙◌}
use Rattle.std.proofs.Common.{append_assoc, append-nil}
use Rattle.std.proofs.lemmas.List.{drop_more, at_drop_all}

-- one element more of what is left
pub loop_step : {X E : Type 0}
    (before after : List X → List E) (rest tail : List X) (x : X) (old more new whole : List E) → rest ≡ x ∷ tail →
    new ≡ old ++ more → before (x ∷ tail) ≡ more ++ after tail → old ++ before rest ≡ whole → new ++ after tail ≡ whole
loop_step before after rest tail x old more new whole here e g h = ap (λ y. y ++ after tail) e
    ∙ append_assoc old more (after tail) ∙ ap (λ r. old ++ r) (sym g ∙ sym (ap before here)) ∙ h

-- the same by the element's place
pub place_step : {X E : Type 0} (before after : List X → List E) (xs : List X) (i : ℕ) (x : X)
    (done more whole : List E) →
    i < length xs → x ≡ get_or xs i x → before (x ∷ drop (i + 1) xs) ≡ more ++ after (drop (i + 1) xs)
    → done ++ before (drop i xs) ≡ whole → (done ++ more) ++ after (drop (i + 1) xs) ≡ whole
place_step before after xs i x done more whole lt is g h = loop_step before after (drop i xs) (drop (i + 1) xs)
    x done more (done ++ more) whole (drop_more xs i x lt ∙ ap (λ y. y ∷ drop (i + 1) xs) (sym is)) refl g h

-- where nothing is left, what is done is the whole
pub at_end : {X Y : Type 0} (done : List Y) (left : List X → List Y) (xs : List X) (i : ℕ) (whole : List Y) →
    length xs ≤ i → left [] ≡ [] → done ++ left (drop i xs) ≡ whole → done ≡ whole
at_end done left xs i whole end none h =
    sym (append-nil done) ∙ ap (λ l. done ++ l) (sym none ∙ sym (at_drop_all left xs i end)) ∙ h
