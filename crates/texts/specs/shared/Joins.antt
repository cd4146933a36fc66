-- Parts that are joined by a mark are cut at it again.
use Rattle.std.proofs.Common.{◌≡◌, ℕ, List, [], ◌∷◌, ◌++◌, true, false, refl, ap, ◌∙◌}
use Rattle.std.specs.Prelude.{◌==◌, ⊤}
use Rattle.std.specs.List.{join_with_byte}
use Rattle.texts.specs.Parts.{parts}

-- no byte of the text is the mark
abbrev pub IsWithout : ℕ → List ℕ → Type 0
IsWithout mark [] = ⊤
IsWithout mark (b ∷ rest) = ((b == mark) ≡ false) × IsWithout mark rest

abbrev pub AreWithout : ℕ → List (List ℕ) → Type 0
AreWithout mark [] = ⊤
AreWithout mark (p ∷ ps) = IsWithout mark p × AreWithout mark ps

pub IsWithout-append : (mark : ℕ) (a b : List ℕ) → IsWithout mark a → IsWithout mark b → IsWithout mark (a ++ b)
IsWithout-append mark [] b p q = q
IsWithout-append mark (x ∷ a) b p q = (p.0, IsWithout-append mark a b p.1 q)

pub parts-before : (mark : ℕ) (a rest : List ℕ) → IsWithout mark a → (mark == mark) ≡ true
    → parts mark (a ++ mark ∷ rest) ≡ a ∷ parts mark rest
parts-before mark [] rest p same = rw same refl
parts-before mark (b ∷ a) rest p same = rw (p.0, parts-before mark a rest p.1 same) refl

pub parts-one : (mark : ℕ) (a : List ℕ) → IsWithout mark a → parts mark a ≡ a ∷ []
parts-one mark [] p = refl
parts-one mark (b ∷ a) p = rw (p.0, parts-one mark a p.1) refl

pub parts-join : (mark : ℕ) (p : List ℕ) (ps : List (List ℕ)) → AreWithout mark (p ∷ ps) → (mark == mark) ≡ true
    → parts mark (join_with_byte mark (p ∷ ps)) ≡ p ∷ ps
parts-join mark p [] h same = parts-one mark p h.0
parts-join mark p (q ∷ ps) h same = parts-before mark p (join_with_byte mark (q ∷ ps)) h.0 same
    ∙ ap (λ (t : List (List ℕ)). p ∷ t) (parts-join mark q ps h.1 same)
