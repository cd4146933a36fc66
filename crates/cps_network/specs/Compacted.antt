-- What is left of a list where a test keeps some places.
use Rattle.std.specs.Prelude.{Bool, true, false, List, [], ◌∷◌, Option, Some, None}

-- the entries at the places where the list of answers has true, in order
abbrev pub kept_where : {A : Type 0} → List Bool → List A → List A
kept_where [] xs = []
kept_where (b ∷ bs) [] = []
kept_where (true ∷ bs) (x ∷ xs) = x ∷ kept_where bs xs
kept_where (false ∷ bs) (x ∷ xs) = kept_where bs xs

-- what stands in a whole, where there is one, and else what is left of it
abbrev pub whole_or_left : {A B : Type 0} → Option A → (A → B) → B → B
whole_or_left (Some whole) inside left = inside whole
whole_or_left None inside left = left
