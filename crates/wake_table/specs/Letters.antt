-- The wake categories, in letter order.
use Rattle.std.specs.Prelude.{ℕ, List, [], ◌∷◌, length, Option, Some, None, ◌==◌, if◌then◌else◌}
use Rattle.wake_table.specs.declared.category.Category.{Category}
use Rattle.wake_table.specs.declared.category.Category.TheVariants.{A, B, C, D, E, F}

abbrev pub letters : List Category
letters = A ∷ B ∷ C ∷ D ∷ E ∷ F ∷ []

-- how many there are
abbrev pub category_count : ℕ
category_count = length letters

-- the place of a category among them, from 0
abbrev pub place : Category → ℕ
place A = 0
place B = 1
place C = 2
place D = 3
place E = 4
place F = 5

-- the code of its capital letter
abbrev pub letter : Category → ℕ
letter A = 65
letter B = 66
letter C = 67
letter D = 68
letter E = 69
letter F = 70

-- that letter as a text
abbrev pub letter_text : Category → List ℕ
letter_text c = letter c ∷ []

-- the category with this letter
abbrev pub with_letter : ℕ → Option Category
with_letter b =
    if b == 65 then Some A else if b == 66 then Some B else if b == 67 then Some C
    else if b == 68 then Some D else if b == 69 then Some E else if b == 70 then Some F else None

-- the category that a text names: one capital letter and nothing else
abbrev pub category_of : List ℕ → Option Category
category_of [] = None
category_of (b ∷ []) = with_letter b
category_of (b ∷ c ∷ rest) = None
