-- How a list is kept in an array of n places: with blanks behind it.
use Rattle.std.specs.Prelude.{ℕ, List, ◌++◌, ◌-◌, length, replicate}

abbrev pub padded : {A : Type 0} → A → ℕ → List A → List A
padded blank n xs = xs ++ replicate (n - length xs) blank
