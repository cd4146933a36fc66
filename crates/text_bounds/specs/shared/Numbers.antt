-- A number that a text is, is in its range.
use Rattle.std.proofs.Common.{rules, ◌≡◌, ℕ, ◌≤◌, List, Some, Ok, arith}
use Rattle.cps_base.specs.Number.{number_within}
use Rattle.texts.specs.Parts.{number_in}

pub within : (text : List ℕ) (least most n : ℕ) → number_within text least most ≡ Ok n → (least ≤ n) × (n ≤ most)
unfolding number_within
within text least most n e = grind arith

pub in_most : (text : List ℕ) (least most n : ℕ) → number_in text least most ≡ Some n → n ≤ most
unfolding number_in
in_most text least most n e = search (rules, within)
