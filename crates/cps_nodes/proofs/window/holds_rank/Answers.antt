use Rattle.std.proofs.Common.{◌≡◌, ℕ, ◌-◌, ◌<◌, Bool, true, false, length, arith, rules, tests}
use Rattle.std.specs.Prelude.{ℤ, pos, ◌+ℤ◌, ◌↔◌, IsTrue}
use Rattle.std.specs.Bool.{MatchBool}
use Rattle.std.specs.List.{AllWithin, HoldsAt, range_with_len}
use Rattle.std.proofs.lemmas.Iterator.{YieldsList-from_range, cases_from_any}
use Rattle.std.proofs.lemmas.List.FromFn.{length-range_with_len, get_or-range_with_len}
use Rattle.cps_nodes.specs.Windows.{HoldsRank}
use Rattle.cps_nodes.specs.Digits.{digit_offset, offsets_of, length-offsets_of}
use Rattle.cps_nodes.proofs.DigitLemmas.{offset_at-offsets_of}
use Rattle.cps_nodes.proofs.window.holds_rank.Goals as goal

-- the place holds the rank
abbrev Holds : ℕ → ℕ → ℤ → ℕ → Type 0
Holds digits width rank i = pos i +ℤ digit_offset digits (width - 1 - i) ≡ rank

decided : (r : Bool) (digits width : ℕ) (rank : ℤ)
    → MatchBool r ((k : ℕ) × (k < length (range_with_len 0 width))
    × HoldsAt (Holds digits width rank) (range_with_len 0 width) k)
    (AllWithin (λ i. Holds digits width rank i → ⊥) (range_with_len 0 width) 0 (length (range_with_len 0 width)))
    → IsTrue r ↔ HoldsRank (offsets_of width digits) rank
decided true digits width rank (k, lt, holds) =
    let long = length-range_with_len 0 width in
    let all = length-offsets_of width digits in
    let at = get_or-range_with_len 0 width k 0 (omega arith) in grind (arith, offset_at-offsets_of)
decided false digits width rank none =
    let long = length-range_with_len 0 width in
    let all = length-offsets_of width digits in (
      λ t. absurd (cc),
      λ (k, lt, same).
          let at = get_or-range_with_len 0 width k 0 (omega arith) in grind (arith, offset_at-offsets_of),
    )

pub returns : goal.returns
returns g c =
    let width = g.row.W in
    let cases = cases_from_any _ _ c.any.result (Holds c.args.digits width c.args.rank)
    (λ i. Holds c.args.digits width c.args.rank i → ⊥) c.any.ensures.ran
    (YieldsList-from_range 0 width width (search (rules, tests)) (omega arith))
    (λ i q k. grind (arith, tests)) (λ i q k. (search (rules, tests), λ holds. grind (arith, tests))) in
    decided c.any.result c.args.digits width c.args.rank cases
