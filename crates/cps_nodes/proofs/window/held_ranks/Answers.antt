use Rattle.std.proofs.Common.{◌≡◌, ℕ, ◌-◌, ◌*◌, ◌^◌, ◌%◌, ◌<◌, arith, rules, tests}
use Rattle.std.specs.Prelude.{pos, ◌+ℤ◌, bit_or}
use Rattle.std.proofs.lemmas.Int.{ints}
use Rattle.cps_base.specs.laws.Folds.{kept_by_fold_of_range}
use Rattle.cps_base.specs.laws.FoldCalls.{fold_of_range_may_call}
use Rattle.cps_nodes.specs.Digits.{digit_offset, offsets_of, length-offsets_of}
use Rattle.cps_nodes.proofs.DigitLemmas.{offset_at-offsets_of}
use Rattle.cps_nodes.proofs.HeldLemmas.{AreHeldUpto, none_held, held_more, held_all}
use Rattle.cps_nodes.proofs.window.held_ranks.Goals as goal

pub fold-requires-clause-callable : goal.fold-requires-clause-callable
fold-requires-clause-callable g c =
    fold_of_range_may_call _ g.row.W (search (rules, tests)) (λ held i made q called. search (rules, tests))
    (λ i held below. search (rules, tests, ints))

pub returns : goal.returns
returns g c =
    let width = g.row.W in
    let xs = offsets_of width c.args.digits in
    held_all xs width c.fold.result (omega (arith, length-offsets_of width c.args.digits))
    (kept_by_fold_of_range _ 0 width (AreHeldUpto xs) (omega arith) (search (rules, tests)) c.fold.ensures.ran
    (none_held xs)
    (λ i held made q from below are called.
    let (at, few, bit, set) : (at : ℕ) × (at < 32)
    × (pos at ≡ pos i +ℤ digit_offset c.args.digits (width - 1 - i) +ℤ pos 8)
    × (made ≡ bit_or held (1 * 2 ^ at % 2 ^ 32)) =
    search (rules, tests, ints) in
    let reads = offset_at-offsets_of width c.args.digits i below in grind (arith, held_more)))
