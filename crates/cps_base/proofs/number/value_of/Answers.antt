-- One more digit: ten times the value so far and the digit.
use Rattle.std.proofs.Common.{◌≡◌, ◌^◌, ◌<◌, ℕ, List, length, arith, get_or, true, inl, inr, rules}
use Rattle.std.proofs.Common.{tests, take, subst, SomeIff}
use Rattle.std.specs.Char.{is_ascii_digit}
use Rattle.std.specs.Int.{IsInRange}
use Rattle.std.specs.List.{list_all}
use Rattle.std.specs.Str.Parse.{digits_value}
use Rattle.std.proofs.lemmas.Bool.{cases_Bool}
use Rattle.std.proofs.lemmas.Grind.{common_steps}
use Rattle.std.proofs.lemmas.Iterator.{YieldsList-from_slice}
use Rattle.std.proofs.lemmas.List.Folds.{list_all_at}
use Rattle.std.proofs.lemmas.Int.Digits.{digits_value_more}
use Rattle.std.proofs.lemmas.Str.{digit_value_digit}
use Rattle.std.proofs.lemmas.Option.{slice_get_within, get_or_from_slice_get}
use Rattle.std.proofs.lemmas.List.{take_all}
use Rattle.cps_base.specs.laws.Folds.{kept_by_fold}
use Rattle.cps_base.specs.laws.FoldCalls.{fold_may_call}
use Rattle.cps_base.proofs.number.value_of.Goals as goal

-- each byte of digits is one
is_digit_at : (xs : List ℕ) (i : ℕ) → i < length xs → list_all is_ascii_digit xs ≡ true
    → IsInRange 48 57 (get_or xs i 0)
is_digit_at xs i below all =
    elim (cases_Bool (is_ascii_digit (get_or xs i 0))) [
      | inl digit ↦ grind (arith, common_steps)
      | inr other ↦ let none = list_all_at is_ascii_digit xs i 0 below other in absurd (cc)
    ]

-- so that '0' can be taken from it
pub fold-requires-clause-callable : goal.fold-requires-clause-callable
fold-requires-clause-callable c =
    let digits = c.args.digits.now in
    fold_may_call (YieldsList-from_slice digits (cc)) (λ a x b q called. search (rules, tests))
    (λ k a x at.
    let digit = is_digit_at digits k (slice_get_within digits k x.now at) c.requires in
    let low = subst (IsInRange 48 57) (get_or_from_slice_get digits k x.now 0 at) digit in
    search (rules, tests))

pub returns : goal.returns
returns c =
    let digits = c.args.digits.now in
    let made = kept_by_fold _ (λ i value. SomeIff value (digits_value 10 (take i digits) < 2 ^ 64) (digits_value 10 (take i digits)))
    c.fold.ensures.ran (YieldsList-from_slice digits (cc)) (omega arith)
    (λ i value x b q at held called.
    let lt = slice_get_within digits i x.now at in
    let is = get_or_from_slice_get digits i x.now 0 at in
    let more = digits_value_more 10 digits i lt in
    let worth = digit_value_digit (get_or digits i 0) (is_digit_at digits i lt c.requires) in
    search (rules, tests)) in
    subst (λ ds. SomeIff c.fold.result (digits_value 10 ds < 2 ^ 64) (digits_value 10 ds)) (take_all (length digits) digits (omega arith)) made
