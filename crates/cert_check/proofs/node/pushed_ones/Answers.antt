-- One more digit at the front, from the last one down.
use Rattle.std.proofs.Common.{◌≡◌, Bool, ◌+◌, ◌-◌, ◌*◌, ◌^◌, ◌≤◌, suc, refl, ap, ◌∙◌, arith, rules, tests}
use Rattle.std.specs.Int.{from_bool}
use Rattle.certificate.specs.Patterns.{bits}
use Rattle.cps_theory.specs.Patterns.{tests_from}
use Rattle.cert_check.specs.Seen.{seen, pushed_digit}
use Rattle.cps_base.specs.laws.FoldCalls.{fold_of_range_may_call_keeping}
use Rattle.cps_base.specs.laws.Folds.{kept_by_fold_of_range}
use Rattle.cert_check.proofs.Bytes.{byte, byte_low}
use Rattle.cert_check.proofs.Digits.{power_more, power_small, more_digits}
use Rattle.cert_check.proofs.node.pushed_ones.Goals as goal

pub fold-requires-clause-callable : goal.fold-requires-clause-callable
fold-requires-clause-callable c = fold_of_range_may_call_keeping _
    (2 * c.args.k) (search (rules, tests)) (λ i ones. ones + 1 ≤ 2 ^ i) (omega arith) (λ i x ones made q small called.
    let (b, is) : (b : Bool) × (made ≡ 2 * ones + from_bool b) = search (rules, tests) in
    (search (rules, tests), omega (arith, is, byte b, byte_low b, power_more i, small)))
    (λ i ones lt small.
    let few = power_small i (omega (arith, lt, c.requires.k)) in search (rules, tests))

pub returns : goal.returns
returns c =
    let k = c.args.k in
    let from = suc (suc c.args.node.now.stage) in
    let test = pushed_digit k (seen c.args.node.now) c.args.rank in
    kept_by_fold_of_range _ 0 (2 * k) (λ i ones. bits i ones ≡ tests_from test (from + (2 * k - i)) i)
    (omega arith) (search (rules, tests)) c.fold.ensures.ran
    refl
    (λ i ones made q above below held called.
    let y = from + (2 * k - (i + 1)) in
    let (b, is, told) : (b : Bool) × (made ≡ 2 * ones + from_bool b)
    × (b ≡ test (suc c.args.node.now.stage + (2 * k - i))) = search (rules, tests) in
    let at : suc c.args.node.now.stage + (2 * k - i) ≡ y = omega (arith, below) in
    let more = more_digits test i y (from + (2 * k - i)) ones b held (omega (arith, below)) (told ∙ ap test at) in
    (search (rules, tests), ap (bits (i + 1)) (is ∙ ap (λ n. 2 * ones + n) (byte b)) ∙ more))
    ∙ ap (λ z. tests_from test z (2 * k)) (omega arith)
