-- The greatest second of all ranks.
use Rattle.std.proofs.Common.{ℕ, max, refl, ◌∙◌, arith, rules, tests}
use Rattle.std.proofs.lemmas.Iterator.{YieldsList-from_range}
use Rattle.std.proofs.lemmas.Iterator.Consumers.{fold_from_yields_List}
use Rattle.cps_theory.specs.Feasible.{greatest}
use Rattle.cert_check.specs.Landings.{count, second}
use Rattle.cps_theory.specs.laws.RanksBelow.{ranks_folded}
use Rattle.cert_check.proofs.seconds.greatest.Goals as goal

pub returns : goal.returns
returns c =
    let n = count c.args.problem.now in
    let at = second c.args.problem.now c.args.landings.now in
    let step = λ (m r : ℕ). max (at r) m in
    fold_from_yields_List _ step 0 _ c.fold.ensures.ran
    (YieldsList-from_range 1 _ n refl (omega (arith, c.len.ensures.value))) (λ a x b q k. search (rules, tests))
    ∙ ranks_folded step (greatest at) (λ n. refl) n
