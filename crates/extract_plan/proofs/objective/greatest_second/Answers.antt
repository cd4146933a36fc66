-- The greatest second of all ranks.
use Rattle.std.proofs.Common.{◌≡◌, ℕ, suc, ◌-◌, max, length, refl, ap, ◌∙◌, arith, rules, tests}
use Rattle.std.specs.Prelude.{slice_index}
use Rattle.std.proofs.lemmas.Iterator.{YieldsList-from_range}
use Rattle.std.proofs.lemmas.Iterator.Consumers.{fold_from_yields_List}
use Rattle.cps_theory.specs.RankLists.{of_rank}
use Rattle.cps_theory.specs.Feasible.{greatest}
use Rattle.cps_theory.specs.laws.RanksBelow.{ranks_folded}
use Rattle.extract_plan.proofs.objective.greatest_second.Goals as goal

pub returns : goal.returns
returns c =
    let seconds = c.args.schedule.now in
    let step = λ (m r : ℕ). max (slice_index seconds (r - 1)) m in
    let more = λ (n : ℕ). (let e : suc n - 1 ≡ n =
    omega arith in ap (λ i. max (slice_index seconds i) (greatest (of_rank 0 seconds) n)) e) in
    fold_from_yields_List _ step 0 _ c.fold.ensures.ran
    (YieldsList-from_range 1 _ (length seconds) refl (omega (arith, c.len.ensures.value)))
    (λ a x b q k. search (rules, tests)) ∙ ranks_folded step (greatest (of_rank 0 seconds)) more (length seconds)
