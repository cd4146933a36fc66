use Rattle.std.proofs.Common.{◌≡◌, ◌+◌, ap, sym, ◌∙◌}
use Rattle.landing_rules.specs.declared.objective.Objective.TheVariants.{Makespan, Delay}
use Rattle.extract_plan.proofs.Totals.{makespan_value, delay_value}
use Rattle.extract_plan.proofs.objective.value_of.Goals as goal

pub returns-in-Makespan-2 : goal.returns-in-Makespan-2
returns-in-Makespan-2 c =
    let o : c.args.problem.now.objective ≡ Makespan = ap (λ p. p.objective) c.head.ensures.value ∙ c.in-Makespan-2.is in
    c.from-in-Makespan-2.ensures ∙ c.greatest_second.ensures
    ∙ makespan_value _ _ o c.requires.room (sym c.is_empty.ensures
    ∙ c.if-is_empty.false)

pub returns-in-Delay : goal.returns-in-Delay
returns-in-Delay c =
    let o : c.args.problem.now.objective ≡ Delay = ap (λ p. p.objective) c.head.ensures.value ∙ c.in-Delay.is in
    ap (λ n. n + c.total_cost.result) (sym (ap (λ p. p.base) c.head-in-Delay.ensures.value))
    ∙ delay_value _ _ _ o c.requires.room c.total_cost.ensures.value
