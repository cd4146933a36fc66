use Rattle.std.proofs.Common.{ℕ, ◌≤◌, Option, inl, inr, subst, ◌∙◌, arith}
use Rattle.std.specs.Prelude.{IfSome}
use Rattle.std.proofs.lemmas.Bool.{cases_lt}
use Rattle.landing_rules.specs.Rules.{last_second}
use Rattle.landing_joint.specs.shared.FirstOpen.{is_first_open}
use Rattle.first_best.proofs.complete.opens_in_days.Goals as goal

pub returns : goal.returns
returns c = λ t o. elim (cases_lt t 172800) [
  | inl low ↦ omega (arith, low)
  | inr late ↦
      let u = (is_first_open c.args.problem.now).least c.args.rank 172800 t o late in
      let early : u.0 ≤ last_second = subst (λ (o : Option ℕ). IfSome o (λ s. s ≤ last_second))
      (c.first_open-none.ensures.value ∙ u.1) c.first_open-none.ensures.in_days in
      let from = ((is_first_open c.args.problem.now).found c.args.rank 172800 u.0 u.1).1 in
      absurd (omega (arith, early, from))
]
