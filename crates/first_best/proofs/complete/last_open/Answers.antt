use Rattle.std.proofs.Common.{◌≡◌, ℕ, ◌+◌, ◌-◌, ◌/◌, Option, Some, None, inl, inr, sym, ◌∙◌, arith}
use Rattle.std.proofs.lemmas.Bool.{cases_lt}
use Rattle.landing_joint.specs.shared.FirstOpen.{is_first_open}
use Rattle.first_best.proofs.complete.last_open.Goals as goal

pub loop-low-preserved-in-None : goal.loop-low-preserved-in-None
loop-low-preserved-in-None c =
    let middle : ℕ = c.loop-low.low + (c.loop-low.high - c.loop-low.low) / 2 in
    let inv = c.loop-low.invariant in
    let days = inv.in_days in
    record {
      in_order = omega arith;
      in_days = omega arith;
      last = λ t o. elim (cases_lt t (middle + 1)) [
        | inl low ↦ omega arith
        | inr late ↦
            let u = (is_first_open c.args.problem.now).least c.args.rank (middle + 1) t o late in
            absurd (never (sym c.in-None.is ∙ c.first_open.ensures.value ∙ u.1))
      ];
    }
  where
    never : {x : ℕ} → ◌≡◌ {A = Option ℕ} None (Some x) → ⊥
    never e = cc
