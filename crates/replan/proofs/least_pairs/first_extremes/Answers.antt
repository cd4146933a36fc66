use Rattle.std.proofs.Common.{List, arith, rules, subst, sym}
use Rattle.std.proofs.lemmas.Grind.{common_steps}
use Rattle.landing_rules.specs.Rules.{last_second}
use Rattle.cps_theory.specs.Labels.{Pair}
use Rattle.replan.specs.WindowNodes.{AreInDays}
use Rattle.replan.proofs.LeastPairLemmas.{days_none, days_push}
use Rattle.replan.proofs.least_pairs.first_extremes.Goals as goal

pub loop-first-init : goal.loop-first-init
loop-first-init c = search (rules, common_steps, days_none)

pub loop-first-preserved : goal.loop-first-preserved
loop-first-preserved c = (
  first_of (search rules, grind (arith, common_steps)),
  subst (λ (pairs : List Pair). AreInDays pairs) (sym c.in_ok-push.ensures.items) (days_push
      c.loop-first.least.items c.extremes.result last_second c.loop-first.invariant.1 c.extremes.ensures.in_days),
)
