use Rattle.std.proofs.lemmas.Grind.{common_steps}
use Rattle.std.proofs.Common.{rules, arith, sym, ◌∙◌}
use Rattle.replan.proofs.least.stage_alone.Goals as goal

pub stage_after-requires : goal.stage_after-requires
stage_after-requires g c = (
  search rules,
  (
    c.requires.width,
    (rw (← c.last.view_is) at c.requires.stage, λ whole lt. (rw (← c.last.view_is) at c.requires.whole) whole),
  ),
)

pub next_alone-requires : goal.next_alone-requires
next_alone-requires g c = grind (arith, common_steps)

pub returns-clause-number : goal.returns-clause-number
returns-clause-number g c = grind (arith, common_steps)

pub returns-clause-whole : goal.returns-clause-whole
returns-clause-whole g c = λ whole. rw (
  c.in_ok-labels.ensures.all (sym c.len.ensures.value ∙ (search (rules, whole)) ∙ c.len-candidates.ensures.value),
  ← c.last.view_is,
) c.in_ok-stage.ensures.exact
