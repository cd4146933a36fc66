use Rattle.std.proofs.Common.{◌≡◌, ◌++◌, drop}
use Rattle.std.specs.Prelude.{map}
use Rattle.landing_rules.specs.Text.{landing_words, lines_text}
use Rattle.plan_text.proofs.block.append_landings.Given as goal

-- with the lines that are left, the text is whole
abbrev pub invariant-loop-i : goal.invariant-loop-i
invariant-loop-i l =
    l.into.items ++ lines_text (map landing_words (drop l.i l.plan.landings)) ≡ l.fn.into.items
    ++ lines_text (map landing_words (drop l.fn.first l.plan.landings))
