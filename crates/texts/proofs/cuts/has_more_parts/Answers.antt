-- One part more than marks.
use Rattle.std.proofs.Common.{arith}
use Rattle.std.specs.Prelude.{◌==◌}
use Rattle.std.proofs.lemmas.Grind.{common_steps}
use Rattle.std.proofs.lemmas.List.Splits.{length-slice_split}
use Rattle.texts.proofs.cuts.has_more_parts.Goals as goal

pub returns : goal.returns
returns c = rw (length-slice_split (λ b. b == c.args.mark) c.args.text.now, ← c.count_marks.ensures)
    (grind (arith, common_steps))
