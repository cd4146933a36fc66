use Rattle.std.proofs.Common.{◌∙◌, sym}
use Rattle.texts.specs.shared.Cuts.{cut_at, whole}
use Rattle.texts.proofs.cuts.first_part.Goals as goal

pub returns-in-Some-clause-value : goal.returns-in-Some-clause-value
returns-in-Some-clause-value c =
    cut_at c.args.mark c.args.text.now c.in-Some.at (sym c.first_mark.ensures ∙ c.in-Some.is)

pub returns-in-None-clause-value : goal.returns-in-None-clause-value
returns-in-None-clause-value c = whole c.args.mark c.args.text.now (sym c.first_mark.ensures ∙ c.in-None.is)
