use Rattle.std.proofs.Common.{◌∙◌}
use Rattle.first_best.proofs.ScanLemmas.{turned}
use Rattle.first_best.proofs.complete.pairs_of.Goals as goal

pub returns : goal.returns
returns c = rw (c.of.ensures ∙ c.reverse.ensures.items) (turned _ _ _ _ _ _ _ c.in_ok-pairs.ensures)
