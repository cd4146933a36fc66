use Rattle.std.proofs.Common.{ap, sym, ◌∙◌}
use Rattle.replan.proofs.ReaderLemmas.{have_least, read_at}
use Rattle.replan.proofs.kept.Kept.least_pairs.Goals as goal

pub least_pairs-requires : goal.least_pairs-requires
least_pairs-requires g c =
    let same = sym (ap (λ h. h.stages) c.held.view_is) in
    let r = read_at g.row.W _ _ _ _ _ _ _ (sym c.self.view_is ∙ c.in-Some.is) same c.labelled.view_is
    c.index-labelled.ensures c.requires.stage c.held.invariant in
    have_least _ _ _ _ r _ c.requires.nodes
