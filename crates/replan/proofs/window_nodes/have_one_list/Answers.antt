use Rattle.std.proofs.Common.{sym, ◌∙◌}
use Rattle.std.specs.Cmp.Rules.{signed_items}
use Rattle.std.proofs.lemmas.Slice.Eq.{slice_eq-Decides}
use Rattle.replan.proofs.window_nodes.have_one_list.Goals as goal

pub returns-clause-same : goal.returns-clause-same
returns-clause-same g c = λ equal. sym c.windows.ensures.windows
    ∙ (slice_eq-Decides signed_items _ _ _ c.eq.ensures).0 equal ∙ c.windows-2.ensures.windows
