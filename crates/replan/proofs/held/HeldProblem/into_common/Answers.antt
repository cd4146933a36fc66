use Rattle.std.proofs.Common.{ap, rules}
use Rattle.std.proofs.lemmas.List.{length-take-le}
use Rattle.cps_network.specs.WindowLaws.{WindowLaws}
use Rattle.replan.specs.Held.{AreInCommon}
use Rattle.replan.proofs.StageLemmas.{stages_in_common, few_in_common}
use Rattle.replan.proofs.held.HeldProblem.into_common.Goals as goal

pub returns-clause-held : goal.returns-clause-held
returns-clause-held g c =
    let held = c.self.invariant in
    let common : AreInCommon c.self.inside.problem c.args.problem.now c.args.count =
    rw (ap (λ h. h.problem) c.self.view_is) c.requires.common in
    let few = few_in_common c.self.inside.problem _ _ _ common held.whole in
    let laws : WindowLaws c.self.inside.problem g.row.W = search rules in
    rw c.truncate.ensures.items
    (stages_in_common
    c.self.inside.problem _ g.row.W held.width_is laws c.head-held_ranks.ensures.well_formed.between_ranks
    c.head-ranks.ensures.well_formed.between_ranks _ _ held.held c.kept_stages.ensures.early common c.requires.more few)

pub returns-clause-count : goal.returns-clause-count
returns-clause-count g c = search (rules, few_in_common, length-take-le)
