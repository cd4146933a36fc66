use Rattle.std.proofs.Common.{◌≡◌, ◌∙◌, [], ap, sym, subst, drop}
use Rattle.std.proofs.lemmas.List.{get_or_default}
use Rattle.cps_nodes.specs.Digits.{number_of}
use Rattle.cps_network.specs.Extended.{HasPermitted}
use Rattle.cps_network.specs.Lists.{node_at}
use Rattle.cps_network.proofs.GroupLemmas.{group_here}
use Rattle.cps_network.proofs.groups.group_from.Goals as goal

pub returns-clause-group : goal.returns-clause-group
returns-clause-group g c =
    let front : c.index-before-from.result ≡ node_at c.args.before.now c.args.from =
    c.index-before-from.is ∙ get_or_default c.args.before.now c.args.from c.index-before-from.result []
    c.requires.within in
    record {
      range = group_here _ _ _ c.requires.ascending c.requires.within c.requires.first
          c.end_of_group-to.ensures.range.0 c.end_of_group-to.ensures.range.1
          (λ i low high. c.end_of_group-to.ensures.same i low high ∙ ap (drop 1) front)
          (λ lt e. c.end_of_group-to.ensures.ends lt (e ∙ sym (ap (drop 1) front)));
      order = c.order_of_next.ensures ∙ ap (λ xs. number_of (drop 2 xs)) front;
      permitted = subst (λ xs. HasPermitted c.args.problem.now c.args.stage xs c.permitted_offsets.result) front
          c.permitted_offsets.ensures;
    }
