use Rattle.std.proofs.Common.{length, rules, tests}
use Rattle.cps_network.specs.Pairs.{list_at}
use Rattle.replan.specs.Labels.{last_pair, worth}
use Rattle.replan.proofs.LeastPlace.{least_from_min_by_key}
use Rattle.replan.proofs.trace.least_place.Goals as goal

pub returns : goal.returns
returns c =
    let labels = c.args.labels.now in
    least_from_min_by_key _ (λ i. worth labels.objective (last_pair (list_at labels.lists i)))
    (λ x b q k. search (rules, tests)) (length labels.lists) _ c.min_by_key.result
    (search (rules, tests)) c.min_by_key.ensures.runs
