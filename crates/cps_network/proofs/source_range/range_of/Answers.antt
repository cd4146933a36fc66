use Rattle.cps_network.proofs.SourceLemmas.{exact}
use Rattle.cps_network.proofs.source_range.range_of.Goals as goal

pub returns-clause-exact : goal.returns-clause-exact
returns-clause-exact g c =
    exact c.args.before.now c.args.node.now c.first_source-from.result c.end_from.result c.requires.ascending
    c.first_source-from.ensures.below c.first_source-from.ensures.above
    c.end_from.ensures.range.0 c.end_from.ensures.leads c.end_from.ensures.ends
