-- The entries of a stage keep the pairs of its nodes.
use Rattle.cert_writer.proofs.Entries.{entries_keep, placed_tell, end_with_flights}
use Rattle.cert_writer.proofs.whole_states.stages_keep_their_patterns.Goals as goal

pub returns-clause-entries : goal.returns-clause-entries
returns-clause-entries g c = entries_keep c.args.problem.now c.head-well_formed.ensures.well_formed c.node_laws.ensures

pub returns-clause-placed : goal.returns-clause-placed
returns-clause-placed g c = placed_tell c.args.problem.now c.patterns_are_bits.ensures.pattern
    c.prefix_laws.ensures.network c.windows_tell_their_ranks.ensures

pub returns-clause-end : goal.returns-clause-end
returns-clause-end g c = end_with_flights c.args.problem.now
