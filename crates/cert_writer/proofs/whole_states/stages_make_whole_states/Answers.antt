-- States that hold all entries of the stages leave nothing out.
use Rattle.cert_writer.proofs.AllStages.{stages_make_states}
use Rattle.cert_writer.proofs.whole_states.stages_make_whole_states.Goals as goal

pub returns-clause-whole : goal.returns-clause-whole
returns-clause-whole g c = stages_make_states c.args.problem.now c.stages_keep_their_patterns.ensures.end
    c.stages_keep_their_patterns.ensures.entries
