use Rattle.cert_check.proofs.WholePairs.{makespan_pairs, pairs_open}
use Rattle.cert_check.proofs.WholeSizes.{few_states}
use Rattle.cert_check.proofs.laws.whole_states_are_few.Goals as goal

pub returns : goal.returns
returns c = record { states = few_states; makespan = makespan_pairs; seconds = pairs_open }
