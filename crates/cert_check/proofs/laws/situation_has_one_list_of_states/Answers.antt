use Rattle.cert_check.proofs.OneStates.{one_states}
use Rattle.cert_check.proofs.laws.situation_has_one_list_of_states.Goals as goal

pub returns : goal.returns
returns c = one_states
