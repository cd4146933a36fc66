-- States that leave nothing out.
use Rattle.cert_check.specs.shared.KeptPairs.{kept_is_whole}
use Rattle.cert_check.proofs.WholeUnique.{whole_is_unique}
use Rattle.cert_check.proofs.WholeForm.{whole_in_form}
use Rattle.cert_check.proofs.laws.whole_states_are_fixed.Goals as goal

pub returns : goal.returns
returns c = record {
  kept = kept_is_whole;
  unique = whole_is_unique;
  in_form = λ p ss well h pairs. whole_in_form p well ss h pairs;
}
