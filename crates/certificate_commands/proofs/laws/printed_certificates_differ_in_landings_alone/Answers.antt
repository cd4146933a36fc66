use Rattle.certificate_commands.proofs.TextLaws.{certify_texts}
use Rattle.certificate_commands.proofs.laws.printed_certificates_differ_in_landings_alone.Goals as goal

pub returns : goal.returns
returns c = certify_texts c.situation_has_one_list_of_states.ensures
