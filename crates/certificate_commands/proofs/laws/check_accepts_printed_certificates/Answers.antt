use Rattle.certificate_commands.proofs.Accepting.{printed_accepted, text_is_one}
use Rattle.certificate_commands.proofs.laws.check_accepts_printed_certificates.Goals as goal

pub returns : goal.returns
returns c = record {
  accepted = printed_accepted c.situation_has_one_verdict.ensures;
  one = text_is_one c.situation_has_one_verdict.ensures;
}
