use Rattle.certificate_commands.proofs.TextLaws.{certify_loadable, certify_short, check_short}
use Rattle.certificate_commands.proofs.laws.certificate_texts_are_bounded.Goals as goal

pub returns : goal.returns
returns c =
    let laws = c.whole_certificates_are_bounded.ensures in
    record {
      certify = certify_short laws.bounded;
      check = check_short;
      loadable = certify_loadable laws.bounded laws.loadable;
    }
