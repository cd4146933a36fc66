use Rattle.cps_top.proofs.Accepting.{runs_accepted}
use Rattle.cps_top.proofs.laws.printed_certificates_are_accepted.Goals as goal

pub returns : goal.returns
returns c = record {
  accepted = c.check_accepts_printed_certificates.ensures.accepted;
  runs = runs_accepted c.check_accepts_printed_certificates.ensures.accepted;
  one = c.check_accepts_printed_certificates.ensures.one;
}
