-- Two problems of one situation.
use Rattle.cert_check.proofs.OneVerdict.{one_verdict}
use Rattle.cert_check.proofs.laws.situation_has_one_verdict.Goals as goal

pub returns : goal.returns
returns c = one_verdict
