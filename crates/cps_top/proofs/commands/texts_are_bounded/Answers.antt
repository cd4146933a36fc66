use Rattle.cps_top.proofs.ByCommand.{bounded}
use Rattle.cps_top.proofs.commands.texts_are_bounded.Goals as goal

pub returns : goal.returns
returns c =
    let planning = c.planning_texts_are_bounded.ensures in
    let certificates = c.certificate_texts_are_bounded.ensures in
    bounded planning.plan planning.replay certificates.certify certificates.check planning.effort planning.trial
    c.first_texts_are_bounded.ensures c.what_if_texts_are_bounded.ensures c.audit_texts_are_bounded.ensures
