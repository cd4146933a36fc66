use Rattle.std.proofs.Common.{Option, subst, sym}
use Rattle.landing_rules.specs.Flights.{Schedule}
use Rattle.cert_writer.specs.Answer.{ShowsAnswer}
use Rattle.endings.specs.shared.Refusing.{opened_taken, stops_opened}
use Rattle.certificate_commands.proofs.TrueVerdicts.{claim_true}
use Rattle.std.proofs.lemmas.Result.{err_from_is_err_and}
use Rattle.certificate_commands.proofs.certify.certify_opened.Goals as goal

pub returns : goal.returns
returns g c = record {
  judged = record {
    taken = opened_taken c.args.aerodrome.now c.args.flights.now c.in_ok-problem.ensures.openable;
    problem = c.in_ok-problem.problem;
    problem_of = c.in_ok-problem.ensures.problem;
    verdict_is = sym c.in_ok-certificate.ensures.accepted;
    true_of = claim_true _ _ _ c.problem_stands_for_situation.ensures.best
        c.problem_stands_for_situation.ensures.objectives c.problem_stands_for_situation.ensures.none
        c.in_ok-problem.ensures.sound c.in_ok-problem.ensures.problem
        c.in_ok-certificate.certificate.claim c.in_ok-certificate.ensures.whole.answer;
    sound = c.in_ok-problem.ensures.sound;
    well_formed = c.head-well_formed.ensures.well_formed;
    in_form = c.claim-in_form.ensures.certificate;
  };
  whole = c.in_ok-certificate.ensures.whole;
  answer = c.in_ok-schedule.schedule;
  best = c.in_ok-schedule.ensures.answer;
  shows = subst (λ (o : Option Schedule). ShowsAnswer c.in_ok-problem.problem o c.in_ok-certificate.certificate.claim
      c.in_ok-certificate.certificate.landings) c.as_ref.ensures.value c.in_ok-certificate.ensures.shows;
}

pub returns-in_err-problem : goal.returns-in_err-problem
returns-in_err-problem g c =
    let p = err_from_is_err_and c.from_residual.result c.from_residual.ensures.1 in
    rw p.1 (stops_opened c.args.aerodrome.now c.args.flights.now c.in_err-problem.field-0.0
    p.0 c.in_err-problem.ensures.refused p.2)
