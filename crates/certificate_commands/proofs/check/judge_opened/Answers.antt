use Rattle.endings.specs.shared.Refusing.{opened_taken, stops_opened}
use Rattle.certificate_commands.proofs.TrueVerdicts.{true_of}
use Rattle.std.proofs.lemmas.Result.{err_from_is_err_and}
use Rattle.certificate_commands.proofs.check.judge_opened.Goals as goal

pub returns : goal.returns
returns c = record {
  taken = opened_taken c.args.aerodrome.now c.args.flights.now c.in_ok-problem.ensures.openable;
  problem = c.in_ok-problem.problem;
  problem_of = c.in_ok-problem.ensures.problem;
  verdict_is = c.judge.ensures.exact;
  true_of = true_of _ _ _ c.problem_stands_for_situation.ensures.best c.problem_stands_for_situation.ensures.objectives
      c.problem_stands_for_situation.ensures.none c.in_ok-problem.ensures.sound
      c.in_ok-problem.ensures.problem c.judge.result c.judge.ensures.optimal c.judge.ensures.infeasible;
  sound = c.in_ok-problem.ensures.sound;
  well_formed = c.head-well_formed.ensures.well_formed;
  in_form = c.claim-in_form.ensures.certificate;
}

pub returns-in_err-problem : goal.returns-in_err-problem
returns-in_err-problem c =
    let p = err_from_is_err_and c.from_residual.result c.from_residual.ensures.1 in
    rw p.1 (stops_opened c.args.aerodrome.now c.args.flights.now c.in_err-problem.field-0.0
    p.0 c.in_err-problem.ensures.refused p.2)
