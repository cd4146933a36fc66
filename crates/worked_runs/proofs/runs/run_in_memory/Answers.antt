use Rattle.worked_runs.proofs.Given.{answers_of_fresh, says_line}
use Rattle.worked_runs.proofs.runs.run_in_memory.Goals as goal

pub returns-clause-answers : goal.returns-clause-answers
returns-clause-answers g c =
    answers_of_fresh _ c.args.files.items _ _ c.args.room c.run-status.result _ _ _ c.new-folder.ensures.state
    c.new.ensures.items c.in_ok-out.ensures.state
    c.new-2.ensures.items c.run-status.ensures.sure

pub returns-clause-line : goal.returns-clause-line
returns-clause-line g c =
    says_line _ _ _ _ c.args.room c.run-status.result _ _ c.in_ok-err.ensures.state c.new-4.ensures.items
    c.run-status.ensures.outcome
