use Rattle.std.proofs.Common.{sym, ap, subst, ◌∙◌}
use Rattle.std.proofs.lemmas.Result.{err_from_is_err_and}
use Rattle.landing_rules.specs.Flights.{Situation}
use Rattle.inquiry_commands.specs.Audit.{TellsClean, audit_text, audit_answer}
use Rattle.landing_rules.specs.Sound.{IsSound}
use Rattle.situations.specs.Opened.{opened}
use Rattle.situations.specs.Refused.{opening_fault}
use Rattle.endings.specs.shared.Refusing.{opened_taken, stops_opened}
use Rattle.inquiry_commands.proofs.audits.report_opened.Goals as goal

pub returns : goal.returns
returns c =
    let same = c.in_ok-situation.ensures.value ∙ ap (opened c.args.aerodrome) c.as_slice.ensures.value in record {
      taken = opened_taken c.args.aerodrome c.args.flights.items
          (ap (opening_fault c.args.aerodrome) (sym c.as_slice.ensures.value) ∙ c.in_ok-situation.ensures.openable);
      prints = c.in_ok-report.ensures.text ∙ ap (λ (s : Situation). audit_text s c.args.plan.now) same;
      answers = c.in_ok-report.ensures.answer ∙ ap (λ (s : Situation). audit_answer s c.args.plan.now) same;
      sound = subst IsSound same c.in_ok-situation.ensures.sound;
      clean = subst (λ (s : Situation). TellsClean s c.args.plan.now c.in_ok-report.report.text.items) same
          c.in_ok-report.ensures.clean;
    }

pub returns-in_err-situation : goal.returns-in_err-situation
returns-in_err-situation c =
    let p = err_from_is_err_and c.from_residual.result c.from_residual.ensures.1 in
    rw p.1 (stops_opened c.args.aerodrome c.args.flights.items c.in_err-situation.field-0.0 p.0
    (rw c.as_slice.ensures.value at c.in_err-situation.ensures.refused) p.2)
