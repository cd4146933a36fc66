use Rattle.cps_base.specs.Limits.{most_waiting}
use Rattle.std.proofs.Common.{◌≤◌, List, length, ap, sym, subst, ◌∙◌}
use Rattle.arrivals.specs.declared.flight.Flight.{Flight}
use Rattle.std.proofs.lemmas.Result.{err_from_is_err_and}
use Rattle.arrivals.specs.declared.aerodrome.Aerodrome.{Aerodrome}
use Rattle.planning_commands.proofs.Summed.{stops_short, sums}
use Rattle.planning_commands.proofs.trial.report_traffic.Goals as goal

pub returns : goal.returns
returns g c = sums c.args.traffic
    c.args.n c.args.k c.in_ok-begun.begun.1 c.into_parts-aerodrome.result.0 c.into_parts-aerodrome.result.1.items
    c.in_ok-begun.begun.0 c.in_ok-report.report.text.items c.in_ok-report.report.answer
    c.into_parts-aerodrome.ensures.aerodrome c.into_parts-aerodrome.ensures.flights c.in_ok-begun.ensures.opened
    c.in_ok-begun.ensures.planned c.in_ok-report.ensures.text c.in_ok-report.ensures.answer c.requires.lands

pub returns-in_err-begun : goal.returns-in_err-begun
returns-in_err-begun g c =
    let aerodrome = c.into_parts-aerodrome.result.0 in
    let flights = c.into_parts-aerodrome.result.1.items in
    let a_is = c.into_parts-aerodrome.ensures.aerodrome in
    let f_is = c.into_parts-aerodrome.ensures.flights in
    let few = subst (λ (fs : List Flight). length fs ≤ most_waiting) (sym f_is) c.requires.few in
    let opens = c.plain_files_open.ensures aerodrome flights (ap (λ (a : Aerodrome). a.frozen) a_is
    ∙ c.requires.none_frozen) (ap (λ (a : Aerodrome). a.passed) a_is ∙ c.requires.none_passed) few in
    let p = err_from_is_err_and c.from_residual.result c.from_residual.ensures.1 in
    rw (p.1, p.2) (stops_short aerodrome flights c.in_err-begun.field-0.0 opens c.in_err-begun.ensures.opened)
