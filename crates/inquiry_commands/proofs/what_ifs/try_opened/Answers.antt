use Rattle.std.proofs.lemmas.Result.{err_from_is_err_and}
use Rattle.endings.specs.shared.Refusing.{stops_opened}
use Rattle.inquiry_commands.proofs.what_ifs.try_opened.Goals as goal

pub returns-in_err-_opened : goal.returns-in_err-_opened
returns-in_err-_opened g c =
    let p = err_from_is_err_and c.from_residual.result c.from_residual.ensures.1 in
    rw p.1 (stops_opened c.args.aerodrome.now c.args.flights.now c.in_err-_opened.field-0.0
    p.0 c.in_err-_opened.ensures.refused p.2)
