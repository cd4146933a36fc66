use Rattle.std.proofs.Common.{◌≡◌, take}
use Rattle.certificate.specs.Reading.{AreLandings}
use Rattle.cert_check.specs.WholeLaws.{landings_in}
use Rattle.cert_writer.proofs.answer.landings_in.Given as goal

abbrev pub invariant-loop-rank : goal.invariant-loop-rank
invariant-loop-rank l = (l.landings.items ≡ landings_in l.problem l.schedule (take l.rank-index l.order))
    × AreLandings l.landings.items
