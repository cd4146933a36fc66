use Rattle.std.proofs.Common.{◌-◌, get_or, arith, sym, subst, refl}
use Rattle.cps_problem.specs.Seen.{waiting_of}
use Rattle.certificate.specs.Reading.{AreLandings}
use Rattle.certificate.specs.shared.PartsKept.{landings_more}
use Rattle.cert_writer.proofs.AnswerLemmas.{listed_more}
use Rattle.cert_writer.proofs.answer.landings_in.Goals as goal

pub loop-rank-preserved : goal.loop-rank-preserved
loop-rank-preserved c =
    let r = get_or c.args.order.now c.loop-rank.rank-index 0 in
    let rank = c.requires.ranks c.loop-rank.rank-index 0 c.loop-rank-test.true in
    let one = rank.0 in
    let after = c.in_ok-push.ensures.items in (
      listed_more c.args.problem.now c.args.schedule.now c.args.order.now c.loop-rank.rank-index
          c.loop-rank.landings.items c.push.new.self.items r (waiting_of c.flight.result.now) c.second.result
          c.loop-rank-test.true refl one c.flight.ensures c.second.ensures c.loop-rank.invariant.0 after,
      subst AreLandings (sym after) (landings_more c.loop-rank.landings.items
          (c.flight.result.now.callsign, c.second.result) c.loop-rank.invariant.1 c.bytes-known.ensures.callsign
          (omega
          (arith, (c.requires.seconds (r - 1) 0 (omega (arith, one, rank.1, c.requires.room))), c.second.ensures))),
    )
