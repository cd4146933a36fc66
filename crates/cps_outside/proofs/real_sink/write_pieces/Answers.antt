-- Each write appends its bytes to those of the writes before it.
use Rattle.std.proofs.Common.{◌++◌, take}
use Rattle.cps_outside.proofs.Written.{appends_then, moved}
use Rattle.cps_outside.proofs.real_sink.write_pieces.Goals as goal

pub loop-rest-preserved : goal.loop-rest-preserved
loop-rest-preserved g c =
    let (done, split, appended) = c.loop-rest.invariant in
    let rest = c.loop-rest.rest.now in
    let n = c.in_ok-count.count in (
      done ++ take n rest,
      moved _ done rest n split,
      appends_then _ _ _ _ _ appended c.in_ok-count.ensures.bytes,
    )
