use Rattle.std.proofs.Common.{length, drop, take, ◌-◌}
use Rattle.std.proofs.lemmas.Slice.Eq.{starts_is, ends_is}
use Rattle.std.proofs.lemmas.Bool.Decides.{Decides-eqb}
use Rattle.worked_runs.proofs.output.Outputs.contains.Goals as goal

pub returns-in-Some : goal.returns-in-Some
returns-in-Some c =
    let head = c.as_bytes.result.now in
    let begins = starts_is Decides-eqb c.args.written.now head c.starts_with.result c.starts_with.ensures.value in
    rw (c.in-Some.is, ← c.as_bytes.ensures.value) (
      λ t. (drop (length head) c.args.written.now, begins.0 t),
      λ shown. begins.1 shown.0 shown.1,
    )

pub returns-in-Some-ends : goal.returns-in-Some-ends
returns-in-Some-ends c =
    let tail = c.as_bytes-in-Some-ends.result.now in
    let ends = ends_is Decides-eqb c.args.written.now tail c.ends_with.result c.ends_with.ensures.value in
    let written = c.args.written.now in
    rw (c.in_default.is, c.in-Some-ends.is, ← c.as_bytes-in-Some-ends.ensures.value)
    (λ t. (take (length written - length tail) written, ends.0 t), λ shown. ends.1 shown.0 shown.1)
