use Rattle.std.proofs.Common.{◌+◌, ◌++◌, map, drop, ap, ◌∙◌, refl}
use Rattle.std.specs.Prelude.{flat_map}
use Rattle.landing_rules.specs.Flights.{Landing}
use Rattle.landing_rules.specs.Audit.{landing_of, listed_late}
use Rattle.audit.specs.Findings.{finding_of}
use Rattle.audit.proofs.EachPair.{flat_seen}
use Rattle.audit.specs.shared.Steps.{at_end}
use Rattle.audit.proofs.rules.late.Goals as goal

pub loop-d-preserved : goal.loop-d-preserved
loop-d-preserved c =
    let found = c.args.found.now in
    let all = map landing_of found in
    let each = λ (d : Landing). flat_map (listed_late all d) d.flight.after in
    ap (λ l. l ++ flat_map each (map landing_of (drop (c.loop-d.d-index + 1) found))) c.in_ok-late_for.ensures
    ∙ flat_seen each landing_of found c.loop-d.d-index c.d-item.result (map finding_of c.loop-d.all.items) _ _
    c.loop-d-test.true c.d-item.is refl c.loop-d.invariant

pub returns : goal.returns
returns c =
    let all = map landing_of c.args.found.now in
    let each = λ (d : Landing). flat_map (listed_late all d) d.flight.after in
    at_end (map finding_of c.loop-d.all.items) (λ ds. flat_map each (map landing_of ds)) c.args.found.now
    c.loop-d.d-index _ c.loop-d-test.false refl c.loop-d.invariant
