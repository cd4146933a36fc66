use Rattle.std.proofs.Common.{rules, Some, refl}
use Rattle.situations.specs.Named.{frozen_so, with_second}
use Rattle.situations.specs.Opened.{seconds_in}
use Rattle.situations.proofs.Named.{as_from_before, as_from_end, second_first}
use Rattle.situations.proofs.situation.Situation.freeze_listed.Goals as goal

pub loop-i-init : goal.loop-i-init
loop-i-init c = search (rules, as_from_end)

pub loop-i-preserved : goal.loop-i-preserved
loop-i-preserved c =
    let e = c.index-entries-i.result in
    as_from_before with_second seconds_in c.args.entries.now c.args.self.now e.callsign e.second
    (frozen_so e.callsign (Some e.second)) (second_first e.callsign e.second) c.loop-i.i e c.loop-i.self
    c.set_frozen.new.self c.loop-i-test.true c.loop-i.auto.i c.index-entries-i.is (λ es. refl) c.loop-i.invariant
    c.set_frozen.ensures
