use Rattle.std.proofs.Common.{rules, refl}
use Rattle.situations.specs.Named.{counted, with_count}
use Rattle.situations.specs.Opened.{counts_in}
use Rattle.situations.proofs.Named.{as_from_before, as_from_end, count_first}
use Rattle.situations.proofs.situation.Situation.count_listed.Goals as goal

pub loop-i-init : goal.loop-i-init
loop-i-init c = search (rules, as_from_end)

pub loop-i-preserved : goal.loop-i-preserved
loop-i-preserved c =
    let e = c.index-entries-i.result in
    as_from_before with_count counts_in c.args.entries.now c.args.self.now e.callsign e.count
    (counted e.callsign e.count) (count_first e.callsign e.count) c.loop-i.i e c.loop-i.self
    c.set_passed.new.self c.loop-i-test.true c.loop-i.auto.i c.index-entries-i.is (λ es. refl) c.loop-i.invariant
    c.set_passed.ensures
