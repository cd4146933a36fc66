use Rattle.std.proofs.Common.{◌≡◌, take}
use Rattle.landing_rules.specs.Problem.{joined}
use Rattle.sequencer.proofs.seconds.joined_seconds.Given as goal

-- the ranks so far have their seconds
abbrev pub invariant-loop-index : goal.invariant-loop-index
invariant-loop-index l = l.seconds.items ≡ joined l.situation (take l.index l.schedule)
