use Rattle.std.proofs.Common.{map, take}
use Rattle.std.specs.List.{AllZip}
use Rattle.landing_rules.specs.Problem.{IsWaitingOf}
use Rattle.cps_problem.specs.Seen.{waiting_of}
use Rattle.sequencer.proofs.waiting.all_waiting.Given as goal

-- the flights so far
abbrev pub invariant-loop-active : goal.invariant-loop-active
invariant-loop-active l =
    AllZip (IsWaitingOf l.closures) (take l.active-index (map (λ a. a.now) l.ranked.items)) (map waiting_of l.all.items)
