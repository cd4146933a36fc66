use Rattle.std.proofs.Common.{◌≡◌, ◌++◌, drop}
use Rattle.situations.specs.Refused.{given}
use Rattle.situations.proofs.opening_refusal.given.Given as goal

-- those so far, and those that are left
abbrev pub invariant-loop-entry : goal.invariant-loop-entry
invariant-loop-entry l = l.all.items
    ++ given l.situation.active (drop l.entry-index l.frozen) ≡ given l.situation.active l.frozen
