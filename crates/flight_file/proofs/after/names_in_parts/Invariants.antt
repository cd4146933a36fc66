-- The names so far and those of the parts that are left are the names of all parts.
use Rattle.std.proofs.Common.{◌≡◌, ◌+◌, ◌≤◌, [], length, option_map}
use Rattle.texts.specs.Parts.{parts, parts_left}
use Rattle.flight_file.specs.After.{names_from}
use Rattle.flight_file.proofs.after.names_in_parts.Given as goal

abbrev pub invariant-loop-rest : goal.invariant-loop-rest
invariant-loop-rest l =
    (names_from l.own l.number l.names (parts_left 59 (option_map (λ t. t.now) l.rest)) ≡ names_from l.own 1 []
    (parts 59 l.fn.text))
    × (l.number ≡ length l.names + 1) × (length l.names + length (parts_left 59 (option_map (λ t. t.now) l.rest)) ≤ 4)

abbrev pub decreases-loop-rest : goal.decreases-loop-rest
decreases-loop-rest l = length (parts_left 59 (option_map (λ t. t.now) l.rest))
