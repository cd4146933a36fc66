-- The windows so far and those of the parts that are left are the windows of all parts.
use Rattle.std.proofs.Common.{◌≡◌, ◌+◌, ◌≤◌, length, take, option_map}
use Rattle.std.specs.Prelude.{IsTrue}
use Rattle.std.specs.List.{list_all}
use Rattle.landing_windows.specs.Windows.{is_in_days}
use Rattle.texts.specs.Parts.{parts, parts_left}
use Rattle.flight_file.specs.Windows.{windows_from}
use Rattle.flight_file.proofs.Parts.{with_front}
use Rattle.flight_file.proofs.windows.spans_in.Given as goal

abbrev pub invariant-loop-rest : goal.invariant-loop-rest
invariant-loop-rest l =
    (with_front (take l.count l.spans)
    (windows_from (l.count + 1) (parts_left 59 (option_map (λ t. t.now) l.rest))) ≡ windows_from 1
    (parts 59 l.fn.text))
    × (l.count + length (parts_left 59 (option_map (λ t. t.now) l.rest)) ≤ 4) × (length l.spans ≡ 4)
    × IsTrue (list_all is_in_days (take l.count l.spans))

abbrev pub decreases-loop-rest : goal.decreases-loop-rest
decreases-loop-rest l = length (parts_left 59 (option_map (λ t. t.now) l.rest))
