use Rattle.std.proofs.Common.{◌≡◌, ◌+◌, ◌≤◌, length, map, option_map}
use Rattle.texts.specs.Parts.{parts, parts_left}
use Rattle.plan_file.specs.Shown.{shown_of}
use Rattle.plan_file.specs.Reading.{lines_in, body_lines}
use Rattle.plan_file.proofs.reading.read_body.Given as goal

-- the landings so far, and what is left to read
abbrev pub invariant-loop-after : goal.invariant-loop-after
invariant-loop-after l = record {
  same : lines_in l.number (map shown_of l.landings.items) l.line
      (parts_left 10 (option_map (λ t. t.now) l.after)) ≡ body_lines (parts 10 l.fn.text);
  count : length l.landings.items + 2 ≡ l.number;
  few : l.number ≤ 502;
}

abbrev pub decreases-loop-after : goal.decreases-loop-after
decreases-loop-after l = length (parts_left 10 (option_map (λ t. t.now) l.after))
