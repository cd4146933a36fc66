-- What contracts see of the node that the code keeps.
use Rattle.std.specs.Prelude.{ℕ, suc, ◌+◌, ◌-◌, ◌||◌, Bool, false, get_or}
use Rattle.std.proofs.Common.{eqb}
use Rattle.cps_theory.specs.Patterns.{PatternNode}
use Rattle.cert_check.specs.declared.node.StateNode.{StateNode}

abbrev pub seen : StateNode → PatternNode
seen w = (w.stage, w.pattern, w.last)

-- whether the rank of `rank + k = y` is placed, behind a node by one more rank
abbrev pub pushed_digit : ℕ → PatternNode → ℕ → ℕ → Bool
pushed_digit k w r y = eqb y (r + k) || get_or w.1 (y - suc w.0) false
