use Rattle.std.proofs.Common.{ℕ, ◌<◌, ◌⊎◌}
use Rattle.std.specs.Prelude.{All}
use Rattle.cps_theory.specs.Labels.{InPairs, NoWorse, Pair}
use Rattle.cps_network.specs.Pairs.{list_at, pair_at}
use Rattle.replan.specs.Kept.{held_of}
use Rattle.replan.specs.Readers.{lists_in}
use Rattle.cert_writer.specs.Gathered.{IsPairInRange}
use Rattle.cert_writer.proofs.pairs.NodePairs.join.Given as goal

abbrev pub invariant-loop-j : goal.invariant-loop-j
invariant-loop-j l =
    ((q : Pair) → InPairs q l.self → InPairs q l.fn.self ⊎ InPairs q (list_at (lists_in (held_of l.kept) l.stage) l.i))
    × ((q : Pair) → InPairs q l.fn.self → (o : Pair) × InPairs o l.self × NoWorse o q)
    × ((m : ℕ) → m < l.j → (o : Pair) × InPairs o l.self
    × NoWorse o (pair_at (list_at (lists_in (held_of l.kept) l.stage) l.i) m))
    × (All IsPairInRange l.fn.self → All IsPairInRange l.self)
