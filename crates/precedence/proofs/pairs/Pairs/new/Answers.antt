use Rattle.std.proofs.Common.{◌+◌, refl, replicate}
use Rattle.cps_base.specs.Limits.{most_waiting}
use Rattle.precedence.proofs.PairsLemmas.{no_pair}
use Rattle.precedence.proofs.pairs.Pairs.new.Goals as goal

pub invariant_of-result : goal.invariant_of-result
invariant_of-result c = record {
  len = refl;
  in_range = λ i j h. absurd (no_pair (replicate (most_waiting + 1) 0) refl i j h);
}

pub returns : goal.returns
returns c = no_pair (replicate (most_waiting + 1) 0) refl
