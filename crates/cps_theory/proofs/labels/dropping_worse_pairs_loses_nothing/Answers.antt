use Rattle.cps_theory.specs.laws.Staircases.{staircase_same, sweep_covers, sweep_staircase}
use Rattle.cps_theory.specs.laws.UndominatedPairs.{add_covers}
use Rattle.cps_theory.proofs.labels.dropping_worse_pairs_loses_nothing.Goals as goal

pub returns : goal.returns
returns c = record {
  added = add_covers;
  swept = sweep_covers;
  staircase = sweep_staircase;
  same = staircase_same;
}
