use Rattle.std.proofs.Common.{◌+◌, refl}
use Rattle.cps_theory.specs.Labels.{InPairs}
use Rattle.cps_theory.specs.Patterns.{PatternNode, PatternPermits, pattern_newest, pattern_node, pattern_push}
use Rattle.cps_theory.specs.laws.FirstBest.{first_best_unique}
use Rattle.cps_theory.specs.laws.FirstBestObjectives.{built_first_delay, built_first_makespan}
use Rattle.cps_theory.specs.laws.PatternNetwork.{pattern_network}
use Rattle.cps_theory.proofs.best_schedules.least_choices_are_first_best.Goals as goal

pub returns : goal.returns
returns c = record {
  makespan = λ p sound first opens v lists kept. built_first_makespan p sound first opens PatternNode
      (pattern_node p.rules) (λ w. w.0) (λ rs. refl) (PatternPermits p.rules) (pattern_push p.rules) pattern_newest
      (pattern_network p.rules (λ a r b. (sound.ranked a r b).0)) (λ w q. InPairs q (lists w)) v kept;
  delay = λ p sound first opens cost dearer base budget lists kept. built_first_delay p sound first opens PatternNode
      (pattern_node p.rules) (λ w. w.0) (λ rs. refl) (PatternPermits p.rules) (pattern_push p.rules) pattern_newest
      (pattern_network p.rules (λ a r b. (sound.ranked a r b).0)) (λ w q. InPairs q (lists w))
      (base + budget) cost dearer base budget refl kept;
  unique = first_best_unique;
}
