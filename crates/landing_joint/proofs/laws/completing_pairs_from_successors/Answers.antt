use Rattle.std.proofs.Common.{le_trans}
use Rattle.cps_theory.specs.Labels.{InPairs}
use Rattle.cps_theory.specs.laws.CompletingPairs.{completing_undominated, undominated_completing}
use Rattle.landing_joint.specs.CompletingPairs.{IsCompletingPair}
use Rattle.landing_joint.specs.shared.NodePairs.{completes_one}
use Rattle.landing_joint.specs.shared.SuccessorPairs.{last_pairs, successor_pairs}
use Rattle.landing_joint.proofs.FirstBest.{ranked_sound}
use Rattle.landing_joint.proofs.laws.completing_pairs_from_successors.Goals as goal

pub returns : goal.returns
returns c = record {
  last = λ p v rs pairs is l whole cover. last_pairs p (ranked_sound p is) v rs l (λ q. InPairs q pairs) whole cover;
  before = λ p v lists rs pairs is l short nexts cover. successor_pairs p (ranked_sound p is) v rs l
      (λ q. InPairs q pairs) (λ os q. InPairs q (lists os)) short nexts cover;
  earliest = λ p rs e b here least. (
    λ c. le_trans (search) c.by,
    λ le. record {
      landings = here.landings;
      legal = here.legal;
      landed = here.landed;
      one_node = here.one_node;
      by = le_trans here.by le;
    },
  );
  undominated = λ p v rs pairs kept one q. (
    λ i. completing_undominated (IsCompletingPair p v rs) (λ o. InPairs o pairs) kept one q i,
    λ u. undominated_completing (IsCompletingPair p v rs) (λ o. InPairs o pairs) kept q u,
  );
  node = λ p v rs os q is l m one c. completes_one p (ranked_sound p is) v rs os q l m one c;
}
