-- What the callers' facts come to, for stages one after another.
use Rattle.std.proofs.Common.{◌≡◌, ℕ, ◌+◌, ◌*◌, ◌≤◌, List, length, sym, subst, arith}
use Rattle.std.specs.Prelude.{ℤ}
use Rattle.cps_base.specs.Limits.{greatest_k, most_waiting}
use Rattle.cps_nodes.specs.Windows.{IsWidth}
use Rattle.cps_nodes.specs.Laws.{FollowRanks, LeadOn}
use Rattle.landing_rules.specs.Problem.{Problem}
use Rattle.cps_network.specs.Nodes.{IsWindowNetwork}
use Rattle.cps_network.specs.Permits.{IsNextOf, LeadAlike}
use Rattle.makespan_labels.specs.Labellings.{CanLabel}
use Rattle.makespan_labels.specs.Labels.{HoldsLabels}

pub width_of : (p : Problem) (w : ℕ) → w ≡ 2 * p.k + 1 → p.k ≤ greatest_k → IsWidth w
width_of p w odd few = (omega (arith, odd), omega (arith, odd, few))

-- the same problem by another name
pub can_label : (p q : Problem) (w : ℕ) (before : ℕ × List (List ℤ)) (labels : List ℕ) (stage : ℕ × List (List ℤ))
    → q ≡ p → w ≡ 2 * p.k + 1 → length p.flights ≤ most_waiting → IsWindowNetwork p → LeadAlike p w → FollowRanks w
    → LeadOn w → HoldsLabels p before labels → stage.0 ≡ before.0 + 1 → IsNextOf p before.0 before.1 stage.1
    → CanLabel q w before labels stage
can_label p q w before labels stage e odd few network alike ranks leads held number next =
    subst (λ (r : Problem). CanLabel r w before labels stage) (sym e) (record {
      odd = odd;
      few = few;
      laws = record { network = network; alike = alike; ranks = ranks; leads = leads };
      held = held;
      number = number;
      next = next;
    })
