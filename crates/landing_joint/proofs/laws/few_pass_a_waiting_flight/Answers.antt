use Rattle.landing_joint.proofs.PassedOver.{clock_counts, clock_counts_exactly}
use Rattle.landing_joint.proofs.InLine.{step_counts, few_pass, few_pass_later, few_pass_first, few_pass_anyone}
use Rattle.landing_joint.proofs.laws.few_pass_a_waiting_flight.Goals as goal

pub returns : goal.returns
returns c = record {
  clock = clock_counts;
  step = step_counts;
  run = few_pass;
  later = few_pass_later;
  first = few_pass_first;
  exactly = clock_counts_exactly;
  anyone = few_pass_anyone;
}
