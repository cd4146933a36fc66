use Rattle.cps_network.specs.shared.KeptStages.{early_stages_are_kept, uncounted_stages_are_kept}
use Rattle.cps_network.proofs.laws.kept_stages.Goals as goal

pub returns : goal.returns
returns c =
    let held = c.head-held_ranks.ensures.well_formed.between_ranks in
    let next = c.head-next_ranks.ensures.well_formed.between_ranks in
    record {
      early = early_stages_are_kept c.args.held.now c.args.next.now held next;
      uncounted =
          uncounted_stages_are_kept c.args.held.now c.args.next.now held next;
    }
