use Rattle.cert_writer.proofs.writer.certify.Goals as goal

pub new-requires : goal.new-requires
new-requires c =
    let form = c.whole_states_are_fixed.ensures.in_form c.args.problem.now c.in_ok-states.states.items
    c.head-well_formed.ensures.well_formed c.in_ok-states.ensures.whole c.in_ok-states.ensures.in_range in
    record {
      claim = c.in_ok-claim.ensures.claim;
      landings = c.in_ok-claim.ensures.landings;
      states = form.0;
      ascending = c.in_ok-states.ensures.whole.ascending;
      few = form.1;
    }
