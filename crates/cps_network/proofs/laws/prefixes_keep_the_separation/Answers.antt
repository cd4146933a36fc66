use Rattle.cps_network.proofs.PrefixLandingLemmas.{neighbours_suffice, attains_by_prefixes}
use Rattle.cps_network.proofs.laws.prefixes_keep_the_separation.Goals as goal

pub returns : goal.returns
returns c =
    let table = c.head-sound.ensures.well_formed.table in
    record {
      neighbours = neighbours_suffice c.args.problem.now table;
      attained =
          attains_by_prefixes c.args.problem.now table;
    }
