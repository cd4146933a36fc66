use Rattle.std.proofs.Common.{arith}
use Rattle.std.proofs.lemmas.Grind.{common_steps}
use Rattle.std.proofs.Common.{rules}
use Rattle.replan.proofs.LeastPairLemmas.{all_least, as_written, first_leasts}
use Rattle.replan.proofs.least_pairs.least_pairs.Goals as goal

pub lower_to_labels-requires-clause-begun : goal.lower_to_labels-requires-clause-begun
lower_to_labels-requires-clause-begun c = grind (arith, common_steps, first_leasts)

pub lower_to_pairs-requires-clause-begun : goal.lower_to_pairs-requires-clause-begun
lower_to_pairs-requires-clause-begun c = search (rules, first_leasts)

pub returns-in-Some-clause-least : goal.returns-in-Some-clause-least
returns-in-Some-clause-least c = grind (arith, common_steps, all_least, as_written)

pub returns-clause-least : goal.returns-clause-least
returns-clause-least c = grind (arith, common_steps, as_written, all_least)
