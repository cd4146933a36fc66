-- The landings are worth what their greatest second and their costs are.
use Rattle.std.proofs.Common.{rules}
use Rattle.std.proofs.lemmas.List.{length-map}
use Rattle.landing_joint.specs.shared.BestLists.{list_value}
use Rattle.cert_check.specs.Landings.{seconds}
use Rattle.cert_check.proofs.seconds.value.Goals as goal

pub returns : goal.returns
returns c = search (rules, list_value, seconds, length-map)
