use Rattle.std.proofs.Common.{◌≡◌, arith, rules, [], ap, is_lt, false, true}
use Rattle.std.specs.List.Sorted.{IsPartitionPoint}
use Rattle.std.proofs.lemmas.List.Sorted.{IsPartitionPoint-from_clause}
use Rattle.cps_network.specs.Lists.{node_at}
use Rattle.cps_network.proofs.SourceLemmas.{is_below, is_below-from, IsBelow-true, IsPartitionedBy-is_below}
use Rattle.cps_network.proofs.source_range.first_source.Goals as goal

-- where the test begins to fail
point : (g : _) (c : goal.After-partition_point g)
    → IsPartitionPoint (λ x. is_below c.args.node.now x ≡ true)
    (λ x. is_below c.args.node.now x ≡ false) c.args.before.now c.partition_point.result
point g c =
    IsPartitionPoint-from_clause (is_below c.args.node.now) _ _ c.partition_point.ensures.partitioned
    (IsPartitionedBy-is_below _ _ c.requires.ascending)
    (λ a r q k. (is_below-from c.args.node.now a.0.now r (search rules), search rules))

pub returns-clause-below : goal.returns-clause-below
returns-clause-below g c =
    λ i lt. IsBelow-true c.args.node.now (node_at c.args.before.now i) ((point g c).0 i [] (omega arith) lt)

pub returns-clause-above : goal.returns-clause-above
returns-clause-above g c = λ i from within below. let fails =
    (point g c).1 i [] from within in let holds = ap is_lt below in cc
