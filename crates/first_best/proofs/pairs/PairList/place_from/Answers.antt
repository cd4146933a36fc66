use Rattle.std.proofs.Common.{◌≡◌, ltb, rules, of_calls, ◌∙◌, arith}
use Rattle.std.proofs.lemmas.Bool.{ltb-true, ltb-false}
use Rattle.std.proofs.lemmas.List.Sorted.{IsPartitionPoint-from_clause}
use Rattle.first_best.proofs.PairLemmas.{rises_split}
use Rattle.first_best.proofs.pairs.PairList.place_from.Goals as goal

pub returns : goal.returns
returns c =
    let same : c.deref.result.now ≡ c.args.self.now = c.deref.ensures.value ∙ c.self.view_is in
    let point = IsPartitionPoint-from_clause (λ q. ltb q.0 c.args.second) c.deref.result.now
    c.partition_point.result c.partition_point.ensures.partitioned
    (rises_split c.deref.result.now (rw same c.requires) c.args.second) (λ a r f k. search (rules, of_calls)) in
    rw (← same) (record {
      within = c.partition_point.ensures.bound;
      below = λ i lt. ltb-true _ _ (point.0 i (0, 0) (omega arith) lt);
      late = λ lt. ltb-false _ _ (point.1 c.partition_point.result (0, 0) (omega arith) lt);
    })
