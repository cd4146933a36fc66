use Rattle.std.proofs.Common.{[], arith}
use Rattle.replan.proofs.StageLemmas.{one_more}
use Rattle.replan.proofs.stages.put_first.Goals as goal

pub returns-clause-held : goal.returns-clause-held
returns-clause-held g c =
    let first = c.in_ok-first.ensures in
    one_more _ [] _ _ (record {
      number = λ i lt. absurd (omega arith);
      ascending = λ i lt. absurd (omega arith);
      held = λ i lt. absurd (omega arith);
      whole = λ i some lt. absurd (omega arith);
    }) (rw c.requires.none at c.in_ok-push.ensures.items) first.number first.ascending first.held
    (λ last none. absurd (omega arith))
