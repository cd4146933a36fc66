use Rattle.first_best.proofs.stage.StageAhead.latest.Goals as goal

pub returns : goal.returns
returns c = λ q m. c.latest.ensures q (rw c.list.ensures m)
