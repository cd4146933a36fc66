use Rattle.landing_joint.specs.Shift.{with_shift}
use Rattle.situations.specs.Opened.{opened}
use Rattle.whatif.proofs.OutcomeLemmas.{no_worse_by}
use Rattle.whatif.proofs.laws.more_shift_gives_no_worse_outcome.Goals as goal

pub returns : goal.returns
returns c = λ a fs k l x y le first second hx hy. no_worse_by (with_shift k (opened a fs)) (with_shift l (opened a fs))
    (λ t u best other. c.more_shift_is_never_worse.ensures.no_worse (opened a fs) k l t u le best other)
    (λ none t f. c.more_shift_is_never_worse.ensures.infeasible (opened a fs) k l le none t f) x y
    (rw first at hx) (rw second at hy)
