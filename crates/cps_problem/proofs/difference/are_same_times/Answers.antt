use Rattle.std.proofs.Common.{◌≡◌, Bool, sym, subst}
use Rattle.std.specs.Bool.{Decides}
use Rattle.landing_windows.specs.Same.{same_lists-Decides}
use Rattle.cps_problem.proofs.difference.are_same_times.Goals as goal

pub returns : goal.returns
returns c = subst (λ (b : Bool). Decides b (c.args.a.now ≡ c.args.b.now)) (sym c.eq.ensures)
    (same_lists-Decides c.args.a.now c.args.b.now)
