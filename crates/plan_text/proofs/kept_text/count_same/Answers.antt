use Rattle.std.proofs.Common.{◌++◌, ◌∷◌, [], ◌∙◌, get_or, map, take, ap, arith, rules}
use Rattle.std.proofs.lemmas.List.{map-append, take_more}
use Rattle.plan_file.specs.Shown.{shown_of}
use Rattle.plan_text.specs.Kept.{landing_of}
use Rattle.landing_rules.specs.Text.{ShownLanding}
use Rattle.plan_text.proofs.Landings.{first_more}
use Rattle.plan_text.proofs.kept_text.count_same.Goals as goal

pub loop-i-preserved : goal.loop-i-preserved
loop-i-preserved c =
    let xs = c.args.lines.now in
    let i = c.loop-i.i in
    let l = c.index-lines-i.result in
    let lt = c.loop-i-test.true in
    let m = c.min-most.ensures in
    ap (map landing_of) (take_more xs i l (omega arith)) ∙ map-append landing_of (take i xs) (get_or xs i l ∷ [])
    ∙ ap (λ (y : ShownLanding). map landing_of (take i xs) ++ y ∷ []) (c.is_same.ensures (search rules))
    ∙ first_more c.args.plan.now.landings (map landing_of (take i xs)) i
    (shown_of c.line.result) c.loop-i.invariant c.line.ensures
