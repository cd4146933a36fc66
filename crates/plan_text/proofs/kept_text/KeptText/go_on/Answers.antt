use Rattle.std.proofs.Common.{◌++◌, ◌∷◌, [], List, take, refl, ap, ◌∙◌, arith}
use Rattle.std.proofs.lemmas.List.{take_all}
use Rattle.landing_rules.specs.Text.{ShownLanding}
use Rattle.plan_file.specs.Shown.{shown_of}
use Rattle.plan_text.specs.Kept.{Written}
use Rattle.plan_text.proofs.Landings.{first_more}
use Rattle.plan_text.proofs.kept_text.KeptText.go_on.Goals as goal

pub returns : goal.returns
returns c =
    c.loop-i.invariant ∙ ap (λ (l : List ShownLanding). (let w : Written =
    record { head = c.args.self.now.head; landings = l } in w))
    (take_all c.loop-i.i c.args.plan.now.landings (let past = c.loop-i-test.false in let n =
    c.len-i-end.ensures in omega arith))

pub loop-i-preserved : goal.loop-i-preserved
loop-i-preserved c =
    let ls = c.args.plan.now.landings in
    let l = shown_of c.line.result in
    c.in_ok-push.ensures ∙ ap (λ (w : Written). (let v : Written =
    record { head = w.head; landings = w.landings ++ l ∷ [] } in v)) c.loop-i.invariant
    ∙ ap (λ (r : List ShownLanding). (let v : Written = record { head = c.args.self.now.head; landings = r } in v))
    (first_more ls (take c.loop-i.i ls) c.loop-i.i l refl c.line.ensures)
