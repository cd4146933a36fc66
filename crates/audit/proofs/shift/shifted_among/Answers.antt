use Rattle.std.proofs.Common.{Bor, ◌≡◌, ◌<◌, ◌+◌, ◌++◌, List, length, get_or, map, drop, refl, sym, ap, ◌∙◌, arith}
use Rattle.std.proofs.lemmas.List.{length-map, get_or-map}
use Rattle.landing_rules.specs.Flights.{Active, Landing}
use Rattle.landing_rules.specs.Text.{ShownLanding}
use Rattle.landing_rules.specs.Audit.{landing_of}
use Rattle.audit.specs.Findings.{finding_of, too_far}
use Rattle.audit.proofs.Shifting.{shift_step, too_far_from}
use Rattle.audit.proofs.shift.shifted_among.Goals as goal

pub loop-f-preserved : goal.loop-f-preserved
loop-f-preserved c =
    let items : List (Bor (ShownLanding × Active)) = c.args.waiting.now in
    let landed = λ (g : Bor (ShownLanding × Active)). landing_of g.now in
    let all : List Landing = map landed items in
    let i = c.loop-f.f-index in
    let x = c.f-item.result in
    let f : Landing = landing_of x.now in
    let n = length-map items landed in
    let within : i < length items = c.loop-f-test.true in
    let is : f ≡ get_or all i f = ap landed c.f-item.is ∙ sym (get_or-map landed items i x f within) in
    ap (λ l. l ++ too_far_from c.args.k all (drop (i + 1) all)) c.in_ok-note.ensures
    ∙ shift_step c.args.k all i f (map finding_of c.loop-f.all.items) (too_far c.args.k all f) _
    (omega (arith, n, within)) is refl c.loop-f.invariant
