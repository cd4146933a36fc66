use Rattle.std.proofs.Common.{◌+◌, [], ◌∷◌, ◌++◌, map, take, sym, ap, ◌∙◌, arith}
use Rattle.std.proofs.lemmas.List.{length-map, take_more, map-append}
use Rattle.std.proofs.lemmas.Slice.Zip.{all_zipped_more}
use Rattle.landing_rules.specs.Problem.{IsWaitingOf}
use Rattle.cps_problem.specs.Seen.{waiting_of}
use Rattle.sequencer.proofs.Ranks.{seen_at}
use Rattle.sequencer.proofs.waiting.all_waiting.Goals as goal

pub loop-active-preserved : goal.loop-active-preserved
loop-active-preserved c =
    let items = c.args.ranked.now.items in
    let xs = map (λ a. a.now) items in
    let i = c.loop-active.active-index in
    let x = c.active-item.result in
    let n = length-map items (λ a. a.now) in
    let within = rw c.deref-active-items.ensures.value at c.loop-active-test.true in
    let at = rw c.deref-active-items.ensures.value at c.active-item.is in
    let is = seen_at (λ a. a.now) items i x within at in
    let here = take_more xs i x.now (omega arith)
    ∙ ap (λ b. take i xs ++ b ∷ []) (sym is) in
    let there =
    ap (map waiting_of) c.in_ok-push.ensures.items ∙ map-append waiting_of _ (c.in_ok-waiting.waiting ∷ []) in
    rw (here, there) (all_zipped_more (IsWaitingOf c.args.closures.now) _ _ x.now
    (waiting_of c.in_ok-waiting.waiting) c.loop-active.invariant (c.in_ok-waiting.ensures _ c.in_ok-runway.ensures))
