use Rattle.std.proofs.Common.{◌≡◌, Some, ap, ◌∙◌, rules, tests}
use Rattle.std.proofs.lemmas.Iterator.{first_from_find}
use Rattle.std.proofs.lemmas.Iterator.Adapters.{YieldsList-from_rev_slice}
use Rattle.sequencer.proofs.LastFrozen.{IsElsewhere, back_found, back_none, found_last, some_last}
use Rattle.sequencer.proofs.frozen.latest_at.Goals as goal

pub returns-in_err-active : goal.returns-in_err-active
returns-in_err-active c =
    let s = c.args.situation.now in
    let m = c.args.second in
    let b = some_last s m c.requires.second in
    let found = first_from_find _ _ _ (λ a. a.frozen ≡ Some m) (IsElsewhere s.active m) c.find.ensures.ran
    (YieldsList-from_rev_slice s.active (cc)) (λ x q k. search (rules, tests)) (λ x q k. search (rules, tests)) in
    absurd (back_none s.active m (rw c.in_err-active.was at found) b.0 b.1 b.2)

pub returns : goal.returns
returns c =
    let s = c.args.situation.now in
    let m = c.args.second in
    let found = first_from_find _ _ _ (λ a. a.frozen ≡ Some m) (IsElsewhere s.active m) c.find.ensures.ran
    (YieldsList-from_rev_slice s.active (cc)) (λ x q k. search (rules, tests)) (λ x q k. search (rules, tests)) in
    let some = rw c.in_ok-active.was at found in
    let a = c.in_ok-active.active.now in
    ap (λ x. Some (m, x.flight.category)) c.active.view_is
    ∙ found_last s c.requires.sound m a c.requires.second (back_found s.active m a some.1 some.2 some.3) some.0
