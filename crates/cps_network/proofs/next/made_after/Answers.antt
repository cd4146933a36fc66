use Rattle.std.proofs.Common.{◌≡◌, ◌∙◌, ◌+◌, ℕ, List, ap, sym}
use Rattle.std.specs.Prelude.{ℤ}
use Rattle.std.specs.Cmp.Rules.{signed_items}
use Rattle.std.proofs.lemmas.Slice.Eq.{slice_eq-Decides}
use Rattle.cps_network.proofs.next.made_after.Goals as goal

pub returns-then-eq : goal.returns-then-eq
returns-then-eq g c =
    let same : c.args.before.now.1 ≡ c.args.windows.items =
    sym c.windows.ensures.windows ∙ (slice_eq-Decides signed_items _ _ _ c.eq.ensures).0 c.if-eq.true
    ∙ c.as_slice.ensures.value in
    c.in_ok-same.ensures ∙ ap (λ (n : ℕ). (n + 1, c.args.before.now.1)) c.number-number.ensures
    ∙ ap (λ (windows : List (List ℤ)). (c.args.before.now.0 + 1, windows)) same
