use Rattle.std.proofs.Common.{◌≡◌, ◌∙◌, ap, sym, subst, List, ℕ}
use Rattle.std.specs.Prelude.{ℤ, IfSome}
use Rattle.std.specs.Arc.{arc_value}
use Rattle.std.specs.Cmp.Rules.{signed_items}
use Rattle.std.proofs.lemmas.Slice.Eq.{slice_eq-Decides}
use Rattle.cps_network.specs.Links.{Links}
use Rattle.cps_network.proofs.stage.Stage.links.Goals as goal

pub returns-then-eq : goal.returns-then-eq
returns-then-eq g c =
    let leads : (arc_value c.in-Some.links).target ≡ c.args.self.now.1 =
    subst (λ (found : _). IfSome found (λ l. (arc_value {X = Links} l).target ≡ c.args.self.now.1)) c.in-Some.is
    (subst (λ (s : ℕ × List (List ℤ)). IfSome c.self.inside.links (λ l. (arc_value {X = Links} l).target ≡ s.1))
    c.self.view_is c.self.invariant.3) in (
      ap (λ (l : Links). l.origin) (c.deref-then-eq.ensures ∙ sym c.deref.ensures) ∙ sym c.origin.ensures
          ∙ (slice_eq-Decides signed_items _ _ _ c.eq.ensures).0 c.if-eq.true ∙ c.windows.ensures.windows,
      ap (λ (l : Links). l.target) c.deref-then-eq.ensures ∙ leads,
    )
