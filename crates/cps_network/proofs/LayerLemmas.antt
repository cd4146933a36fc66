-- The windows of the next stage.
use Rattle.std.proofs.Common.{◌≡◌, ℕ, ◌+◌, ◌*◌, List, [], arith, ◌∙◌, sym, subst}
use Rattle.std.proofs.lemmas.List.Elements.{Contains-get_or}
use Rattle.std.proofs.lemmas.List.{get_or_default}
use Rattle.std.specs.Prelude.{ℤ, Contains}
use Rattle.std.proofs.lemmas.Int.{ints}
use Rattle.cps_nodes.specs.Windows.{IsWindow}
use Rattle.cps_nodes.specs.Laws.{LeadOn, offset_after}
use Rattle.landing_rules.specs.Problem.{Problem}
use Rattle.cps_network.specs.Lists.{node_at, AreWindows}
use Rattle.cps_network.specs.Landable.{HoldsCandidates}
use Rattle.cps_network.specs.Permits.{IsPermitted, IsSuccessor, IsNextOf}

pub window_at : (width : ℕ) (ws : List (List ℤ)) (x : List ℤ) → AreWindows width ws → Contains ws x → IsWindow width x
window_at width ws x valid (i, lt, at) =
    subst (λ (z : List ℤ). IsWindow width z) (get_or_default ws i [] x lt ∙ at) (valid i lt)

-- the windows of the next stage are windows
pub next_valid : (p : Problem) (stage width : ℕ) (before after : List (List ℤ)) → width ≡ 2 * p.k + 1
    → LeadOn width → AreWindows width before
    → IsNextOf p stage before after → AreWindows width after
next_valid p stage width before after odd law valid next i lt =
    let s : (window : List ℤ) × Contains before window × IsSuccessor p stage window (node_at after i) =
    (next (node_at after i)).0 (Contains-get_or after i [] lt) in
    let is : IsPermitted p stage s.0 s.2.0 = s.2.1 in
    subst (λ (z : List ℤ). IsWindow width z) (sym s.2.2)
    (law.stays s.0 (offset_after stage s.2.0) (window_at width before s.0 valid s.1)
    (record { low = omega (arith, ints, is.late, odd); high = omega (arith, ints, is.early, odd) }) is.accepted)

-- the same, for numbers and windows that are written otherwise
pub next_at : (p : Problem) (a b : ℕ) (xs ys us vs : List (List ℤ)) → IsNextOf p a xs us → a ≡ b
    → xs ≡ ys → us ≡ vs → IsNextOf p b ys vs
next_at p a b xs ys us vs next e f h = subst (λ (q : ℕ). IsNextOf p q ys vs) e
    (subst (λ (zs : List (List ℤ)). IsNextOf p a zs vs) f (subst (λ (zs : List (List ℤ)). IsNextOf p a xs zs) h next))

-- where the stage before holds the landable windows, the next holds the candidates
pub candidates : (p : Problem) (before after : ℕ × List (List ℤ)) → IsNextOf p before.0 before.1 after.1
    → HoldsCandidates p before after
candidates p before after next holds x = (
  λ has. let s : (window : List ℤ) × Contains before.1 window × IsSuccessor p before.0 window x =
      (next x).0 has in (s.0, (holds s.0).0 s.1, s.2),
  λ (xs, landable, is). (next x).1 (xs, (holds xs).1 landable, is),
)
