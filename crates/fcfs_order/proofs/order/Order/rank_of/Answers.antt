use Rattle.std.proofs.Common.{◌≡◌, ℕ, ◌<◌, List, length, get_or, refl, subst, ◌∙◌, arith}
use Rattle.std.specs.Prelude.{Contains}
use Rattle.std.proofs.lemmas.Bool.{true≢false}
use Rattle.std.proofs.lemmas.Option.{slice_get-get_or}
use Rattle.fcfs_order.specs.shared.Sorted.{found, parted, searchable, counted_at}
use Rattle.fcfs_order.proofs.order.Order.rank_of.Goals as goal

-- the arrival stands at the place that was found
pub Stands : (c : goal.In-Ok) → Type 0
Stands c = (c.in-Ok.place < length c.args.self.now)
    × (get_or c.args.self.now c.in-Ok.place (c.args.eta, c.args.callsign) ≡ (c.args.eta, c.args.callsign))

stands : (c : goal.In-Ok) → Stands c
unfolding Stands
stands c = grind (arith, found)

pub returns-in-Ok-clause-found : goal.returns-in-Ok-clause-found
unfolding Stands
returns-in-Ok-clause-found c = grind (arith, stands, slice_get-get_or)

pub returns-in-Ok-clause-counted : goal.returns-in-Ok-clause-counted
unfolding Stands
returns-in-Ok-clause-counted c = grind (arith, stands, counted_at)

pub returns-in-Ok-clause-absent : goal.returns-in-Ok-clause-absent
unfolding Stands
returns-in-Ok-clause-absent c = grind (arith, stands, true≢false)

pub returns-in-Err-clause-absent : goal.returns-in-Err-clause-absent
returns-in-Err-clause-absent c =
    let p : ℕ × List ℕ = (c.args.eta, c.args.callsign) in
    let xs : List (ℕ × List ℕ) = c.deref.result.now in
    let parts = c.in-Err.ensures.position (searchable xs p (rw c.deref.ensures.value c.self.invariant.ascending)) in (
      λ _. subst (λ (l : List (ℕ × List ℕ)). Contains l p → ⊥) (c.deref.ensures.value ∙ c.self.view_is)
          (parted p xs _ parts.0 parts.1),
      λ _. refl,
    )
