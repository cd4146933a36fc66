use Rattle.std.proofs.Common.{◌≡◌, ℕ, ◌≤◌, List, length, get_or, sym, ap, subst, ◌∙◌, arith}
use Rattle.std.proofs.lemmas.Bool.{false≢true}
use Rattle.std.specs.List.Sorted.{IsStrictlySortedBy}
use Rattle.std.specs.Prelude.{Contains}
use Rattle.std.specs.List.{remove}
use Rattle.std.specs.declared.cmp.Ordering.TheVariants.{Equal}
use Rattle.cps_base.specs.Limits.{most_waiting}
use Rattle.landing_rules.specs.Rules.{first_come_cmp}
use Rattle.fcfs_order.specs.Order.{IsOrder, without}
use Rattle.fcfs_order.specs.shared.Sorted.{found, parted, searchable, without_at, without_none, ascending_without}
use Rattle.fcfs_order.specs.shared.Sorted.{short_without}
use Rattle.fcfs_order.proofs.order.Order.remove.Goals as goal

pub returns-in-Ok-clause-rest : goal.returns-in-Ok-clause-rest
returns-in-Ok-clause-rest c =
    let p : ℕ × List ℕ = (c.args.eta, c.args.callsign) in
    let xs : List (ℕ × List ℕ) = c.deref.result.now in
    let at : first_come_cmp (get_or xs c.in-Ok.place p) p ≡ Equal = c.in-Ok.ensures.position p in
    let sorted : IsStrictlySortedBy first_come_cmp xs = rw c.deref.ensures.value c.self.invariant.ascending in
    let gone : without p xs ≡ remove xs c.in-Ok.place =
    without_at p xs c.in-Ok.place sorted c.in-Ok.ensures.bound (found p xs c.in-Ok.place c.in-Ok.ensures.bound at) in
    c.remove.ensures.items ∙ ap (λ (l : List (ℕ × List ℕ)). remove l c.in-Ok.place) (sym c.deref.ensures.value)
    ∙ sym gone ∙ ap (without p) (c.deref.ensures.value ∙ c.self.view_is)

pub returns-in-Ok-clause-found : goal.returns-in-Ok-clause-found
returns-in-Ok-clause-found c = grind (arith, found)

absent : (c : goal.In-Err) → Contains c.args.self.now (c.args.eta, c.args.callsign) → ⊥
absent c =
    let p : ℕ × List ℕ = (c.args.eta, c.args.callsign) in
    let xs : List (ℕ × List ℕ) = c.deref.result.now in
    let parts = c.in-Err.ensures.position (searchable xs p (rw c.deref.ensures.value c.self.invariant.ascending)) in
    subst (λ (l : List (ℕ × List ℕ)). Contains l p → ⊥) (c.deref.ensures.value ∙ c.self.view_is)
    (parted p xs _ parts.0 parts.1)

pub returns-in-Err-clause-found : goal.returns-in-Err-clause-found
returns-in-Err-clause-found c = (λ t. absurd (false≢true t), λ h. absurd (absent c h))

pub returns-in-Err-clause-rest : goal.returns-in-Err-clause-rest
returns-in-Err-clause-rest c = sym (without_none (c.args.eta, c.args.callsign) c.args.self.now (absent c))

pub invariant_of-self : goal.invariant_of-self
invariant_of-self c =
    let p : ℕ × List ℕ = (c.args.eta, c.args.callsign) in
    let xs : List (ℕ × List ℕ) = c.args.self.now in
    subst IsOrder (sym (returns-in-Ok-clause-rest c)) (record {
      ascending = ascending_without p xs (rw (← c.self.view_is) c.self.invariant.ascending);
      few = let n = short_without p xs in let r : length xs ≤ most_waiting =
          rw (← c.self.view_is) c.self.invariant.few in omega arith;
    })
