use Rattle.std.proofs.Common.{◌≡◌, ℕ, List, sym, ap, subst, ◌∙◌, arith}
use Rattle.std.specs.List.{insert}
use Rattle.fcfs_order.specs.Order.{IsOrder, with_arrival}
use Rattle.fcfs_order.specs.shared.Sorted.{found, searchable, with_at, ascending_with, long_with}
use Rattle.fcfs_order.proofs.order.Order.insert.Goals as goal

pub returns-in-Ok : goal.returns-in-Ok
returns-in-Ok c = grind (arith, found)

pub returns-in_ok-insert-in-Err : goal.returns-in_ok-insert-in-Err
returns-in_ok-insert-in-Err c =
    let p : ℕ × List ℕ = (c.args.eta, c.args.callsign) in
    let xs : List (ℕ × List ℕ) = c.deref.result.now in
    let parts = c.in-Err.ensures.position (searchable xs p (rw c.deref.ensures.value c.self.invariant.ascending)) in
    let place : with_arrival p xs ≡ insert xs c.in-Err.place p =
    with_at p xs c.in-Err.place c.in-Err.ensures.bound parts.0 parts.1 in
    c.in_ok-insert-in-Err.ensures.items ∙ ap (λ (l : List (ℕ × List ℕ)). insert l c.in-Err.place p)
    (sym c.deref.ensures.value) ∙ sym place ∙ ap (with_arrival p) (c.deref.ensures.value ∙ c.self.view_is)

pub invariant_of-self-in-Err : goal.invariant_of-self-in-Err
invariant_of-self-in-Err c =
    let p : ℕ × List ℕ = (c.args.eta, c.args.callsign) in
    let xs : List (ℕ × List ℕ) = c.args.self.now in
    subst IsOrder (sym (returns-in_ok-insert-in-Err c)) (record {
      ascending = ascending_with p xs c.requires.absent (rw (← c.self.view_is) c.self.invariant.ascending);
      few = let n = long_with p xs in let r = c.requires.room in omega arith;
    })
