-- What `all` and `any` over a range say of the numbers in it.
use Rattle.std.proofs.Common.{◌≡◌, ℕ, ◌+◌, ◌-◌, ◌<◌, ◌≤◌, Bool, true, false, List, length, get_or, refl, subst, arith}
use Rattle.std.specs.Prelude.{◌↔◌, IsTrue}
use Rattle.std.specs.Bool.{MatchBool}
use Rattle.std.specs.Iterator.{ChecksAll, ChecksAny}
use Rattle.std.specs.List.{AllWithin, HoldsAt, range_with_len}
use Rattle.std.specs.declared.ops.Range.{Range}
use Rattle.std.proofs.iter.Yields.{nat_range_steps}
use Rattle.std.proofs.lemmas.Bool.{false≢true}
use Rattle.std.proofs.lemmas.Iterator.{YieldsList-from_range, cases_from_all, cases_from_any}
use Rattle.std.proofs.lemmas.List.FromFn.{length-range_with_len, get_or-range_with_len}
use denote.Param.Members.{Mut, Called}

module _ (P : ℕ → Type 0) (start end : ℕ) where
  abbrev numbers : List ℕ
  numbers = range_with_len start (end - start)

  each : AllWithin P numbers 0 (length numbers) → (k : ℕ) → start ≤ k → k < end → P k
  each h k a b =
      let at : get_or numbers (k - start) 0 ≡ k = grind (arith, get_or-range_with_len) in
      subst P at (h (k - start) 0 (omega arith) (omega (arith, length-range_with_len start (end - start))))

  some : (i : ℕ) × (i < length numbers) × HoldsAt P numbers i → (k : ℕ) × (start ≤ k) × (k < end) × P k
  some (i, below, h) =
      let short : i < end - start = omega (arith, length-range_with_len start (end - start), below) in
      (start + i, omega arith, omega arith, rw (get_or-range_with_len _ _ i 0 short) at (h 0))

module _ {F : Type 0} {g : Mut F (ℕ × Unit {0}) Bool} (P : ℕ → Type 0) (s u : Range ℕ) (f : F) (r : Bool)
    (calls : (x : ℕ) (b : Bool) (q : F) → Called g f (x, tt) b q → (q ≡ f) × (IsTrue b ↔ P x)) where
  fails : (x : ℕ) (q : F) → Called g f (x, tt) false q → P x → ⊥
  fails x q k p = false≢true ((calls x false q k).1.1 p)

  pub all_in_range : ChecksAll nat_range_steps g s f r u → IsTrue r ↔ ((k : ℕ) → s.start ≤ k → k < s.end → P k)
  all_in_range ran = by r (cases_from_all u f r P _ ran (YieldsList-from_range _ _ _ refl refl)
      (λ x q k. let c = calls x true q k in (c.0, c.1.0 refl)) fails)
    where
      by : (b : Bool) → MatchBool b (AllWithin P (numbers P s.start s.end) 0 (length (numbers P s.start s.end)))
          ((i : ℕ) × (i < length (numbers P s.start s.end)) × HoldsAt (λ x. P x → ⊥) (numbers P s.start s.end) i)
          → IsTrue b ↔ ((k : ℕ) → s.start ≤ k → k < s.end → P k)
      by true h = (λ t. each P _ _ h, λ h. refl)
      by false h = (
        grind arith,
        λ all. let x = some (λ x. P x → ⊥) _ _ h in absurd (x.3 (all x.0 x.1 x.2)),
      )

  pub any_in_range : ChecksAny nat_range_steps g s f r u → IsTrue r ↔ ((k : ℕ) × (s.start ≤ k) × (k < s.end) × P k)
  any_in_range ran = by r (cases_from_any u f r P _ ran (YieldsList-from_range _ _ _ refl refl)
      (λ x q k. (calls x true q k).1.0 refl) (λ x q k. ((calls x false q k).0, fails x q k)))
    where
      by : (b : Bool) → MatchBool b ((i : ℕ) × (i < length (numbers P s.start s.end))
          × HoldsAt P (numbers P s.start s.end) i) (AllWithin (λ x. P x → ⊥) (numbers P s.start s.end) 0
          (length (numbers P s.start s.end))) → IsTrue b ↔ ((k : ℕ) × (s.start ≤ k) × (k < s.end) × P k)
      by true h = (λ t. some P _ _ h, λ x. refl)
      by false h = (λ t. absurd (false≢true t), λ x. absurd (each (λ y. P y → ⊥) _ _ h x.0 x.1 x.2 x.3))
