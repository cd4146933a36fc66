-- What `all` over a range says where its test says enough when it says yes, and what `find` says of what stands before
-- the one that it finds.
use Rattle.std.proofs.Common.{◌≡◌, ℕ, ◌-◌, ◌<◌, ◌≤◌, Bool, true, false, List, length, get_or, refl, arith}
use Rattle.std.proofs.Common.{Option, Some, None}
use Rattle.std.specs.Prelude.{IsTrue, ⊤, unwrap_or, MatchOption}
use Rattle.std.specs.Bool.{MatchBool}
use Rattle.std.specs.Iterator.{ChecksAll}
use Rattle.std.specs.List.{AllWithin, HoldsAt, range_with_len}
use Rattle.std.specs.declared.ops.Range.{Range}
use Rattle.std.proofs.iter.Yields.{nat_range_steps}
use Rattle.std.proofs.lemmas.Bool.{false≢true}
use Rattle.std.proofs.lemmas.Iterator.{YieldsList-from_range, cases_from_all}
use Rattle.std.proofs.lemmas.List.FromFn.{length-range_with_len, get_or-range_with_len}
use denote.Param.Members.{Mut, Called}

-- what fails the test before the first that passes, or up to the end where none passes
pub all_before : (Fails : ℕ → Type 0) (from end : ℕ) (found : Option ℕ)
    → MatchOption found ((i : ℕ) → from ≤ i → i < end → Fails i) (λ to. (from ≤ to) × (to < end)
    × ⊤ × ((i : ℕ) → from ≤ i → i < to → Fails i))
    → (i : ℕ) → from ≤ i → i < unwrap_or found end → Fails i
all_before Fails from end None first = first
all_before Fails from end (Some to) first = first.3

module _ {F : Type 0} {g : Mut F (ℕ × Unit {0}) Bool} (P : ℕ → Type 0) (s u : Range ℕ) (f : F) (r : Bool)
    (calls : (x : ℕ) (b : Bool) (q : F) → Called g f (x, tt) b q → (q ≡ f) × (IsTrue b → P x)) where
  abbrev numbers : List ℕ
  numbers = range_with_len s.start (s.end - s.start)

  at_each : AllWithin P numbers 0 (length numbers) → (k : ℕ) → s.start ≤ k → k < s.end → P k
  at_each h k a b =
      let at : get_or numbers (k - s.start) 0 ≡ k = grind (arith, get_or-range_with_len) in
      grind (arith, length-range_with_len)

  pub each_in_range : ChecksAll nat_range_steps g s f r u → IsTrue r → (k : ℕ) → s.start ≤ k → k < s.end → P k
  each_in_range ran = by r (cases_from_all u f r P (λ x. ⊤) ran (YieldsList-from_range s.start s.end _ refl refl)
      (λ x q k. let c = calls x true q k in (c.0, c.1 refl)) (λ x q k. tt))
    where
      by : (b : Bool) → MatchBool b (AllWithin P numbers 0 (length numbers)) ((i : ℕ) × (i < length numbers)
          × HoldsAt (λ x. ⊤) numbers i) → IsTrue b → (k : ℕ) → s.start ≤ k → k < s.end → P k
      by true h = λ t. at_each h
      by false h = λ t. absurd (false≢true t)
