-- What `find` from the back of a range gives: std says it of a run of calls.
use Rattle.std.proofs.Common.{◌≡◌, ℕ, ◌+◌, ◌-◌, ◌<◌, ◌≤◌, Bool, false, Option, Some, None, Bor, refl, sym, ap, ◌∙◌}
use Rattle.std.proofs.Common.{arith}
use Rattle.std.specs.Prelude.{◌↔◌, IsTrue, IfSome, IsSomeAnd, MatchOption, unwrap_or}
use Rattle.std.specs.declared.ops.RangeInclusive.{RangeInclusive}
use Rattle.std.specs.declared.iter.Rev.{Rev}
use Rattle.std.specs.Fn.{CalledAt}
use Rattle.std.specs.Iterator.Adapters.{RevKeepsRuns, rev_steps}
use Rattle.std.specs.Iterator.Runs.{CallKeepsClosure, Run, SomeRun, NoItemPasses, EndsAtFirstPassing}
use Rattle.std.specs.Option.{option_map}
use Rattle.std.specs.Range.{range_inclusive_start, range_inclusive_end, range_inclusive_exhausted}
use Rattle.std.proofs.iter.runs.Sources.{nat_range_inclusive_steps_back, inclusive_listed_back}
use Rattle.std.proofs.lemmas.Bool.{false≢true}
use denote.Param.Members.{Mut, Called}

module _ {s : RangeInclusive ℕ} {t : Rev (RangeInclusive ℕ)} (first last : ℕ) (begins : range_inclusive_start s ≡ first)
    (ends : range_inclusive_end s ≡ last)
    (fresh : range_inclusive_exhausted s ≡ false) (keeps : RevKeepsRuns nat_range_inclusive_steps_back s t)
    (u : Run (rev_steps nat_range_inclusive_steps_back)) (at : u.from ≡ t) where
  -- where each number of a range comes from the back
  counts_down : (u.len ≤ last + 1 - first) × (IsTrue u.whole → u.len ≡ last + 1 - first)
      × ((k : ℕ) → k ≤ last → last < k + u.len → option_map (λ y. y) (u.at (last - k)) ≡ Some k)
  counts_down = grind (arith, inclusive_listed_back)

module _ {F : Type 0} {g : Mut F (Bor ℕ × Unit {0}) Bool} (P : ℕ → Type 0) (f : F)
    (calls : (x : Bor ℕ) (b : Bool) (q : F) → Called g f (x, tt) b q → (q ≡ f) × (IsTrue b ↔ P x.now)) where
  stays : CallKeepsClosure g f
  stays x b q called = (calls x.0 b q called).0

  answers : (x : ℕ) (b : Bool) → CalledAt g f x b f → IsTrue b ↔ P x
  answers x b at = rw at.shows at (calls at.shown b f at.called).1

  fails_at : (x : ℕ) (o : Option ℕ) → option_map (λ y. y) o ≡ Some x → IfSome o (λ y. CalledAt g f y false f) → P x → ⊥
  fails_at x o is called p = grind (arith, false≢true, answers)

  some_is : (o : Option ℕ) → IsSomeAnd o (λ y. CalledAt g f y false f) → IfSome o (λ y. CalledAt g f y false f)
  some_is o called = grind arith

  -- the greatest number of a range for which it is so, as `find` from the back tells
  pub last_in_range : {s : RangeInclusive ℕ} {t : Rev (RangeInclusive ℕ)} (first last : ℕ)
      → range_inclusive_start s ≡ first → range_inclusive_end s ≡ last → range_inclusive_exhausted s ≡ false
      → RevKeepsRuns nat_range_inclusive_steps_back s t → (r : Option ℕ)
      → SomeRun (rev_steps nat_range_inclusive_steps_back) t
      (λ u. MatchOption r (IsTrue u.whole × NoItemPasses u g f) (EndsAtFirstPassing u g f))
      → MatchOption r ((k : ℕ) → first ≤ k → k ≤ last → P k → ⊥) (λ n. (first ≤ n) × (n ≤ last)
      × P n × ((k : ℕ) → n < k → k ≤ last → P k → ⊥))
  last_in_range first last begins ends fresh keeps None (u, at, told) = λ k low high.
      let down = counts_down _ _ begins ends fresh keeps u at in
      fails_at k _ (down.2 k high (omega (arith, down.1 told.0, low))) (told.1 stays (last - k))
  last_in_range first last begins ends fresh keeps (Some n) (u, at, told) =
      let down = counts_down _ _ begins ends fresh keeps u at in
      let most = down.0 in
      let place = told.0 in
      let long = told.1 in
      let passed = told.3 stays in
      let back : last - (last - place) ≡ place = omega (arith, most, long) in
      let here = ap (λ j. option_map (λ y. y) (u.at j))
      (sym back) ∙ down.2 (last - place) (omega arith) (omega (arith, most, long)) in
      let number = ap (λ o. unwrap_or o n) (ap (option_map (λ y. y)) (sym told.2) ∙ here) in (
        omega (arith, number, most, long),
        omega (arith, number),
        (answers n _ passed.0).0 refl,
        λ k above high.
            let earlier : last - k < place = omega (arith, number, above, high, most, long) in grind arith,
      )
