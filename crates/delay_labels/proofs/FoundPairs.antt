-- What `find_map` over a range gives, where only a relation is known of the answers: the first number that has one, and
-- which.
use Rattle.std.proofs.Common.{◌≡◌, ℕ, ◌+◌, ◌-◌, ◌<◌, ◌≤◌, true, List, map, take, length, Option, Some, None, refl, sym}
use Rattle.std.proofs.Common.{ap, subst, ◌∙◌, arith}
use Rattle.std.specs.Prelude.{IsSomeAnd, MatchOption, slice_get, slice_index_or}
use Rattle.std.specs.List.{range_with_len}
use Rattle.std.specs.declared.ops.Range.{Range}
use Rattle.std.specs.Iterator.Runs.{SomeRun, AllItemsGive, IsFirstToGive, YieldsRun}
use Rattle.std.proofs.iter.Yields.{nat_range_steps}
use Rattle.std.proofs.lemmas.Iterator.{items_from_drains, YieldsList-from_range}
use Rattle.std.proofs.lemmas.Iterator.Consumers.{YieldsList-so_far, YieldsList-at}
use Rattle.std.proofs.lemmas.List.{get_or-take, length-map, length-take, map-id}
use Rattle.std.proofs.lemmas.List.FromFn.{get_or-range_with_len, length-range_with_len}
use Rattle.std.proofs.lemmas.Option.{slice_get-get_or}
use denote.Param.Members.{Mut, Called}

-- the numbers of a range so far, each in turn
number_at : (xs : List ℕ) (from n i k : ℕ) → from + i ≡ k → map (λ x. x) xs ≡ take (length xs) (range_with_len from n)
    → i < length xs → (slice_get xs i ≡ Some k) × (i < n)
number_at xs from n i k at is lt = let few : i < n = grind (arith, length-map, length-take, length-range_with_len) in (
  slice_get-get_or xs i 0 lt ∙ ap Some (ap (λ l. slice_index_or l i 0) (sym (map-id xs) ∙ is)
      ∙ get_or-take (length xs) (range_with_len from n) i 0 lt ∙ get_or-range_with_len from n i 0 few ∙ at),
  few,
)

module _ {C F : Type 0} {g : Mut F (ℕ × Unit {0}) (Option C)} (f : F) (Yes : ℕ → C → Type 0) (No : ℕ → Type 0)
    (some : (x : ℕ) (y : C) (q : F) → Called g f (x, tt) (Some y) q → (q ≡ f) × Yes x y) (none : (x : ℕ) (q : F)
    → Called g f (x, tt) None q → (q ≡ f) × No x) where
  stays : (x : ℕ) (r : Option C) (q : F) → Called g f (x, tt) r q → q ≡ f
  stays x None q k = (none x q k).0
  stays x (Some y) q k = (some x y q k).0

  pub first_from_find_map : {s : Range ℕ} (from to : ℕ) → s ≡ record { start = from; end = to } → (r : Option C)
      → SomeRun nat_range_steps s (λ p. MatchOption r ((p.whole ≡ true) × AllItemsGive p g f None)
      (λ y. (i : ℕ) × (i < p.len) × (p.len ≡ i + 1) × IsFirstToGive p g f (Some y) None i))
      → MatchOption r ((k : ℕ) → from ≤ k → k < to → No k) (λ y. (k : ℕ) × (from ≤ k) × (k < to)
      × Yes k y × ((j : ℕ) → from ≤ j → j < k → No j))
  unfolding YieldsRun
  first_from_find_map from to is None (p, at, told) =
      let gave = p.gave in
      let road = YieldsList-at at (YieldsList-from_range from to (to - from) is refl) in
      let all : map (λ x. x) p.items ≡ range_with_len from (to - from) = grind (arith, items_from_drains) in
      let long : length p.items ≡ to - from = grind (arith, length-map, length-range_with_len) in
      let silent = told.1 (λ a r q k. stays a.0 r q k) in
      λ k lo hi.
      let here = number_at p.items from (to - from) (k - from) k (omega (arith, lo))
      (YieldsList-so_far road p.items gave.0.0 gave.0.1) (omega (arith, long, lo, hi)) in grind arith
  first_from_find_map from to is (Some y) (p, at, told) =
      let gave = p.gave in
      let road = YieldsList-at at (YieldsList-from_range from to (to - from) is refl) in
      let long = p.long in
      let so_far = YieldsList-so_far road p.items gave.0.0 gave.0.1 in
      let first = told.3 (λ a r q k. stays a.0 r q k) in
      let place = told.0 in
      let here = number_at p.items from (to - from) place (from + place) refl so_far (omega (arith, long, told.1)) in
      let gives : Called g f (from + place, tt) (Some y) f =
      subst (λ o. IsSomeAnd o (λ x. Called g f (x, tt) (Some y) f)) (gave.1 place ∙ here.0) first.0 in (
        from + place,
        omega arith,
        omega (arith, here.1),
        (some (from + place) y f gives).1,
        λ j lo hi.
            let there = number_at p.items from (to - from) (j - from) j (omega (arith, lo)) so_far
            (omega (arith, long, told.1, lo, hi)) in
            (none j f (subst (λ o. IsSomeAnd o (λ x. Called g f (x, tt) None f)) (gave.1 (j - from) ∙ there.0)
            (first.1 (j - from) (omega (arith, lo, hi))))).1,
      )
