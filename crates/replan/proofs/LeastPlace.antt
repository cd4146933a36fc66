-- What `min_by_key` over the numbers below n picks: std says it of a run of calls.
use Rattle.std.proofs.Common.{◌≡◌, ℕ, ◌<◌, ◌≤◌, Option, Some, None, true, sym, ap, ◌∙◌, length, get_or, arith, tests}
use Rattle.std.specs.Prelude.{MatchOption}
use Rattle.std.specs.declared.ops.Range.{Range}
use Rattle.std.specs.Fn.{CalledAt}
use Rattle.std.specs.Iterator.Runs.{WholeRun, AnyItem, NoKeyBeyond, YieldsRun, Run}
use Rattle.std.specs.List.{range_with_len}
use Rattle.std.specs.Ordering.{nat_cmp, is_lt}
use Rattle.std.proofs.iter.Yields.{nat_range_steps}
use Rattle.std.proofs.lemmas.Iterator.{YieldsList-from_range, items_from_drains}
use Rattle.std.proofs.lemmas.List.{map-id}
use Rattle.std.proofs.lemmas.List.FromFn.{length-range_with_len, get_or-range_with_len}
use Rattle.std.proofs.lemmas.Option.{slice_get-get_or}
use Rattle.std.proofs.lemmas.Iterator.Consumers.{YieldsList-at}
use denote.Ref.{Bor}
use denote.Param.Members.{Mut, Called}

counts_up : (p : Run nat_range_steps) (s : Range ℕ) (n : ℕ) → p.from ≡ s → p.whole ≡ true → s
    ≡ record { start = 0; end = n } → (p.len ≡ n) × ((k : ℕ) → k < n → p.at k ≡ Some k)
unfolding YieldsRun
counts_up p s n from whole is =
    let gave = p.gave in
    let all : p.items ≡ range_with_len 0 n = sym (map-id p.items)
    ∙ items_from_drains p.items (gave.0.0, gave.0.1, λ _. gave.0.2 whole)
    (YieldsList-at from (YieldsList-from_range 0 n n is (omega arith))) in
    let long : length p.items ≡ n = ap length all ∙ length-range_with_len 0 n in (
      p.long ∙ long,
      λ k below.
          let here : get_or p.items k 0 ≡ k = ap (λ xs. get_or xs k 0) all ∙ get_or-range_with_len 0 n k 0 below
          ∙ omega arith in
          gave.1 k ∙ slice_get-get_or p.items k 0 (omega arith) ∙ ap Some here,
    )

-- where each call gives the value of the number that it is shown, the number picked is below n, and none below n is
-- worth less
module _ {F : Type 0} {g : Mut F (Bor ℕ × Unit {0}) ℕ} (f : F) (value : ℕ → ℕ)
    (calls : (x : Bor ℕ) (b : ℕ) (q : F) → Called g f (x, tt) b q → (q ≡ f) × (b ≡ value x.now)) where
  called_at : (x b : ℕ) (q : F) → CalledAt g f x b q → b ≡ value x
  called_at x b q k = (calls k.shown b q k.called).1 ∙ ap value k.shows

  pub least_from_min_by_key : (n : ℕ) (s : Range ℕ) (r : Option ℕ) → s ≡ record { start = 0; end = n }
      → WholeRun nat_range_steps s (λ p. MatchOption r (p.len ≡ 0) (λ m. AnyItem p (λ x. x ≡ m)
      × NoKeyBeyond p g f is_lt nat_cmp m))
      → MatchOption r (n ≡ 0) (λ m. (m < n) × ((i : ℕ) → i < n → value m ≤ value i))
  least_from_min_by_key n s None is (p, from, whole, told) = sym (counts_up p s n from whole is).0 ∙ told
  least_from_min_by_key n s (Some m) is (p, from, whole, told) =
      let up = counts_up p s n from whole is in
      let (k, below, at) = told.0 in
      let here : k ≡ m = rw (up.1 k (omega arith)) at at in
      let keys = told.1 (λ a b q called. (calls a.0 b q called).0) in
      let key = called_at m keys.0 f keys.1 in (
        omega arith,
        λ i lt.
            let (other, called, none) = rw (up.1 i lt) at (keys.2 i) in
            let value_i = called_at i other f called in
            let no_less : keys.0 ≤ other = grind (arith, tests) in
            omega arith,
      )
