-- What `find` over a range finds is the first number that passes.
use Rattle.std.proofs.Common.{rules, ◌≡◌, ℕ, zero, suc, ◌+◌, ◌<◌, ◌≤◌, Bool, true, false, Option, Some, None, refl, sym}
use Rattle.std.proofs.Common.{ap, ◌∙◌, arith, inl, inr}
use Rattle.std.specs.Option.{MatchOption}
use Rattle.std.specs.declared.ops.Range.{Range}
use Rattle.std.specs.Iterator.{FindsItem}
use Rattle.std.specs.Fn.{CalledAt}
use Rattle.std.proofs.iter.Yields.{nat_range_steps}
use denote.Ref.{Bor}
use denote.Param.Members.{Mut, Called}
use Rattle.std.proofs.lemmas.Bool.{cases_eq}
use Rattle.std.proofs.lemmas.Iterator.{first_from_Range, YieldsList-from_range}
use Rattle.std.specs.Iterator.Runs.{SomeRun, AllItemsGive, IsFirstToGive}
use Rattle.std.specs.List.{range_with_len}
use Rattle.cps_base.specs.laws.FindMap.{first_answer, first_answer_from_find_map}
use Rattle.cps_theory.specs.FirstFound.{first_from, first_pair_from, with_number}
use Rattle.cps_theory.specs.laws.FirstFound.{none_from}

first_at : (test : ℕ → Bool) (x m y : ℕ) → x ≤ y → y < x + m → test y ≡ true
    → ((k : ℕ) → x ≤ k → k < y → test k ≡ false) → Some y ≡ first_from test x m
first_at test x zero y le lt passes none = absurd (omega arith)
first_at test x (suc m) y le lt passes none = elim (cases_eq y x) [
  | inl s ↦ (let h : test x ≡ true = ap test (sym s) ∙ passes in rw h (ap Some s))
  | inr ne ↦ rw (none x (omega arith) (omega arith))
      (first_at test (suc x) m y (omega arith) (omega arith) passes (λ k a b. none k (omega arith) b))
]

pub found_in_range : {F : Type 0} {g : Mut F (Bor ℕ × Unit {0}) Bool} (test : ℕ → Bool) (m : ℕ)
    (s u : Range ℕ) (f : F) (r : Option ℕ) → s.end ≡ s.start + m
    → FindsItem nat_range_steps g s f r u → ((x : ℕ) (b : Bool) (q : F) → CalledAt g f x b q → (q ≡ f) × (b ≡ test x))
    → r ≡ first_from test s.start m
found_in_range test m s u f r e ran calls = by r (first_from_Range s u f r (λ x. test x ≡ true) (λ x. test x ≡ false)
    ran (λ x q k. sym (calls x true q k).1) (λ x q k. let c = calls x false q k in (c.0, sym c.1)))
  where
    by : (o : Option ℕ) → MatchOption o ((k : ℕ) → s.start ≤ k → k < s.end → test k ≡ false)
        (λ i. (s.start ≤ i) × (i < s.end) × (test i ≡ true) × ((k : ℕ) → s.start ≤ k → k < i → test k ≡ false))
        → o ≡ first_from test s.start m
    by None h = search (rules, none_from)
    by (Some i) h = first_at test s.start m i h.0 (omega (arith, e, h.1)) h.2 h.3

ranks_answer : (find : ℕ → Option ℕ) (x m : ℕ)
    → first_answer (λ y. with_number y (find y)) (range_with_len x m) ≡ first_pair_from find x m
unfolding first_answer
ranks_answer find x zero = refl
ranks_answer find x (suc m) = grind (arith, ranks_answer find (suc x) m)

-- what `find_map` over a range finds is the first number for which another is found, with that other
pub pair_in_range : {F : Type 0} {g : Mut F (ℕ × Unit {0}) (Option (ℕ × ℕ))} (find : ℕ
    → Option ℕ) (m : ℕ) (s : Range ℕ) (f : F) (r : Option (ℕ × ℕ)) → s.end ≡ s.start + m
    → SomeRun nat_range_steps s (λ p. MatchOption r ((p.whole ≡ true) × AllItemsGive p g f None)
    (λ y. (i : ℕ) × (i < p.len) × (p.len ≡ i + 1) × IsFirstToGive p g f (Some y) None i))
    → ((x : ℕ) (b : Option (ℕ × ℕ)) (q : F) → Called g f (x, tt) b q → (q ≡ f) × (b ≡ with_number x (find x)))
    → r ≡ first_pair_from find s.start m
pair_in_range find m s f r e runs calls = first_answer_from_find_map (λ x. with_number x (find x)) f calls r runs
    (YieldsList-from_range s.start s.end m refl (omega (arith, e))) ∙ ranks_answer find s.start m
