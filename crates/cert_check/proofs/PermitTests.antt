-- A rank that passes the test may come next.
use Rattle.std.proofs.lemmas.Grind.{common_steps}
use Rattle.std.proofs.Common.{rules, ◌≡◌, ℕ, suc, ◌+◌, ◌≤◌, ◌⊎◌, true, false, Option, None, arith}
use Rattle.std.specs.Prelude.{is_none}
use Rattle.std.proofs.lemmas.Bool.{leb-true, or_right, and_parts, not-true, both_ways}
use Rattle.cps_theory.specs.RankLists.{IsRank}
use Rattle.cps_theory.specs.FirstFound.{first_from}
use Rattle.cps_theory.specs.LegalPrefix.{OrderRules}
use Rattle.cps_theory.specs.Patterns.{IsPlacedByPattern, PatternNode, PatternPermits}
use Rattle.cps_theory.specs.CertificateClosure.{is_missing_predecessor, is_placed_by_pattern, leaves_none_due}
use Rattle.cps_theory.specs.CertificateClosure.{permits_next}
use Rattle.cps_theory.specs.laws.FirstFound.{from_none}

pub none_is : {A : Type 0} (o : Option A) → is_none o ≡ true → o ≡ None
none_is o e = grind (arith, common_steps)

module _ (g : OrderRules) where
  placed_by : (w : PatternNode) (x : ℕ) → is_placed_by_pattern g.most w x ≡ true → IsPlacedByPattern g w x
  unfolding is_placed_by_pattern
  placed_by w x e = search rules

  by_placed : (w : PatternNode) (x : ℕ) → IsPlacedByPattern g w x → is_placed_by_pattern g.most w x ≡ true
  unfolding is_placed_by_pattern
  by_placed w x given = search (rules, or_right)

  due_from : (w : PatternNode) (r : ℕ) → leaves_none_due g w r ≡ true → (x : ℕ) → 1 ≤ x → x + g.most ≡ suc w.0
      → (x ≡ r) ⊎ IsPlacedByPattern g w x
  due_from w r e x one at = search (rules, placed_by)

  -- what stands before r is placed
  pred_from : (w : PatternNode) (r a : ℕ) → is_missing_predecessor g w r a ≡ false → g.before a r ≡ true
      → IsPlacedByPattern g w a
  pred_from w r a e b = search (rules, placed_by)

  pub permits_from : ((a r : ℕ) → g.before a r ≡ true → IsRank g.count a) → (w : PatternNode) (r : ℕ)
      → IsRank g.count r → permits_next g w r ≡ true → PatternPermits g w r
  unfolding permits_next
  permits_from between w r rank e =
      let a = and_parts _ _ e in
      let b = and_parts _ _ a.0 in
      let c = and_parts _ _ b.0 in
      let d = and_parts _ _ c.0 in
      record {
        from_one = rank.0;
        to_count = rank.1;
        is_new = λ h. both_ways (is_placed_by_pattern g.most w r) (not-true (is_placed_by_pattern g.most w r) c.1)
            (by_placed w r h);
        not_early = leb-true r (suc w.0 + g.most) d.0;
        not_late = leb-true (suc w.0) (r + g.back r) d.1;
        after = λ x one before.
            let q = (between x r before).1 in
            pred_from w r x (from_none (is_missing_predecessor g w r) 1 g.count
            (none_is (first_from (is_missing_predecessor g w r) 1 g.count) a.1) x one (omega arith)) before;
        due = due_from w r b.1;
      }
