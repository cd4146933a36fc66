-- Lists of seconds by rank and maps from ranks to seconds: what is feasible, and what the theory asks of a problem.
use Rattle.std.proofs.Common.{◌≡◌, ◌≢◌, ℕ, zero, suc, ◌+◌, ◌<◌, ◌≤◌, length, map, true, nat_lt, count_by, zero-le}
use Rattle.std.proofs.Common.{add-one, arith, sym, ap, ap₂, subst, ◌∙◌}
use Rattle.std.specs.Prelude.{IsTrue, MatchOption, Option, slice_index, ⊤}
use Rattle.std.specs.List.{list_any}
use Rattle.std.proofs.lemmas.List.Sorted.{sum_by-IsPermutation}
use Rattle.std.proofs.lemmas.Option.{slice_get-get_or, slice_get_within, get_or_from_slice_get}
use Rattle.wake_table.specs.declared.category.Category.{Category}
use Rattle.wake_table.specs.Table.{separation, IsWakeTable}
use Rattle.precedence.specs.Pairs.{must_precede}
use Rattle.landing_rules.specs.Flights.{Schedule}
use Rattle.landing_rules.specs.Rules.{is_within}
use Rattle.landing_rules.specs.Problem as lists'
use Rattle.cps_theory.specs.RankLists.{IsRank, upto, of_rank}
use Rattle.cps_theory.specs.Feasible.{RankedProblem, earlier, Feasible, SoundProblem}
use Rattle.landing_joint.specs.RankedProblem.{no_waiting, after_last, ranked}
use Rattle.cps_theory.specs.laws.ByRank.{ranks_permute}
use Rattle.cps_theory.specs.laws.NumberedLists.{count_by_map, count_by_agree}
use Rattle.cps_theory.specs.laws.RanksBelow.{in_upto}

earlier_agree : (n : ℕ) (t u : ℕ → ℕ) → ((r : ℕ) → IsRank n r → t r ≡ u r) → (r : ℕ) → IsRank n r
    → earlier n t r ≡ earlier n u r
earlier_agree n t u h r q = count_by_agree _ _ _ (λ x i. ap₂ nat_lt (h x (in_upto n x i)) (h r q))

pub feasible_agree : (f : RankedProblem) (t u : ℕ → ℕ) → ((r : ℕ) → IsRank f.rules.count r → t r ≡ u r)
    → Feasible f t → Feasible f u
feasible_agree f t u h g = record {
  opened = λ r q. subst (λ x. f.is_open r x ≡ true) (h r q) (g.opened r q);
  started = λ r q. let a = g.started r q in let b = h r q in omega arith;
  separated = λ r q ir iq ne le. let a = h r ir in let b = h q iq in omega arith;
  in_order = λ r q ir iq b. let a = h r ir in let d = g.in_order r q ir iq b in omega arith;
  not_early = λ r q. let b = earlier_agree f.rules.count t u h r q in omega arith;
  not_late = λ r q. let b = earlier_agree f.rules.count t u h r q in omega arith;
}

module _ (p : lists'.Problem) where
  abbrev fl : ℕ → lists'.Waiting
  fl r = of_rank no_waiting p.flights r

  pub each_at : (v : Schedule) (P : ℕ → lists'.Waiting → ℕ → Type 0) → lists'.EachWaiting p v P
      → (r : ℕ) → IsRank (length p.flights) r → P r (fl r) (of_rank 0 v r)
  each_at v P e zero q = absurd (omega (arith, q.0))
  each_at v P e (suc i) q = rw (add-one i) at (e i (fl (suc i)) (slice_get-get_or _ i _ (omega arith)))

  pub at_each : (v : Schedule) (P : ℕ → lists'.Waiting → ℕ → Type 0)
      → ((r : ℕ) → IsRank (length p.flights) r → P r (fl r) (of_rank 0 v r)) → lists'.EachWaiting p v P
  at_each v P h i f e =
      let lt = slice_get_within _ i f e in
      let is = get_or_from_slice_get _ i f _ e in
      subst (λ g. P (i + 1) g (slice_index v i)) is
      (subst (λ r. P r (fl (suc i)) (of_rank 0 v (suc i))) (sym (add-one i)) (omega arith))

  pub place_is : (v : Schedule) → length v ≡ length p.flights → (r : ℕ)
      → lists'.place_in v (of_rank 0 v r) ≡ suc (earlier (length p.flights) (of_rank 0 v) r)
  place_is v long r =
      let test = λ (u : ℕ). nat_lt u (of_rank 0 v r) in
      let a = sum_by-IsPermutation _ _ v (ranks_permute 0 v) in
      let b : count_by test (map (of_rank 0 v) (upto (length v))) ≡ count_by (λ q. test (of_rank 0 v q))
      (upto (length v)) = count_by_map _ _ (upto (length v)) in
      let c = ap (λ n. count_by (λ q. test (of_rank 0 v q)) (upto n)) long in
      let d = a ∙ b ∙ c in
      omega arith

  pub after_of : (o : Option (ℕ × Category)) (c : Category) (u : ℕ)
      → MatchOption o ⊤ (λ l. l.0 + separation p.table l.1 c ≤ u) → after_last p.table o c ≤ u
  after_of o c u m = grind (arith, zero-le)

  pub of_after : (o : Option (ℕ × Category)) (c : Category) (u : ℕ) → after_last p.table o c ≤ u
      → MatchOption o ⊤ (λ l. l.0 + separation p.table l.1 c ≤ u)
  of_after o c u m = grind arith

  pub list_feasible : (v : Schedule) → lists'.IsFeasibleList p v → Feasible (ranked p) (of_rank 0 v)
  list_feasible v f = record {
    opened = λ r q. each_at v (λ r w a. IsTrue (list_any (is_within a) w.open_spans)) f.open_seconds r q;
    started = λ r q.
        let a = each_at v (λ r w a. p.horizon ≤ a) f.late r q in
        let b = after_of p.last (fl r).category (of_rank 0 v r)
        (each_at v (λ r w a. MatchOption p.last ⊤ (λ l. l.0 + separation p.table l.1 w.category ≤ a))
        f.after_last r q) in
        omega arith;
    separated = λ r q ir iq ne le. each_at v (λ q g b. r ≢ q → of_rank 0 v r ≤ b
        → of_rank 0 v r + separation p.table (fl r).category g.category ≤ b)
        (each_at v (λ r f a. lists'.EachWaiting p v (λ q g b. r ≢ q → a ≤ b
        → a + separation p.table f.category g.category ≤ b)) f.separated r ir) q iq ne le;
    in_order = λ r q ir iq b. each_at v (λ q g b. IsTrue (must_precede p.pairs r q) → of_rank 0 v r < b)
        (each_at v (λ r f a. lists'.EachWaiting p v (λ q g b. IsTrue (must_precede p.pairs r q)
        → a < b)) f.in_precedence r ir) q iq b;
    not_early = λ r q. let k = each_at v (λ r w a. (r ≤ lists'.place_in v a + p.k)
        × (lists'.place_in v a + w.passed ≤ r + p.k)) f.shift r q in let e =
        place_is v f.one_each r in omega (arith, k.0);
    not_late = λ r q. let k = each_at v (λ r w a. (r ≤ lists'.place_in v a + p.k)
        × (lists'.place_in v a + w.passed ≤ r + p.k)) f.shift r q in let e =
        place_is v f.one_each r in omega (arith, k.1);
  }

  pub feasible_list : ((r : ℕ) → IsRank (length p.flights) r → (fl r).passed ≤ p.k) → (v : Schedule)
      → length v ≡ length p.flights → Feasible (ranked p) (of_rank 0 v) → lists'.IsFeasibleList p v
  feasible_list passed_low' v long f = record {
    one_each = long;
    open_seconds = at_each v (λ r w a. IsTrue (list_any (is_within a) w.open_spans)) f.opened;
    late = at_each v (λ r w a. p.horizon ≤ a) (λ r q. omega (arith, f.started r q));
    after_last = at_each v (λ r w a. MatchOption p.last ⊤ (λ l. l.0 + separation p.table l.1 w.category ≤ a))
        (λ r q. of_after p.last (fl r).category (of_rank 0 v r) (omega (arith, f.started r q)));
    separated = at_each v (λ r f a. lists'.EachWaiting p v (λ q g b. r ≢ q → a ≤ b
        → a + separation p.table f.category g.category ≤ b)) (λ r ir. at_each v (λ q g b. r ≢ q → of_rank 0 v r ≤ b
        → of_rank 0 v r + separation p.table (fl r).category g.category ≤ b)
        (λ q iq ne le. f.separated r q ir iq ne le));
    in_precedence = at_each v (λ r f a. lists'.EachWaiting p v (λ q g b. IsTrue (must_precede p.pairs r q) → a < b))
        (λ r ir. at_each v (λ q g b. IsTrue (must_precede p.pairs r q) → of_rank 0 v r < b)
        (λ q iq c. f.in_order r q ir iq c));
    shift = at_each v (λ r w a. (r ≤ lists'.place_in v a + p.k) × (lists'.place_in v a + w.passed ≤ r + p.k)) (λ r q.
        let e = place_is v long r in
        (omega arith, omega arith));
  }

  -- where each pair stands between ranks, the theory's laws hold of the problem
  pub sound_ranked : IsWakeTable p.table → ((q r : ℕ) → must_precede p.pairs q r ≡ true → IsRank (length p.flights) q)
      → SoundProblem (ranked p)
  sound_ranked table between = search (arith, table.triangle, table.entries)
