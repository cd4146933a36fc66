-- Flights that come one behind another make a problem.
use Rattle.std.proofs.Common.{◌≡◌, ℕ, ◌+◌, ◌<◌, ◌≤◌, length, map, get_or, Option, None, refl, sym, ap, subst, arith}
use Rattle.std.specs.Prelude.{All, AllPairs, MatchOption, ⊤, ◌≢◌}
use Rattle.std.specs.declared.cmp.Ordering.{Ordering}
use Rattle.std.specs.declared.cmp.Ordering.TheVariants.{Less}
use Rattle.std.specs.Ordering.{nat_cmp, ordering_then, is_lt}
use Rattle.std.specs.Cmp.{nat_cmp_is}
use Rattle.std.specs.Cmp.Lexicographic.{slice_cmp}
use Rattle.cps_base.specs.Limits.{most_waiting}
use Rattle.landing_rules.specs.Rules.{last_second}
use Rattle.precedence.specs.Pairs.{MustPrecede, must_precede_decides}
use Rattle.wake_table.specs.Table.{IsWakeTable}
use Rattle.wake_table.specs.declared.category.Category.{Category}
use Rattle.landing_rules.specs.Problem as rules
use Rattle.cps_problem.specs.WellFormed.{ComesBefore, IsWellFormed}
use Rattle.std.proofs.lemmas.List.{length-map}
use Rattle.cps_problem.specs.Seen.{seen_problem, waiting_of}
use Rattle.crate_tests.proofs.bank.Bank.problem.Goals as goal

comes_before : (f g : rules.Waiting) → f.eta < g.eta → ComesBefore f g
comes_before f g lt =
    let less : Less ≡ nat_cmp f.eta g.eta = nat_cmp_is f.eta g.eta Less lt in
    ap (λ (o : Ordering). is_lt (ordering_then o (slice_cmp nat_cmp f.callsign g.callsign))) (sym less)

well_formed : (p : rules.Problem) → IsWakeTable p.table → p.k ≤ 3 → p.horizon ≡ 0 → p.last ≡ None → p.base ≡ 0
    → ((i j : ℕ) → MustPrecede p.pairs i j → (1 ≤ i) × (i ≤ length p.flights) × (1 ≤ j) × (j ≤ length p.flights))
    → length p.flights ≤ most_waiting
    → AllPairs (λ (f g : rules.Waiting). (f.eta < g.eta) × (f.callsign ≢ g.callsign)) p.flights
    → All (λ (f : rules.Waiting). (f.eta ≤ last_second) × (f.weight ≡ 1) × (f.passed ≤ p.k)) p.flights
    → IsWellFormed p
well_formed p table few horizon last base ranks count ordered ranges = record {
  table = table;
  few_places = few;
  few_flights = count;
  in_order = λ k d lt. comes_before (get_or p.flights k d) (get_or p.flights (k + 1) d)
      (ordered k (k + 1) d (omega arith) lt).0;
  callsigns = λ i j d lt within. (ordered i j d lt within).1;
  between_ranks = λ i j must. ranks i j ((must_precede_decides p.pairs i j).0 must);
  last_before = subst (λ (l : Option (ℕ × Category)). MatchOption l ⊤ (λ l. l.0 < p.horizon)) (sym last) tt;
  near_horizon = omega (arith, horizon);
  estimates = λ i d lt. (ranges i d lt).0;
  weights = λ i d lt. let e = (ranges i d lt).1 in (omega (arith, e), omega (arith, e));
  passed = λ i d lt. (ranges i d lt).2;
  base = omega (arith, base, count);
}

pub build-requires : goal.build-requires
build-requires c = λ table.
    let count : length (map waiting_of c.args.self.waiting.items) ≡ length c.args.self.waiting.items =
    length-map c.args.self.waiting.items waiting_of in
    well_formed (seen_problem
    (record {
      table = c.in_ok-table.table;
      k = c.args.self.k;
      objective = c.args.objective;
      horizon =
          0;
      last = None;
      base = 0;
    }) c.args.self.waiting.items c.one_pair.result)
    table c.args.self.near refl refl refl
    (λ i j must. let pair = c.one_pair.ensures i j must in (
      pair.0,
      omega (arith, count, pair.1, c.if-first-n.false, c.len-n.ensures),
      omega (arith, pair.2, c.if-next-lt1.false),
      omega (arith, count, pair.2, c.if-next-n.false, c.len-n.ensures),
    ))
    (omega (arith, count, c.args.self.few)) c.args.self.in_order c.args.self.in_range
