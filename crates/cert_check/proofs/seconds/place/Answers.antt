-- The ranks that land earlier are counted.
use Rattle.std.proofs.Common.{◌≡◌, ◌+◌, ℕ, suc, arith, ◌∙◌, cond, rules, tests}
use Rattle.std.specs.Prelude.{nat_lt, count_by}
use Rattle.std.specs.List.{range_with_len}
use Rattle.std.proofs.lemmas.Iterator.{YieldsList-from_range}
use Rattle.std.proofs.lemmas.Iterator.Consumers.{YieldsList-from_filter, count_from_yields_List}
use Rattle.std.proofs.lemmas.List.{length-map}
use Rattle.std.proofs.lemmas.List.Sums.{length-filter, sum_by-cons}
use Rattle.cps_theory.specs.RankLists.{upto}
use Rattle.landing_joint.specs.shared.RankedLists.{place_is}
use Rattle.cert_check.specs.Landings.{count, second, seconds, second_of}
use Rattle.cps_theory.specs.laws.RanksBelow.{ranks_folded}
use Rattle.cert_check.proofs.seconds.place.Goals as goal

pub returns-clause-value : goal.returns-clause-value
returns-clause-value c =
    let p = c.args.problem.now in
    let ls = c.args.landings.now in
    let test = λ (q : ℕ). nat_lt (second p ls q) (second p ls c.args.rank) in
    let counted : c.count-earlier.result ≡ count_by test (upto (count p)) =
    (count_from_yields_List c.filter.result _ c.count-earlier.ensures.ran
    (YieldsList-from_filter _ test
    (YieldsList-from_range 1 _ (count p) c.filter.ensures.source (omega (arith, c.len.ensures.value)))
    c.filter.ensures.closure (λ x b q k. search (rules, tests)))) ∙ length-filter test
    (range_with_len 1 (count p)) ∙
    (ranks_folded (λ n q. n + cond (test q) 1 0) (λ n. count_by test (upto n))
    (λ n. omega (arith, sum_by-cons (λ (q : ℕ). cond (test q) 1 0) (suc n) (upto n))) (count p)) in
    let is = place_is p (seconds p ls) (length-map p.flights (λ f. second_of ls f.callsign)) c.args.rank in
    omega arith
