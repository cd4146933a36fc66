-- The ranks of a placed order differ, and few of greater rank land before a flight.
use Rattle.std.proofs.Common.{ℕ, ◌+◌, ◌≤◌, List, [], ◌∷◌, length, ltb, max, nat_lt, arith}
use Rattle.std.proofs.lemmas.Bool.{and_from, le-leb}
use Rattle.cps_theory.specs.RankLists.{Distinct, above}
use Rattle.cps_theory.specs.LegalPrefix.{EachFits, OrderRules}
use Rattle.cps_theory.specs.laws.LegalPrefix.{in_below}
use Rattle.cps_theory.specs.laws.RankCounts.{count_is, count_weaker, count_between}

pub each_fits_distinct : (g : OrderRules) (rs : List ℕ) → EachFits g rs → Distinct rs
each_fits_distinct g [] p = tt
each_fits_distinct g (r ∷ rs) p = (p.0.is_new, each_fits_distinct g rs p.1)

-- with d = place - rank, at most max(0, d + k - 1) flights of greater rank land before a flight
pub few_above : (g : OrderRules) (rs : List ℕ) (r : ℕ) → EachFits g rs → above r rs + r ≤ max r (length rs + g.most)
few_above g rs r p =
    let one = count_is (λ x. nat_lt r x) rs in
    let same = count_weaker _ _ rs (λ x i q. and_from (ltb r x) _ q (le-leb x _ (in_below g x rs p i))) in
    let b = count_between r (length rs + g.most) rs (each_fits_distinct g rs p) in omega arith
