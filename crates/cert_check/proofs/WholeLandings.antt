-- The landings of a best list break none of the conditions.
use Rattle.std.proofs.Common.{rules, ◌≡◌, ℕ, zero, suc, ◌+◌, ◌<◌, ◌≤◌, Bool, true, false, not, ◌&&◌, leb, ltb, Option}
use Rattle.std.proofs.Common.{None, refl, ap, ◌∙◌, arith}
use Rattle.std.specs.Prelude.{bytes_eq, count_by}
use Rattle.std.specs.Option.{option_or}
use Rattle.std.proofs.lemmas.Bool.{le-ltb, lt-ltb, leb-true, eq-eqb}
use Rattle.landing_rules.specs.Problem.{Problem, IsFeasibleList, list_objective, place_in}
use Rattle.cps_theory.specs.RankLists.{IsRank, of_rank}
use Rattle.cps_theory.specs.Feasible.{Feasible}
use Rattle.cps_theory.specs.FirstFound.{first_from, first_pair_from, with_number}
use Rattle.cps_theory.specs.laws.FirstFound.{none_from}
use Rattle.landing_joint.specs.RankedProblem.{ranked, start_at, apart_at}
use Rattle.landing_joint.specs.shared.RankedLists.{list_feasible, each_at}
use Rattle.certificate.specs.declared.certificate.Claim.TheVariants as claim
use Rattle.cert_check.specs.Landings.{Landings, count, flight, seconds, second, is_not_once, are_not_flights, is_shut}
use Rattle.cert_check.specs.Landings.{is_early, is_close_behind, are_too_close, are_out_of_order, is_shifted}
use Rattle.cert_check.specs.Meaning.{AreItsLandings, IsShownOptimal}
use Rattle.cert_check.specs.Verdict.{flights_reason, landing_reason}

-- where nothing is found behind any number, no pair is
pairs_none : (find : ℕ → Option ℕ) (x m : ℕ) → ((y : ℕ) → x ≤ y → y < x + m → find y ≡ None)
    → first_pair_from find x m ≡ None
pairs_none find x zero h = refl
pairs_none find x (suc m) h = ap (λ (o : Option ℕ). option_or (with_number x o) (first_pair_from find (suc x) m))
    (h x (omega arith) (omega arith)) ∙ pairs_none find (suc x) m (λ y le lt. h y (omega arith) (omega arith))

module _ (p : Problem) (ls : Landings) where
  no_rank : (test : ℕ → Bool) → ((r : ℕ) → IsRank (count p) r → test r ≡ false) → first_from test 1 (count p) ≡ None
  no_rank test h = search (rules, none_from)

  no_two : (test : ℕ → ℕ → Bool) → ((r q : ℕ) → IsRank (count p) r → IsRank (count p) q → test r q ≡ false)
      → first_pair_from (λ r. first_from (test r) 1 (count p)) 1 (count p) ≡ None
  no_two test h = search (rules, pairs_none, no_rank)

  -- each waiting flight lands once
  are_flights : (v : ℕ) → AreItsLandings p ls → are_not_flights p (claim.Optimal v) ls ≡ false
  are_flights v h =
      let once = no_rank (is_not_once p ls)
      (λ r q. ap not (eq-eqb (count_by (λ l. bytes_eq l.0 (flight p r).callsign) ls) 1 (h.each_once r q.0 q.1))) in
      search rules

  module _ (f : IsFeasibleList p (seconds p ls)) where
    abbrev map_feasible : Feasible (ranked p) (of_rank 0 (seconds p ls))
    map_feasible = list_feasible p (seconds p ls) f

    is_open : (r : ℕ) → IsRank (count p) r → is_shut p ls r ≡ false
    is_open r q = ap not (map_feasible.opened r q)

    is_late : (r : ℕ) → IsRank (count p) r → is_early p ls r ≡ false
    is_late r q = le-ltb (second p ls r) (start_at p r) (map_feasible.started r q)

    not_close : (r q : ℕ) → IsRank (count p) r → IsRank (count p) q → (r ≡ q → ⊥) → is_close_behind p ls r q ≡ false
    not_close r q ir iq ne = go (leb (second p ls r) (second p ls q)) refl
      where
        go : (b : Bool) → leb (second p ls r) (second p ls q) ≡ b
            → b && ltb (second p ls q) (second p ls r + apart_at p r q) ≡ false
        go false e = refl
        go true e = le-ltb (second p ls q) (second p ls r + apart_at p r q)
            (map_feasible.separated r q ir iq ne (leb-true (second p ls r) (second p ls q) e))

    are_apart : (r q : ℕ) → IsRank (count p) r → IsRank (count p) q → are_too_close p ls r q ≡ false
    are_apart r q ir iq = search (rules, not_close)

    are_ordered : (r q : ℕ) → IsRank (count p) r → IsRank (count p) q → are_out_of_order p ls r q ≡ false
    are_ordered r q ir iq = go ((ranked p).rules.before r q) refl
      where
        go : (b : Bool) → (ranked p).rules.before r q ≡ b → b && not (ltb (second p ls r) (second p ls q)) ≡ false
        go false e = refl
        go true e = ap not (lt-ltb (second p ls r) (second p ls q) (map_feasible.in_order r q ir iq e))

    near : (r : ℕ) → IsRank (count p) r → is_shifted p ls r ≡ false
    near r q =
        let k = each_at p (seconds p ls) (λ r w a. (r ≤ place_in (seconds p ls) a + p.k)
        × (place_in (seconds p ls) a + w.passed ≤ r + p.k)) f.shift r q in search rules

    pub keeps_rules : (v : ℕ) → list_objective p (seconds p ls) ≡ v → landing_reason p v ls ≡ None
    unfolding landing_reason
    keeps_rules v value = simp (no_rank, is_open, is_late, no_two, are_apart, are_ordered, near, eq-eqb)

  pub no_reason : (v : ℕ) → IsShownOptimal p ls v → (flights_reason p (claim.Optimal v) ls ≡ None)
      × (landing_reason p v ls ≡ None)
  no_reason v h = search (rules, are_flights, keeps_rules)
