-- What the tests of the landings and of the states say where none of them finds anything.
use Rattle.std.proofs.lemmas.Grind.{common_steps}
use Rattle.std.proofs.Common.{rules, ◌≡◌, ℕ, zero, suc, ◌+◌, ◌<◌, ◌≤◌, inl, inr, Bool, true, false, not, ◌&&◌, ltb}
use Rattle.std.proofs.Common.{length, Option, None, ap, ◌∙◌, arith}
use Rattle.std.specs.Prelude.{◌==◌, bytes_eq, count_by, option_map, is_some}
use Rattle.std.proofs.lemmas.List.{length-map}
use Rattle.std.proofs.lemmas.Bool.{cases_lt, cases_eq, ltb-false, ltb-true, eqb-true, or_parts, not-false}
use Rattle.landing_rules.specs.Problem.{Problem}
use Rattle.cps_theory.specs.RankLists.{IsRank, of_rank}
use Rattle.cps_theory.specs.Feasible.{Feasible, SoundProblem}
use Rattle.cps_theory.specs.FirstFound.{first_from, first_pair_from}
use Rattle.cps_theory.specs.laws.FirstFound.{from_none, or_none, with_number_none}
use Rattle.landing_joint.specs.RankedProblem.{ranked}
use Rattle.landing_joint.specs.shared.RankedLists.{place_is, sound_ranked}
use Rattle.cps_problem.specs.WellFormed.{IsWellFormed}
use Rattle.certificate.specs.declared.certificate.Claim.TheVariants.{Optimal}
use Rattle.cert_check.specs.Landings.{Landings, count, flight, second_of, seconds, second, is_not_once, are_not_flights}
use Rattle.cert_check.specs.Landings.{is_shut, is_early, is_close_behind, are_too_close, are_out_of_order}
use Rattle.cert_check.specs.Landings.{first_too_close, first_out_of_order, place, is_shifted}
use Rattle.cert_check.specs.Meaning.{AreItsLandings}

-- ---- tests

and_false : (a b : Bool) → a && b ≡ false → a ≡ true → b ≡ false
and_false a b e p = cc

pub map_none : {A B : Type 0} (f : A → B) (o : Option A) → option_map f o ≡ None → o ≡ None
map_none f o e = grind (arith, common_steps)

none_left : {A : Type 0} (o : Option A) → is_some o ≡ false → o ≡ None
none_left o e = grind (arith, common_steps)

pair_none : (find : ℕ → Option ℕ) (x m : ℕ) → first_pair_from find x m ≡ None → (y : ℕ) → x ≤ y
    → y < x + m → find y ≡ None
pair_none find x zero e y le lt = absurd (omega arith)
pair_none find x (suc m) e y le lt =
    let o = or_none _ _ e in
    elim (cases_eq y x) [
      | inl s ↦ ap find s ∙ with_number_none x _ o.0
      | inr ne ↦ pair_none find _ m o.1 y (omega arith) (omega arith)
    ]

module _ (p : Problem) (ls : Landings) where
  at_rank : (test : ℕ → Bool) → first_from test 1 (count p) ≡ None → (r : ℕ) → IsRank (count p) r → test r ≡ false
  at_rank test e r q = from_none test 1 (count p) e r q.0 (omega arith)

  at_pair : (test : ℕ → ℕ → Bool) → first_pair_from (λ r. first_from (test r) 1 (count p)) 1 (count p) ≡ None
      → (r q : ℕ) → IsRank (count p) r → IsRank (count p) q → test r q ≡ false
  at_pair test e r q ir iq = at_rank (test r) (pair_none (λ r. first_from (test r) 1 (count p)) 1 (count p) e r ir.0
      (omega arith)) q iq

  -- the landings are the flights'
  pub are_its_landings : (v : ℕ) → are_not_flights p (Optimal v) ls ≡ false → AreItsLandings p ls
  are_its_landings v e =
      let o = or_parts (not (length ls == count p)) (is_some (first_from (is_not_once p ls) 1 (count p))) e in
      record {
        as_many = eqb-true (length ls) (count p) (not-false (length ls == count p) o.0);
        each_once = λ r one most.
            let out = at_rank (is_not_once p ls) (none_left (first_from (is_not_once p ls) 1 (count p)) o.1) r
            (one, most) in
            eqb-true (count_by (λ l. bytes_eq l.0 (flight p r).callsign) ls) 1
            (not-false (count_by (λ l. bytes_eq l.0 (flight p r).callsign) ls == 1) out);
      }

  not_close : (f g : ℕ) → second p ls f ≤ second p ls g → is_close_behind p ls f g ≡ false
      → second p ls f + (ranked p).apart f g ≤ second p ls g
  not_close f g le e = search rules

  not_both : (f g : ℕ) → f < g → are_too_close p ls f g ≡ false → (is_close_behind p ls f g ≡ false)
      × (is_close_behind p ls g f ≡ false)
  not_both f g lt e = search rules

  -- and keep every rule
  pub are_feasible : IsWellFormed p → first_from (is_shut p ls) 1 (count p) ≡ None
      → first_from (is_early p ls) 1 (count p) ≡ None → first_pair_from (first_too_close p ls) 1 (count p) ≡ None
      → first_pair_from (first_out_of_order p ls) 1 (count p) ≡ None → first_from (is_shifted p ls) 1 (count p) ≡ None
      → Feasible (ranked p) (of_rank 0 (seconds p ls))
  are_feasible h shut early close order shifted = record {
    opened = λ r q. not-false _ (at_rank (is_shut p ls) shut r q);
    started = λ r q. ltb-false (second p ls r) ((ranked p).start r) (at_rank (is_early p ls) early r q);
    separated = λ f g qf qg ne le. elim (cases_lt f g) [
      | inl lt ↦ not_close f g le (not_both f g lt (at_pair (are_too_close p ls) close f g qf qg)).0
      | inr ge ↦ elim (cases_eq f g) [
        | inl same ↦ absurd (ne same)
        | inr other ↦ not_close f g le (not_both g f (omega arith) (at_pair (are_too_close p ls) close g f qg qf)).1
      ]
    ];
    in_order = λ f g qf qg b. ltb-true (second p ls f) (second p ls g)
        (not-false (ltb (second p ls f) (second p ls g))
        (and_false ((ranked p).rules.before f g) (not (ltb (second p ls f) (second p ls g)))
        (at_pair (are_out_of_order p ls) order f g qf qg) b));
    not_early = λ r q.
        let o = or_parts (ltb (place p ls r + p.k) r) (ltb (r + p.k) (place p ls r + (flight p r).passed))
        (at_rank (is_shifted p ls) shifted r q) in
        let a = ltb-false (place p ls r + p.k) r o.0 in
        let is = place_is p (seconds p ls) (length-map p.flights (λ f. second_of ls f.callsign)) r in
        omega arith;
    not_late = λ r q.
        let o = or_parts (ltb (place p ls r + p.k) r) (ltb (r + p.k) (place p ls r + (flight p r).passed))
        (at_rank (is_shifted p ls) shifted r q) in
        let a = ltb-false (r + p.k) (place p ls r + (flight p r).passed) o.1 in
        let is = place_is p (seconds p ls) (length-map p.flights (λ f. second_of ls f.callsign)) r in
        omega arith;
  }

-- ---- the problem

module _ (p : Problem) where
  pub passed_low : IsWellFormed p → (r : ℕ) → IsRank (count p) r → (flight p r).passed ≤ p.k
  passed_low h given q = grind (arith, common_steps)

  pub sound_problem : IsWellFormed p → SoundProblem (ranked p)
  sound_problem h = search (rules, sound_ranked)
