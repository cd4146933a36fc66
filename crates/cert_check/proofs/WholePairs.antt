-- What the pairs of a state come from: landings of the makespan cost nothing, and the last of them is at an open
-- second.
use Rattle.std.proofs.lemmas.Grind.{common_steps}
use Rattle.std.proofs.Common.{◌≡◌, ◌<◌, ◌≤◌, inl, inr, List, [], ◌∷◌, length, true, refl, sym, ap, ◌∙◌, arith}
use Rattle.std.specs.Prelude.{◌&&◌, nat_lt}
use Rattle.std.proofs.lemmas.Bool.{and_parts}
use Rattle.std.proofs.lemmas.Bool.Decides.{nat_tests}
use Rattle.landing_rules.specs.declared.objective.Objective.TheVariants.{Makespan}
use Rattle.landing_rules.specs.Problem.{Problem}
use Rattle.cps_theory.specs.Separation.{Landing}
use Rattle.cps_theory.specs.LandingTrail.{Landed, cost_of, pair_of, ranks}
use Rattle.cps_theory.specs.Labels.{InPairs, Pair}
use Rattle.cps_theory.specs.Feasible.{next_from}
use Rattle.cps_theory.specs.Patterns.{pattern_node}
use Rattle.landing_joint.specs.RankedProblem.{cost_at, ranked}
use Rattle.certificate.specs.States.{State, rises}
use Rattle.cert_check.specs.States.{node_of, rules_of}
use Rattle.cert_check.specs.Whole.{Attains}
use Rattle.cert_check.specs.WholeSizes.{MakespanPairsLaw, PairsAreOpenLaw}

free : (p : Problem) → p.objective ≡ Makespan → (xs : List Landing) → cost_of (cost_at p) xs ≡ 0
free p e [] = refl
free p e (x ∷ xs) = cc (free p e xs)

pub makespan_pairs : MakespanPairsLaw
makespan_pairs p s e h = go s.pairs h.rising (λ q i. costless q ((h.undominated q).0 i).attained)
  where
    costless : (q : Pair) → Attains p (node_of s) q → q.1 ≡ 0
    costless q a = sym (ap (λ (x : Pair). x.1) a.is) ∙ free p e a.landings

    go : (ps : List Pair) → rises ps ≡ true → ((q : Pair) → InPairs q ps → q.1 ≡ 0) → length ps ≤ 1
    go [] up none = omega arith
    go (a ∷ []) up none = omega arith
    go (a ∷ b ∷ rest) up none =
        let lt : b.1 < a.1 = grind (
          arith,
          nat_tests,
          ((and_parts (nat_lt a.0 b.0) (nat_lt b.1 a.1)
              (and_parts (nat_lt a.0 b.0 && nat_lt b.1 a.1) (rises (b ∷ rest)) up).0).1),
        ) in
        absurd (omega (arith, lt, (none a (inl refl)), (none b (inr (inl refl)))))

module _ (p : Problem) (s : State) (q : Pair) where
  -- the last landing of a prefix of this node
  opened : (xs : List Landing) → 1 ≤ s.stage → Landed (λ r u. (ranked p).is_open r u ≡ true) (next_from (ranked p)) xs
      → pattern_node (rules_of p) (ranks xs) ≡ node_of s
      → pair_of (cost_at p) xs ≡ q → (ranked p).is_open s.last q.0 ≡ true
  opened xs begun landed at is = grind (arith, common_steps)

pub pairs_open : PairsAreOpenLaw
pairs_open p s q h i =
    let a = ((h.undominated q).0 i).attained in opened p s q a.landings h.begun a.landed a.at a.is
