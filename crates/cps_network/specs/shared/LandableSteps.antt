-- One landing back: a landable window of the next stage extends one of this.
use Rattle.std.proofs.Common.{[], ◌≡◌, ℕ, suc, ◌+◌, ◌*◌, List, ◌∷◌, length, reverse, ap, subst, arith}
use Rattle.std.specs.Prelude.{ℤ}
use Rattle.cps_nodes.specs.Ranks.{window_of}
use Rattle.cps_theory.specs.Separation.{Landing}
use Rattle.cps_theory.specs.LandingTrail.{pair_of, ranks}
use Rattle.cps_theory.specs.LegalPrefix.{Legal}
use Rattle.cps_theory.specs.ProblemNetwork.{LandedIn}
use Rattle.landing_joint.specs.RankedProblem.{ranked, cost_at}
use Rattle.landing_rules.specs.Problem.{Problem}
use Rattle.cps_network.specs.Landable.{IsLandable, HoldsLandable, HasEachLandable}
use Rattle.cps_network.specs.Nodes.{WindowNode, node_of, IsWindowNetwork}
use Rattle.cps_network.specs.Permits.{IsSuccessor, IsNextOf}

module _ (p : Problem) (net : IsWindowNetwork p) where
  landing_back : (stage : ℕ) (v : List ℤ) (xs : List Landing) → Legal (ranked p).rules (ranks xs)
      → LandedIn (ranked p) xs → node_of p.k (ranks xs) ≡ (suc stage, v)
      → (x : List ℤ) × IsLandable p stage x × IsSuccessor p stage x v
  landing_back stage v [] legal landed at = absurd (never (ap (λ (n : WindowNode). n.0) at))
    where
      never : 0 ≡ suc stage → ⊥
      never e = omega arith
  landing_back stage v (y ∷ xs) legal landed at =
      let s = net.shrinks y.0 (ranks xs) legal in
      let long : length (ranks xs) ≡ stage = less (ap (λ (n : WindowNode). n.0) at) in
      let here : node_of p.k (ranks xs) ≡ (stage, window_of (2 * p.k + 1) (reverse (ranks xs))) = cc in (
        window_of (2 * p.k + 1) (reverse (ranks xs)),
        (pair_of (cost_at p) xs, grind arith),
        grind arith,
      )
    where
      less : {a b : ℕ} → suc a ≡ suc b → a ≡ b
      less {a} {b} e = omega arith

  pub landable_source : (stage : ℕ) (v : List ℤ) → IsLandable p (suc stage) v → (x : List ℤ)
      × IsLandable p stage x × IsSuccessor p stage x v
  landable_source stage v l = landing_back stage v l.1.landings l.1.legal l.1.landed l.1.at

  -- where the stage before has the landable windows, each landable window of the next stage is there
  pub has_next : (before after : ℕ × List (List ℤ)) → after.0 ≡ before.0 + 1 → HoldsLandable p before
      → IsNextOf p before.0 before.1 after.1 → HasEachLandable p after
  has_next before after e holds next xs l =
      let f : after.0 ≡ suc before.0 = omega arith in
      let s = landable_source before.0 xs (subst (λ (q : ℕ). IsLandable p q xs) f l) in
      (next xs).1 (s.0, (holds s.0).1 s.1, s.2)
