-- One landing more and one landing back in the network of windows.
use Rattle.std.proofs.Common.{◌≡◌, ℕ, suc, ◌+◌, ◌*◌, ◌≤◌, List, [], ◌∷◌, length, reverse, Some, refl, sym, ap, subst}
use Rattle.std.proofs.Common.{◌∙◌, arith}
use Rattle.std.specs.Prelude.{ℤ, true}
use Rattle.cps_nodes.specs.Windows.{shifted}
use Rattle.cps_nodes.specs.Ranks.{window_of}
use Rattle.cps_nodes.specs.Laws.{offset_after}
use Rattle.cps_theory.specs.Separation.{Landing}
use Rattle.cps_theory.specs.LandingTrail.{cost_of, latest_landing, ranks}
use Rattle.cps_theory.specs.Labels.{Pair}
use Rattle.cps_theory.specs.LegalPrefix.{Legal}
use Rattle.cps_theory.specs.ProblemNetwork.{LandedIn}
use Rattle.cps_theory.specs.Feasible.{next_from}
use Rattle.cps_theory.specs.laws.LabelDominance.{last_ranks}
use Rattle.landing_joint.specs.RankedProblem.{ranked, cost_at, landing_after}
use Rattle.landing_joint.specs.shared.FirstOpen.{is_first_open}
use Rattle.landing_rules.specs.Problem.{Problem}
use Rattle.cps_network.specs.Landable.{IsLandable}
use Rattle.cps_network.specs.Nodes.{WindowNode, node_of, permits, latest, IsWindowNetwork}
use Rattle.cps_network.specs.Permits.{IsPermitted}
use Rattle.makespan_labels.specs.Labels.{CanLandAt}

pub can_land : (p : Problem) (stage : ℕ) (xs : List ℤ) → (l : IsLandable p stage xs) → CanLandAt p stage xs l.0.0
can_land p stage xs l = (l.0.1, l.1)

pub is_landable : (p : Problem) (stage : ℕ) (xs : List ℤ) (t : ℕ) → CanLandAt p stage xs t → IsLandable p stage xs
is_landable p stage xs t l = ((t, l.0), l.1)

-- a flight lands behind a prefix of this window
pub record ComesFrom (p : Problem) (stage : ℕ) (v : List ℤ) (t : ℕ) : Type 0 where
  pub source : List ℤ
  pub rank : ℕ
  pub second : ℕ
  pub before : CanLandAt p stage source second
  pub permitted : IsPermitted p stage source rank
  pub next : v ≡ shifted source (offset_after stage rank)
  pub is_open : (ranked p).is_open rank t ≡ true
  pub apart : next_from (ranked p) (latest (stage, source)) second rank ≤ t

module _ (p : Problem) (net : IsWindowNetwork p) where
  pub lands_next : (stage : ℕ) (x : List ℤ) (b r t : ℕ) → CanLandAt p stage x b → IsPermitted p stage x r
      → landing_after p (latest (stage, x)) b r ≡ Some t → CanLandAt p (suc stage) (shifted x (offset_after stage r)) t
  lands_next stage x b r t (cost, a) may e =
      let here : permits p (node_of p.k (ranks a.landings)) r =
      subst (λ (n : WindowNode). permits p n r) (sym a.at) may in
      let is : (latest_landing a.landings).1 ≡ b = ap (λ (q : Pair). q.0) a.is in
      let lead : latest (stage, x) ≡ (latest_landing a.landings).0 =
      ap latest (sym a.at) ∙ net.newest_is (ranks a.landings) a.legal ∙ last_ranks a.landings in
      let found = (is_first_open p).found r (next_from (ranked p) (latest (stage, x)) b r) t e in
      let allowed : next_from (ranked p) (latest_landing a.landings).0 (latest_landing a.landings).1 r ≤ t =
      subst (λ (l : ℕ). next_from (ranked p) l (latest_landing a.landings).1 r ≤ t) lead
      (subst (λ (s : ℕ). next_from (ranked p) (latest (stage, x)) s r ≤ t) (sym is) found.1) in (
        cost_of (cost_at p) ((r, t) ∷ a.landings),
        record {
          landings = (r, t) ∷ a.landings;
          legal = net.grows r (ranks a.landings) a.legal here;
          landed = (found.0, allowed, a.landed);
          at = grind (arith, net.pushes);
          is = refl;
        },
      )

  landing_back : (stage : ℕ) (v : List ℤ) (t : ℕ) (xs : List Landing) → Legal (ranked p).rules (ranks xs)
      → LandedIn (ranked p) xs → node_of p.k (ranks xs) ≡ (suc stage, v) → (latest_landing xs).1 ≡ t
      → ComesFrom p stage v t
  landing_back stage v t [] legal landed at is = absurd (never (ap (λ (n : WindowNode). n.0) at))
    where
      never : 0 ≡ suc stage → ⊥
      never e = omega arith
  landing_back stage v t (y ∷ xs) legal landed at is =
      let s = net.shrinks y.0 (ranks xs) legal in
      let long : length (ranks xs) ≡ stage = less (ap (λ (n : WindowNode). n.0) at) in
      let x : List ℤ = window_of (2 * p.k + 1) (reverse (ranks xs)) in
      let here : node_of p.k (ranks xs) ≡ (stage, window_of (2 * p.k + 1) (reverse (ranks xs))) =
      ap (λ (q : ℕ). (q, window_of (2 * p.k + 1) (reverse (ranks xs)))) long in
      let lead : latest (stage, window_of (2 * p.k + 1) (reverse (ranks xs))) ≡ (latest_landing xs).0 =
      ap latest (sym here) ∙ net.newest_is (ranks xs) s.0 ∙ last_ranks xs in
      record {
        source = window_of (2 * p.k + 1) (reverse (ranks xs));
        rank = y.0;
        second = (latest_landing xs).1;
        before = (
          cost_of (cost_at p) xs,
          record { landings = xs; legal = s.0; landed = landed.2; at = here; is = refl },
        );
        permitted = subst (λ (n : WindowNode). permits p n y.0) here s.1;
        next = grind (arith, net.pushes);
        is_open = grind arith;
        apart = grind arith;
      }
    where
      less : {a b : ℕ} → suc a ≡ suc b → a ≡ b
      less {a} {b} e = omega arith

  pub comes_from : (stage : ℕ) (v : List ℤ) (t : ℕ) → CanLandAt p (suc stage) v t → ComesFrom p stage v t
  comes_from stage v t (cost, a) = grind (arith, landing_back, a.at)
