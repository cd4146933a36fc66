-- One landing more and one landing back, with the pairs that windows attain.
use Rattle.std.proofs.Common.{◌≡◌, ℕ, zero, suc, ◌<◌, ◌≤◌, inl, inr, List, ◌∷◌, length, Some, true, sym, ap, subst, ◌∙◌}
use Rattle.std.proofs.Common.{[], arith}
use Rattle.std.specs.Prelude.{ℤ}
use Rattle.std.proofs.lemmas.List.{get_or_default}
use Rattle.cps_nodes.specs.Windows.{shifted}
use Rattle.cps_nodes.specs.Laws.{offset_after}
use Rattle.cps_theory.specs.Labels.{InPairs, NoWorse, Pair}
use Rattle.cps_theory.specs.LegalPrefix.{Legal}
use Rattle.cps_theory.specs.Feasible.{next_from}
use Rattle.cps_theory.specs.Network.{Undominated}
use Rattle.cps_theory.specs.laws.LabelDominance.{next_covers}
use Rattle.cps_theory.specs.laws.LeastObjective.{next_later}
use Rattle.cps_theory.specs.laws.NetworkLabels.{attained_next, attained_source}
use Rattle.landing_joint.specs.RankedProblem.{ranked, first_at, cost_at}
use Rattle.landing_joint.specs.shared.FirstBestLists.{costs_rise}
use Rattle.landing_joint.specs.shared.FirstOpen.{is_first_open}
use Rattle.landing_rules.specs.Problem.{Problem}
use Rattle.cps_network.specs.Landable.{Attains, IsLandable}
use Rattle.cps_network.specs.Lists.{node_at}
use Rattle.cps_network.specs.Nodes.{WindowNode, node_of, permits, land, latest, IsWindowNetwork}
use Rattle.cps_network.specs.Pairs.{HoldsCosts, GivesPair, list_at, pair_at, successor}

-- ---- the pair behind a pair

module _ (p : Problem) (net : IsWindowNetwork p) where
  pub next_attained : (w : WindowNode) (a : Pair) (r : ℕ) (b : Pair) → Attains p w.0 w.1 a → permits p w r
      → successor p (latest w) a r ≡ Some b → Attains p (suc w.0) (shifted w.1 (offset_after w.0 r)) b
  next_attained w a r b at may e =
      attained_next WindowNode (λ s u. (ranked p).is_open s u ≡ true) (first_at p) (next_from (ranked p))
      (cost_at p) (Legal (ranked p).rules) (node_of p.k) (permits p) land latest (is_first_open p)
      (next_later (ranked p)) (costs_rise p) net
      w a r b at may e

-- ---- the pair before a pair

pub in_at : (q : Pair) (xs : List Pair) → InPairs q xs → (i : ℕ) × (i < length xs) × (pair_at xs i ≡ q)
in_at q [] i = absurd i
in_at q (x ∷ xs) (inl e) = (0, omega arith, sym e)
in_at q (x ∷ xs) (inr i) = let a = in_at q xs i in (suc a.0, (let b = a.1 in omega arith), a.2)

pub at_in : (xs : List Pair) (i : ℕ) (q : Pair) → i < length xs → pair_at xs i ≡ q → InPairs q xs
at_in [] i q lt e = absurd (omega arith)
at_in (x ∷ xs) zero q lt e = inl (sym e)
at_in (x ∷ xs) (suc i) q lt e = inr (at_in xs i q (omega arith) e)

module _ (p : Problem) (net : IsWindowNetwork p) (before : ℕ × List (List ℤ)) (lists : List (List Pair))
    (held : HoldsCosts p before lists) where
  -- an undominated pair of a window of the next stage is the successor of a listed pair
  pub listed_given : (v : List ℤ) (q : Pair) → Undominated (Attains p (suc before.0) v) q
      → (j : ℕ) × (index : ℕ) × GivesPair p before lists v q j index
  listed_given v q u = elim (attained_source WindowNode (λ s t. (ranked p).is_open s t ≡ true) (first_at p)
      (next_from (ranked p)) (cost_at p) (Legal (ranked p).rules) (node_of p.k) (permits p) land latest
      (is_first_open p) (next_later (ranked p)) (costs_rise p) net (suc before.0, v) q u.attained) [
        | inl z ↦ absurd (never (ap (λ (n : WindowNode). n.0) z.0))
        | inr z ↦ (
            let same : z.0.0 ≡ before.0 = less (ap (λ (n : WindowNode). n.0) z.5) in
            let l : IsLandable p before.0 z.0.1 = (z.2, subst (λ (s : ℕ). Attains p s z.0.1 z.2) same z.3) in
            let has = (held.landable z.0.1).1 l in
            let it : node_at before.1 has.0 ≡ z.0.1 = get_or_default before.1 has.0 [] z.0.1 has.1 ∙ has.2 in
            let at : z.0 ≡ (before.0, node_at before.1 has.0) =
            ap (λ (s : ℕ). (s, z.0.1)) same ∙ ap (λ (y : List ℤ). (before.0, y)) (sym it) in
            let a : Attains p before.0 (node_at before.1 has.0) z.2 =
            subst (λ (n : WindowNode). Attains p n.0 n.1 z.2) at z.3 in
            let may : permits p (before.0, node_at before.1 has.0) z.1 =
            subst (λ (n : WindowNode). permits p n z.1) at z.4 in
            let next : v ≡ shifted (node_at before.1 has.0) (offset_after before.0 z.1) =
            sym (ap (λ (n : WindowNode). n.1) z.5) ∙ ap (λ (n : WindowNode). (land n z.1).1) at in
            let late : next_from (ranked p) (latest (before.0, node_at before.1 has.0)) z.2.0 z.1 ≤ q.0 =
            subst (λ (n : WindowNode). next_from (ranked p) (latest n) z.2.0 z.1 ≤ q.0) at z.7 in
            let o = (held.costs.pairs has.0 has.1).covers z.2 a in
            let b : Attains p before.0 (node_at before.1 has.0) o.0 =
            (((held.costs.pairs has.0 has.1).undominated o.0).0 o.1).attained in
            let c = next_covers (λ s t. (ranked p).is_open s t ≡ true) (first_at p) (next_from (ranked p))
            (cost_at p) (is_first_open p) (next_later (ranked p)) (costs_rise p)
            (latest (before.0, node_at before.1 has.0)) o.0 z.2 z.1 q.0 o.2 z.6 late in
            let d : Attains p (suc before.0) v c.0 = subst (λ (y : List ℤ). Attains p (suc before.0) y c.0)
            (sym next) (next_attained p net (before.0, node_at before.1 has.0) o.0 z.1 c.0 b may c.1) in
            let nw : NoWorse c.0 q = (c.2.0, (let m = c.2.1 in omega (arith, m, z.8))) in
            let e : c.0 ≡ q = u.best c.0 d nw in
            let i = in_at o.0 (list_at lists has.0) o.1 in (
              has.0,
              i.0,
              record {
                within = has.1;
                listed = i.1;
                rank = z.1;
                permitted = may;
                next = next;
                lands = cc;
              },
            )
            )
      ]
    where
      never : 0 ≡ suc before.0 → ⊥
      never e = omega arith

      less : {a b : ℕ} → suc a ≡ suc b → a ≡ b
      less {a} {b} e = omega arith
