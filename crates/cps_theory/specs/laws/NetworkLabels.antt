-- The pairs of a node from those kept of its sources: a successor of an attained pair is attained, and each attained
-- pair has a source.
use Rattle.std.proofs.Common.{◌≡◌, ℕ, ◌+◌, ◌≤◌, List, [], ◌∷◌, Option, Some, arith, refl, sym, ap, subst, ◌∙◌}
use Rattle.std.proofs.Common.{◌⊎◌, inl, inr}
use Rattle.cps_theory.specs.Separation.{Landing}
use Rattle.cps_theory.specs.Retiming.{IsFirstOpen, NeverEarlier}
use Rattle.cps_theory.specs.LandingTrail.{Landed, cost_of, pair_of, ranks}
use Rattle.cps_theory.specs.Labels.{NeverCheaper, NoWorse, Pair, next_pair}
use Rattle.cps_theory.specs.Network.{Attained, Kept, Network, Undominated}
use Rattle.cps_theory.specs.laws.LabelDominance.{next_covers, next_lands, no_worse_trans, last_ranks}

-- where no kept pair is worse than another, the kept pairs are the undominated ones
pub kept_undominated : (Attains Keeps : Pair → Type 0) → Kept Attains Keeps
    → ((p q : Pair) → Keeps p → Keeps q → NoWorse p q → p ≡ q) → (p : Pair) → Keeps p → Undominated Attains p
kept_undominated Attains Keeps k anti p kept = record {
  attained = k.attained p kept;
  best = λ q a le.
      let c = k.covers q a in
      let e = anti c.0 p c.1 kept (no_worse_trans c.0 q p c.2 le) in grind arith;
}

pub undominated_kept : (Attains Keeps : Pair → Type 0) → Kept Attains Keeps → (p : Pair) → Undominated Attains p
    → Keeps p
undominated_kept Attains Keeps k p u = let c = k.covers p u.attained in rw (u.best c.0 (k.attained c.0 c.1) c.2) at c.1

module _ (W : Type 0) (Open : ℕ → ℕ → Type 0) (first : ℕ → ℕ → Option ℕ) (after : ℕ → ℕ → ℕ
    → ℕ) (cost : ℕ → ℕ → ℕ) (Legal : List ℕ → Type 0) (node : List ℕ → W) (Permitted : W → ℕ
    → Type 0) (push : W → ℕ → W) (newest : W → ℕ) (opens : IsFirstOpen Open first) (later : NeverEarlier after)
    (dearer : NeverCheaper cost) (net : Network W Legal node Permitted push newest) where
  abbrev Attains : W → Pair → Type 0
  Attains w p = Attained Open after cost Legal node w p

  -- a successor of an attained pair is attained
  pub attained_next : (w : W) (p : Pair) (r : ℕ) (q : Pair) → Attains w p → Permitted w r
      → next_pair first after cost (newest w) p r ≡ Some q → Attains (push w r) q
  attained_next w p r q a permitted e =
      let xs = a.landings in
      let l = ap newest (sym a.at) ∙ net.newest_is (ranks xs) a.legal in
      let n = next_lands _ _ _ _ opens later dearer xs r q a.landed (cc) in
      record {
        landings = (r, q.0) ∷ xs;
        legal = net.grows r (ranks xs) a.legal (subst (λ x. Permitted x r) (sym a.at) permitted);
        landed = n.0;
        at = net.pushes r (ranks xs) a.legal ∙ ap (λ x. push x r) a.at;
        is = n.1;
      }

  -- an attained pair is the start's, or comes from one of a source, which has a successor no worse
  pub attained_source : (w' : W) (q : Pair) → Attains w' q → ((node [] ≡ w') × ((0, 0) ≡ q))
      ⊎ ((w : W) × (r : ℕ) × (p : Pair) × Attains w p × Permitted w r × (push w r ≡ w') × Open r q.0
      × (after (newest w) p.0 r ≤ q.0) × (p.1 + cost r q.0 ≡ q.1))
  attained_source w' q a = go _ a.legal a.landed a.at a.is
    where
      go : (xs : List Landing) → Legal (ranks xs) → Landed Open after xs → node (ranks xs) ≡ w'
          → pair_of cost xs ≡ q → ((node [] ≡ w') × ((0, 0) ≡ q))
          ⊎ ((w : W) × (r : ℕ) × (p : Pair) × Attains w p × Permitted w r × (push w r ≡ w')
          × Open r q.0 × (after (newest w) p.0 r ≤ q.0) × (p.1 + cost r q.0 ≡ q.1))
      go [] legal landed at is = inl (at, is)
      go (x ∷ xs) legal landed at is =
          let s = net.shrinks x.0 (ranks xs) legal in
          let e = ap (λ p. p.0) is in
          inr (
            node (ranks xs),
            x.0,
            pair_of cost xs,
            record { landings = xs; legal = s.0; landed = landed.2; at = refl; is = refl },
            s.1,
            sym (net.pushes x.0 (ranks xs) s.0) ∙ at,
            rw e at landed.0,
            rw (net.newest_is (ranks xs) s.0 ∙ last_ranks xs) (omega arith),
            ap (λ t. cost_of cost xs + cost x.0 t) (sym e) ∙ ap (λ p. p.1) is,
          )

  -- a node's pairs, from those kept of its sources: each is a successor of a kept one, and each such successor has one
  -- no worse
  pub kept_next : (Keeps : W → Pair → Type 0) (w' : W) (New : Pair → Type 0) → (node [] ≡ w' → ⊥)
      → ((w : W) (r : ℕ) → Permitted w r → push w r ≡ w' → Kept (Attains w) (Keeps w))
      → ((q : Pair) → New q → (w : W) × (r : ℕ) × (p : Pair) × Permitted w r × (push w r ≡ w')
      × Keeps w p × (next_pair first after cost (newest w) p r ≡ Some q))
      → ((w : W) (r : ℕ) (p q : Pair) → Permitted w r → push w r ≡ w' → Keeps w p
      → next_pair first after cost (newest w) p r ≡ Some q → (o : Pair) × New o × NoWorse o q)
      → Kept (Attains w') New
  kept_next Keeps w' New not_start sources made enough = record {
    attained = λ q n.
        let m = made q n in
        subst (λ x. Attains x q) m.4 (attained_next m.0 m.2 m.1 q ((sources m.0 m.1 m.3 m.4).attained m.2 m.5) m.3 m.6);
    covers = λ q a. elim (attained_source w' q a) [
      | inl z ↦ absurd (not_start z.0)
      | inr z ↦
          let k = (sources z.0 z.1 z.4 z.5).covers z.2 z.3 in
          let c = next_covers Open first after cost opens later dearer (newest z.0) k.0 z.2 z.1 q.0 k.2 z.6 z.7 in
          let n = enough z.0 z.1 k.0 c.0 z.4 z.5 k.1 c.1 in grind arith
    ];
  }
