-- The completing pairs of a node from those of its successors; undominated ones lose nothing.
use Rattle.std.proofs.Common.{◌≡◌, ℕ, ◌+◌, ◌≤◌, List, [], ◌∷◌, Option, Some, arith, sym, ap, subst, ◌∙◌}
use Rattle.std.proofs.Common.{le_refl, le_trans}
use Rattle.cps_theory.specs.Separation.{Landing}
use Rattle.cps_theory.specs.Retiming.{IsFirstOpen, NeverEarlier}
use Rattle.cps_theory.specs.LandingTrail.{Landed, cost_of, latest_landing, ranks}
use Rattle.cps_theory.specs.Labels.{NeverCheaper, Pair}
use Rattle.cps_theory.specs.Network.{Network}
use Rattle.cps_theory.specs.CompletingPairs.{AllLow, Completes, Follows, KeptCompleting, NoEarlierNoDearer, Reached}
use Rattle.cps_theory.specs.CompletingPairs.{UndominatedCompleting, onto}
use Rattle.cps_theory.specs.laws.LabelDominance.{last_ranks}

pub no_earlier_no_dearer_trans : (p q r : Pair) → NoEarlierNoDearer p q → NoEarlierNoDearer q r → NoEarlierNoDearer p r
no_earlier_no_dearer_trans p q r h k = omega arith

-- where no kept pair is worse than another, the kept pairs are the undominated ones
pub completing_undominated : (Completing Keeps : Pair → Type 0) → KeptCompleting Completing Keeps
    → ((p q : Pair) → Keeps p → Keeps q → NoEarlierNoDearer p q → p ≡ q) → (p : Pair) → Keeps p
    → UndominatedCompleting Completing p
completing_undominated Completing Keeps k anti p kept = record {
  completes = k.completes p kept;
  best = λ q a le.
      let c = k.covers q a in
      let e = anti c.0 p c.1 kept (no_earlier_no_dearer_trans c.0 q p c.2 le) in grind arith;
}

pub undominated_completing : (Completing Keeps : Pair → Type 0) → KeptCompleting Completing Keeps
    → (p : Pair) → UndominatedCompleting Completing p → Keeps p
undominated_completing Completing Keeps k p u = grind arith

module _ (W : Type 0) (Open : ℕ → ℕ → Type 0) (first : ℕ → ℕ → Option ℕ) (after : ℕ → ℕ → ℕ
    → ℕ) (cost : ℕ → ℕ → ℕ) (Legal : List ℕ → Type 0) (node : List ℕ → W) (Permitted : W → ℕ
    → Type 0) (push : W → ℕ → W) (newest : W → ℕ) (opens : IsFirstOpen Open first) (later : NeverEarlier after)
    (dearer : NeverCheaper cost) (net : Network W Legal node Permitted push newest) (Final : W
    → Type 0) (closed : (rs : List ℕ) (r : ℕ) → Legal rs → Final (node rs) → Permitted (node rs) r
    → ⊥) (Low : ℕ → Type 0) (lower : (t u : ℕ) → t ≤ u → Low u → Low t) where
  abbrev Follow : W → ℕ → List Landing → Type 0
  Follow w b ys = Follows W Open after Permitted push newest Final Low w b ys

  abbrev Complete : W → Pair → Type 0
  Complete w q = Completes W Open after cost Legal node Permitted push newest Final Low w q

  -- what follows a later second follows an earlier one
  pub follows_mono : (w : W) (a b : ℕ) (ys : List Landing) → a ≤ b → Follow w b ys → Follow w a ys
  follows_mono w a b [] le f = f
  follows_mono w a b (y ∷ ys) le f = (f.0, f.1, le_trans (later.mono (newest w) a b y.0 le) f.2, f.3, f.4)

  pub newest_last : (xs : List Landing) → Legal (ranks xs) → newest (node (ranks xs)) ≡ (latest_landing xs).0
  newest_last xs l = net.newest_is (ranks xs) l ∙ last_ranks xs

  newest_push : (w : W) (b r : ℕ) → Reached Open after Legal node w b → Permitted w r → newest (push w r) ≡ r
  newest_push w b r x p = grind arith

  pub reached_push : (w : W) (b r t : ℕ) → Reached Open after Legal node w b → Permitted w r
      → Open r t → after (newest w) b r ≤ t → Reached Open after Legal node (push w r) t
  reached_push w b r t x p o le =
      let rs = ranks x.landings in
      record {
        landings = (r, t) ∷ x.landings;
        legal = net.grows r rs x.legal (subst (λ v. Permitted v r) (sym x.at) p);
        landed = grind arith;
        at = net.pushes r rs x.legal ∙ ap (λ v. push v r) x.at;
        by = le_refl t;
      }

  -- a final node is completed with nothing, at any of its seconds
  pub completing_final : (w : W) → Final w → (New : Pair → Type 0)
      → ((q : Pair) → New q → Open (newest w) q.0 × Reached Open after Legal node w q.0 × Low q.0 × (q.1 ≡ 0))
      → ((b : ℕ) → Open (newest w) b → Reached Open after Legal node w b → Low b → (q : Pair) × New q × (b ≤ q.0))
      → KeptCompleting (Complete w) New
  completing_final w f New made enough = record {
    completes = grind arith;
    covers = λ q c. let e = enough q.0 c.opened c.reached c.low in let z =
        (made e.0 e.1).3 in (e.0, e.1, (e.2, omega arith));
  }

  -- another node's, from the kept pairs of its successors: at each second b, with each rank at its first second after
  -- b, and a kept pair that this second is not too late for
  pub completing_next : (Keeps : W → Pair → Type 0) (w : W) (New : Pair → Type 0) → (Final w → ⊥)
      → ((r : ℕ) → Permitted w r → KeptCompleting (Complete (push w r)) (Keeps (push w r)))
      → ((q : Pair) → New q → Open (newest w) q.0 × Reached Open after Legal node w q.0 × Low q.0
      × ((r : ℕ) × (x : ℕ) × (o : Pair) × Permitted w r × (first r (after (newest w) q.0 r) ≡ Some x)
      × Keeps (push w r) o × (x ≤ o.0) × (cost r x + o.1 ≡ q.1)))
      → ((b r x : ℕ) (o : Pair) → Open (newest w) b → Reached Open after Legal node w b
      → Low b → Permitted w r → first r (after (newest w) b r) ≡ Some x → Keeps (push w r) o
      → x ≤ o.0 → (q : Pair) × New q × NoEarlierNoDearer q (b, cost r x + o.1))
      → KeptCompleting (Complete w) New
  completing_next Keeps w New not_final nexts made enough = record {
    completes = λ q n.
        let m = made q n in
        let s = m.3 in
        let c = (nexts s.0 s.3).completes s.2 s.5 in
        let o = opens.found s.0 (after (newest w) q.0 s.0) s.1 s.4 in
        record {
          opened = m.0;
          reached = m.1;
          low = m.2;
          rest = (s.0, s.1) ∷ c.rest;
          follows = (
            s.3,
            o.0,
            o.1,
            lower s.1 s.2.0 s.6 c.low,
            follows_mono (push w s.0) s.1 s.2.0 c.rest s.6 c.follows,
          );
          cost_is = omega arith;
        };
    covers = λ q c. by q c c.rest c.follows c.cost_is;
  }
    where
      by : (q : Pair) → Complete w q → (ys : List Landing) → Follow w q.0 ys → cost_of cost ys ≡ q.1
          → (p : Pair) × New p × NoEarlierNoDearer p q
      by q c [] f e = absurd (not_final f)
      by q c (y ∷ ys) f e =
          let x = opens.least y.0 (after (newest w) q.0 y.0) y.1 f.1 f.2 in
          let done : Complete (push w y.0) (y.1, cost_of cost ys) = grind (arith, newest_push, reached_push) in
          let o = (nexts y.0 f.0).covers (y.1, cost_of cost ys) done in
          let n = enough q.0 y.0 x.0 o.0 c.opened c.reached c.low f.0 x.1 o.1 (omega arith) in
          let d = dearer.mono y.0 x.0 y.1 x.2 in
          (n.0, n.1, (omega arith))

  -- what follows a landing trail makes it whole
  pub continued_whole : (xs ys : List Landing) → Legal (ranks xs) → Landed Open after xs → AllLow Low xs
      → Follow (node (ranks xs)) (latest_landing xs).1 ys → Legal (ranks (onto ys xs)) × Landed Open after (onto ys xs)
      × Final (node (ranks (onto ys xs))) × AllLow Low (onto ys xs)
      × (cost_of cost (onto ys xs) ≡ cost_of cost xs + cost_of cost ys)
  continued_whole xs [] l d a f = (l, d, f, a, omega arith)
  continued_whole xs (y ∷ ys) l d a f =
      let d' : Landed Open after (y ∷ xs) = (f.1, rw (newest_last xs l) at f.2, d) in
      let r = continued_whole _ ys (net.grows y.0 (ranks xs) l f.0) d' (f.3, a)
      (rw (net.pushes y.0 (ranks xs) l) f.4) in
      (r.0, r.1, r.2, r.3, omega arith)

  -- and of a whole landing trail the rest follows its front
  pub whole_continued : (xs ys : List Landing) → Legal (ranks (onto ys xs)) → Landed Open after (onto ys xs)
      → Final (node (ranks (onto ys xs))) → AllLow Low (onto ys xs) → Legal (ranks xs) × Landed Open after xs
      × AllLow Low xs × Follow (node (ranks xs)) (latest_landing xs).1 ys
  whole_continued xs [] l d f a = (l, d, a, f)
  whole_continued xs (y ∷ ys) l d f a =
      let r = whole_continued _ ys l d f a in grind arith
