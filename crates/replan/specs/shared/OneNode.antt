-- Windows of one node tell the same ranks.
use Rattle.std.proofs.Common.{◌≡◌, ℕ, ◌<◌, inl, inr, List, sym, subst, ◌∙◌, arith}
use Rattle.std.specs.Prelude.{ℤ, ◌↔◌}
use Rattle.std.specs.Int.{bit_at}
use Rattle.std.proofs.lemmas.Bool.{cases_eq}
use Rattle.std.proofs.lemmas.Nat.Bits.{bit_at-lt, same_from_bits}
use Rattle.precedence.specs.Pairs.{HasBit}
use Rattle.cps_network.specs.Nodes.{latest}
use Rattle.cps_network.specs.WindowRanks.{TellsPlaced}
use Rattle.replan.specs.WindowNodes.{AreOneNode}

-- sets with the same numbers are the same
pub one_set : (a b : ℕ) → ((x : ℕ) → HasBit a x ↔ HasBit b x) → a ≡ b
one_set a b h = same_from_bits a b (bit)
  where
    bit : (i : ℕ) → bit_at a i ≡ bit_at b i
    bit i =
        let la : bit_at a i < 2 = bit_at-lt a i in
        let lb : bit_at b i < 2 = bit_at-lt b i in
        elim (cases_eq (bit_at a i) 1) [
          | inl e ↦ e ∙ sym ((h i).0 e)
          | inr ne ↦ elim (cases_eq (bit_at b i) 1) [ inl f ↦ absurd (ne ((h i).1 f)) | inr nf ↦ omega arith ]
        ]

module _ (stage : ℕ) (xs ys : List ℤ) (a b : ℕ) (ta : TellsPlaced xs stage a) (tb : TellsPlaced ys stage b) where
  pub same_one : a ≡ b → latest (stage, xs) ≡ latest (stage, ys) → AreOneNode stage xs ys
  same_one e l = record {
    placed = λ rank one. (
      λ p. ((tb rank).0 (subst (λ (s : ℕ). HasBit s rank) e ((ta rank).1 (one, p)))).1,
      λ p. ((ta rank).0 (subst (λ (s : ℕ). HasBit s rank) (sym e) ((tb rank).1 (one, p)))).1,
    );
    last = l;
  }

  pub one_same : AreOneNode stage xs ys → a ≡ b
  one_same o = one_set a b (λ x. (
    λ h. (let p = (ta x).0 h in (tb x).1 (p.0, (o.placed x p.0).0 p.1)),
    λ h. (let p = (tb x).0 h in (ta x).1 (p.0, (o.placed x p.0).1 p.1)),
  ))

-- what the one window tells, another of its node tells too
pub one_tells : (stage : ℕ) (xs ys : List ℤ) (placed : ℕ) → AreOneNode stage xs ys → TellsPlaced xs stage placed
    → TellsPlaced ys stage placed
one_tells stage xs ys placed o tell rank = (
  λ h. (let p = (tell rank).0 h in (p.0, (o.placed rank p.0).0 p.1)),
  λ p. (tell rank).1 (p.0, (o.placed rank p.0).1 p.1),
)
