-- Nodes and their prefixes.
use Rattle.std.proofs.Common.{◌≡◌, ℕ, suc, ◌*◌, ◌%◌, ◌^◌, ◌<◌, ◌≤◌, ◌⊎◌, inl, inr, List, [], ◌∷◌, length, refl, sym}
use Rattle.std.proofs.Common.{subst, ◌∙◌, arith}
use Rattle.std.specs.Prelude.{◌↔◌, bit_or}
use Rattle.std.specs.Int.{bit_at, w64}
use Rattle.std.proofs.lemmas.Bool.{cases_eq}
use Rattle.std.proofs.lemmas.Nat.Bits.{bit_at_set_same, bit_at_set_other}
use Rattle.precedence.specs.Pairs.{HasBit}
use Rattle.landing_rules.specs.Problem.{Problem}
use Rattle.replan.specs.shared.OneNode.{one_set}
use Rattle.cps_theory.specs.RankLists.{In}
use Rattle.cps_theory.specs.Separation.{Landing}
use Rattle.cps_theory.specs.LandingTrail.{ranks}
use Rattle.landing_joint.specs.CompletingPairs.{AreOneNode, CanLandBy, IsLegal}
use Rattle.first_best.specs.declared.node.EarlyNode.{EarlyNode}
use Rattle.first_best.specs.Nodes.{node_at, AreNodesOf, IsPrefixOf, IsReached, LeadsTo}

-- ---- bits

-- the set with one number more
pub set_has : (b l : ℕ) → l < 64 → (x : ℕ) → HasBit (bit_or b (1 * 2 ^ l % 2 ^ 64)) x ↔ (HasBit b x ⊎ (x ≡ l))
set_has b l few x = elim (cases_eq x l) [
  | inl e ↦ (
    λ _. inr e,
    λ _. subst (λ (n : ℕ). bit_at (bit_or b (1 * 2 ^ l % 2 ^ 64)) n ≡ 1) (sym e) (bit_at_set_same w64 b l few),
  )
  | inr ne ↦
      let kept : bit_at (bit_or b (1 * 2 ^ l % 2 ^ 64)) x ≡ bit_at b x = bit_at_set_other w64 b l few x ne in
      (λ h. inl (sym kept ∙ h), λ h. elim h [ inl i ↦ kept ∙ i | inr e ↦ absurd (ne e) ])
]

pub set_leads : (before after : EarlyNode) → after.last < 64 → (HasBit before.placed after.last → ⊥)
    → after.placed ≡ bit_or before.placed (1 * 2 ^ after.last % 2 ^ 64) → LeadsTo before after
set_leads before after few new is = record {
  is_new = new;
  placed = λ x. subst (λ (s : ℕ). HasBit s x ↔ (HasBit before.placed x ⊎ (x ≡ after.last)))
      (sym is) (set_has before.placed after.last few x);
}

pub leads_set : (before after : EarlyNode) → after.last < 64 → LeadsTo before after
    → after.placed ≡ bit_or before.placed (1 * 2 ^ after.last % 2 ^ 64)
leads_set before after few l = one_set after.placed (bit_or before.placed (1 * 2 ^ after.last % 2 ^ 64)) (λ x.
    let a = l.placed x in
    let b = set_has before.placed after.last few x in
    (λ h. b.1 (a.0 h), λ h. a.1 (b.0 h)))

-- ---- prefixes of a node

pub one_node : (rs os : List ℕ) (node : EarlyNode) → IsPrefixOf rs node → IsPrefixOf os node
    → length rs ≡ length os → AreOneNode rs os
one_node rs os node a b long = record {
  stage = long;
  placed = λ x. (λ i. (b.placed x).0 ((a.placed x).1 i), λ i. (a.placed x).0 ((b.placed x).1 i));
  latest = a.last ∙ sym b.last;
}

pub node_one : (rs os : List ℕ) (node : EarlyNode) → AreOneNode os rs → IsPrefixOf rs node → IsPrefixOf os node
node_one rs os node one a = record {
  placed = λ x. (λ h. (one.placed x).1 ((a.placed x).0 h), λ i. (a.placed x).1 ((one.placed x).0 i));
  last = one.latest ∙ a.last;
}

-- a node can be landed by a second exactly where its earliest is no later
module _ (p : Problem) (stage : ℕ) (nodes : List EarlyNode) (are : AreNodesOf p stage nodes) (j : ℕ)
    (lt : j < length nodes) (rs : List ℕ) (long : length rs ≡ stage) (of : IsPrefixOf rs (node_at nodes j)) where
  pub lands_by : (b : ℕ) → (node_at nodes j).earliest ≤ b → CanLandBy p rs b
  lands_by b le =
      let r = are.reached j lt in
      let e = r.earliest in
      record {
        landings = r.landings;
        legal = r.prefix.legal;
        landed = r.prefix.landed;
        one_node = one_node _ rs _ r.of_node of (r.prefix.long ∙ sym long);
        by = omega arith;
      }

  pub by_lands : (b : ℕ) → CanLandBy p rs b → (node_at nodes j).earliest ≤ b
  by_lands b c =
      let a = are.least j c.landings lt (record { legal = c.legal; landed = c.landed; long = c.one_node.stage ∙ long })
      (node_one rs _ (node_at nodes j) c.one_node of) in
      let d = c.by in
      omega arith

-- ---- one rank more

-- a prefix goes on to the nodes that its node leads to
module _ (p : Problem) (rs : List ℕ) (legal : IsLegal p rs) (node after : EarlyNode) (of : IsPrefixOf rs node)
    (leads : LeadsTo node after) where
  -- what an order of the later node places is its last rank or among these
  back : (r : ℕ) (os : List ℕ) → IsPrefixOf (r ∷ os) after → (In r os → ⊥) → (x : ℕ) → In x os → In x rs
  back r os o new x i = elim ((leads.placed x).0 ((o.placed x).1 (inr i))) [
    | inl h ↦ (of.placed x).0 h
    | inr e ↦ absurd (new (subst (λ (y : ℕ). In y os) (e ∙ sym o.last) i))
  ]

  goes_on : (xs : List Landing) → IsLegal p (ranks xs) → length (ranks xs) ≡ suc (length rs)
      → IsPrefixOf (ranks xs) after → IsLegal p (after.last ∷ rs)
  goes_on [] l long o = absurd (omega (arith, long))
  goes_on (x ∷ xs) l long o = subst (λ (r : ℕ). IsLegal p (r ∷ rs)) o.last (
    record {
      fits = record {
        from_one = l.0.fits.from_one;
        to_count = l.0.fits.to_count;
        is_new = λ i. leads.is_new (subst (HasBit node.placed) o.last ((of.placed x.0).1 i));
        not_early = (let a = l.0.fits.not_early in omega (arith, a, same));
        not_late = (let a = l.0.fits.not_late in omega (arith, a, same));
        after = λ a b. back x.0 (ranks xs) o l.0.fits.is_new a (l.0.fits.after a b);
      };
      due = λ a one at. elim (l.0.due a one (omega (arith, at, same))) [
        | inl e ↦ inl e
        | inr i ↦ inr (back x.0 (ranks xs) o l.0.fits.is_new a i)
      ];
    },
    legal,
  )
    where
      same : length (ranks xs) ≡ length rs
      same = omega arith

  pub leads_on : IsReached p (suc (length rs)) after → IsLegal p (after.last ∷ rs) × IsPrefixOf (after.last ∷ rs) after
  leads_on r = (
    goes_on r.landings r.prefix.legal r.prefix.long r.of_node,
    record {
      placed = λ x. (
        λ h. elim ((leads.placed x).0 h) [ inl i ↦ inr ((of.placed x).0 i) | inr e ↦ inl e ],
        λ i. (leads.placed x).1 (elim i [ inl e ↦ inr e | inr j ↦ inl ((of.placed x).1 j) ]),
      );
      last = refl;
    },
  )

-- and its node leads to those that it goes on to
pub on_leads : (p : Problem) (rs : List ℕ) (r : ℕ) (node after : EarlyNode) → IsLegal p (r ∷ rs)
    → IsPrefixOf rs node → IsPrefixOf (r ∷ rs) after → LeadsTo node after
on_leads p rs r node after legal of on = record {
  is_new = λ h. legal.0.fits.is_new (subst (λ (x : ℕ). In x rs) (sym on.last) ((of.placed after.last).0 h));
  placed = λ x. (
    λ h. elim ((on.placed x).0 h) [ inl e ↦ inr (e ∙ on.last) | inr i ↦ inl ((of.placed x).1 i) ],
    λ h. (on.placed x).1 (elim h [ inl i ↦ inr ((of.placed x).0 i) | inr e ↦ inl (e ∙ sym on.last) ]),
  );
}

-- the last of a node of a stage is a rank
pub rank_of : (p : Problem) (stage : ℕ) (node : EarlyNode) → 1 ≤ stage → IsReached p stage node
    → (1 ≤ node.last) × (node.last ≤ length p.flights)
rank_of p stage node one r = go r.landings r.prefix.legal r.prefix.long r.of_node
  where
    go : (xs : List Landing) → IsLegal p (ranks xs) → length (ranks xs) ≡ stage → IsPrefixOf (ranks xs) node
        → (1 ≤ node.last) × (node.last ≤ length p.flights)
    go [] l long o = absurd (omega arith)
    go (x ∷ xs) l long o = subst (λ n. (1 ≤ n) × (n ≤ length p.flights)) o.last (l.0.fits.from_one, l.0.fits.to_count)
