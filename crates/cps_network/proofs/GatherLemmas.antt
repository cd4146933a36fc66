-- Lists that grow by what places add.
use Rattle.std.proofs.Common.{[], rules, ◌≡◌, ℕ, ◌+◌, ◌<◌, ◌≤◌, List, ◌∷◌, ◌++◌, arith, ◌∙◌, sym, subst, inl, inr}
use Rattle.std.proofs.lemmas.Bool.{cases_lt}
use Rattle.std.specs.Prelude.{ℤ, ◌⊎◌, ◌↔◌, Contains}
use Rattle.precedence.specs.Pairs.{HasBit}
use Rattle.cps_nodes.specs.Windows.{shifted}
use Rattle.cps_network.specs.declared.groups.Group.{Group}
use Rattle.cps_network.specs.Extended.{FollowsBy, Follows, HasGrownBy, group_at, offset_of}
use Rattle.cps_network.specs.Lists.{node_at}
use Rattle.cps_network.proofs.ListLemmas.{Contains-pushed, last_or_before}

module _ (Adds : ℕ → List ℤ → Type 0) where
  pub grown_none : (from to : ℕ) (now : List (List ℤ)) → to ≤ from → HasGrownBy Adds from to now now
  grown_none from to now none x = grind arith

  pub grown_one : (from i : ℕ) (start now after : List (List ℤ)) → from ≤ i → HasGrownBy Adds from i start now
      → ((x : List ℤ) → Contains after x ↔ (Contains now x ⊎ Adds i x)) → HasGrownBy Adds from (i + 1) start after
  grown_one from i start now after low are grew x = (
    λ has. elim ((grew x).0 has) [
      | inl old ↦ elim ((are x).0 old) [
        | inl first ↦ inl first
        | inr (m, from_m, below, adds) ↦ inr (m, from_m, omega (arith, below), adds)
      ]
      | inr new ↦ inr (i, low, omega arith, new)
    ],
    λ has. elim has [
      | inl first ↦ (grew x).1 (inl ((are x).1 (inl first)))
      | inr (m, from_m, below, adds) ↦ elim (last_or_before m i below) [
        | inl same ↦ grind arith
        | inr before ↦ (grew x).1 (inl ((are x).1 (inr (m, from_m, before, adds))))
      ]
    ],
  )

  pub grown_on : (from mid to : ℕ) (start now after : List (List ℤ)) → from ≤ mid → mid ≤ to
      → HasGrownBy Adds from mid start now → HasGrownBy Adds mid to now after → HasGrownBy Adds from to start after
  grown_on from mid to start now after low high are more x = (
    λ has. elim ((more x).0 has) [
      | inl old ↦ elim ((are x).0 old) [
        | inl first ↦ inl first
        | inr (m, from_m, below, adds) ↦ inr (m, from_m, omega (arith, below, high), adds)
      ]
      | inr (m, from_m, below, adds) ↦ inr (m, omega (arith, from_m, low), below, adds)
    ],
    λ has. elim has [
      | inl first ↦ (more x).1 (inl ((are x).1 (inl first)))
      | inr (m, from_m, below, adds) ↦ elim (cases_lt m mid) [
        | inl before ↦ (more x).1 (inl ((are x).1 (inr (m, from_m, before, adds))))
        | inr later ↦ (more x).1 (inr (m, later, below, adds))
      ]
    ],
  )

-- the same, up to a place that is written otherwise
pub grown_upto : (Adds : ℕ → List ℤ → Type 0) (from i to : ℕ) (start now : List (List ℤ)) → i ≡ to
    → HasGrownBy Adds from i start now → HasGrownBy Adds from to start now
grown_upto Adds from i to start now e are = subst (λ (q : ℕ). HasGrownBy Adds from q start now) e are

module _ (width : ℕ) (before : List (List ℤ)) where
  -- a group has the bit
  pub one_follows : (group : Group) (j : ℕ) (now after : List (List ℤ)) (next : List ℤ) → HasBit group.offsets j
      → next ≡ shifted (node_at before group.from) (offset_of width j) → after ≡ now ++ next ∷ [] → (x : List ℤ)
      → Contains after x ↔ (Contains now x ⊎ FollowsBy width before group j x)
  one_follows group j now after next has is pushed x = (
    λ has_x. elim ((Contains-pushed now after next x pushed).0 has_x) [
      | inl old ↦ inl old
      | inr same ↦ inr (record { offset = has; is = same ∙ is })
    ],
    λ has_x. (Contains-pushed now after next x pushed).1
        (elim has_x [ inl old ↦ inl old | inr follows ↦ inr (follows.is ∙ sym is) ]),
  )

  -- bit by bit and group by group
  abbrev pub FollowBelow : List Group → ℕ → ℕ → ℕ → List ℤ → Type 0
  FollowBelow groups from to j x = (i : ℕ) × (from ≤ i) × (i < to) × FollowsBy width before (group_at groups i) j x

  pub by_groups : (groups : List Group) (from to : ℕ) (start now : List (List ℤ))
      → HasGrownBy (λ j x. FollowBelow groups from to j x) 0 width start now
      → HasGrownBy (Follows width before groups) from to start now
  by_groups groups from to start now are x = (
    λ has. elim ((are x).0 has) [
      | inl old ↦ inl old
      | inr (j, low, high, (i, from_i, below, follows)) ↦ inr (i, from_i, below, (j, high, follows))
    ],
    λ has. (are x).1 (elim has [
      | inl old ↦ inl old
      | inr (i, from_i, below, (j, high, follows)) ↦ search rules
    ]),
  )
