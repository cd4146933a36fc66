-- What is gathered from the groups of a stage are the windows of the next.
use Rattle.std.proofs.Common.{[], ◌≡◌, ℕ, ◌+◌, ◌-◌, ◌*◌, ◌<◌, ◌≤◌, List, length, get_or, arith, ◌∙◌, sym, subst, inl}
use Rattle.std.proofs.Common.{inr}
use Rattle.std.proofs.lemmas.Int.{ints}
use Rattle.std.proofs.lemmas.List.{get_or_default}
use Rattle.std.proofs.lemmas.List.Elements.{Contains-get_or}
use Rattle.std.specs.Prelude.{ℤ, All, Contains}
use Rattle.cps_nodes.specs.Laws.{LeadOn, offset_after}
use Rattle.cps_nodes.specs.Windows.{Accepts, IsWindow}
use Rattle.landing_rules.specs.Problem.{Problem}
use Rattle.cps_network.specs.declared.groups.Group.{Group}
use Rattle.cps_network.specs.Extended.{AreGroupsOf, IsGroupOf, IsExtendable, FollowsBy, Follows, HasGrownBy}
use Rattle.cps_network.specs.Extended.{group_at, offset_of}
use Rattle.cps_network.specs.Lists.{node_at, AreWindows}
use Rattle.cps_network.specs.Permits.{IsSuccessor, IsNextOf}
use Rattle.cps_network.proofs.StageLemmas.{IsSuccessor-alike}

module _ (p : Problem) (stage width : ℕ) (before : List (List ℤ)) (odd : width ≡ 2 * p.k + 1) where
  -- each group's front window accepts the offsets that it has
  pub all_extendable : (groups : List Group) → AreGroupsOf p stage before groups
      → All (IsExtendable width before) groups
  all_extendable groups are i d lt =
      let is = are.each i d lt in
      record {
        within = omega (arith, is.range.some, is.range.within);
        accepted = λ j has.
            let may = (is.permitted j).0 has in
            let same : offset_after stage (stage + 1 + j - p.k) ≡ offset_of width j =
            omega (arith, ints, odd, may.from_one) in
            subst (Accepts (node_at before (get_or groups i d).from)) same may.accepted;
      }

  -- what follows a group extends its front window by a permitted rank
  follows_next : (group : Group) (j : ℕ) (x : List ℤ) → IsGroupOf p stage before group
      → FollowsBy width before group j x → IsSuccessor p stage (node_at before group.from) x
  follows_next group j x is follows = grind arith

  next_follows : (group : Group) (x : List ℤ) → IsGroupOf p stage before group
      → IsSuccessor p stage (node_at before group.from) x
      → (j : ℕ) × (j < width) × FollowsBy width before group j x
  next_follows group x is (rank, may, at) =
      let j : ℕ = rank + p.k - stage - 1 in
      let same : rank ≡ stage + 1 + j - p.k = omega (arith, may.late) in grind arith

  -- of one group a window leads on as the front window does
  pub of_group : (group : Group) (m : ℕ) (window x : List ℤ) → LeadOn width → AreWindows width before
      → IsGroupOf p stage before group → m < length before → group.from ≤ m → m < group.to
      → node_at before m ≡ window → IsSuccessor p stage window x
      → IsSuccessor p stage (node_at before group.from) x
  of_group group m window x law valid is lt low high at next =
      let here : IsWindow width (node_at before m) = valid m lt in
      IsSuccessor-alike p stage (node_at before m) (node_at before group.from) x (here.len ∙ odd)
      (law.alike (node_at before m) (node_at before group.from) here
      (valid group.from (omega (arith, is.range.some, is.range.within))) ((is.range.exact m lt).1 (low, high)))
      (subst (λ (z : List ℤ). IsSuccessor p stage z x) (sym at) next)

  pub gathered_is_next : (groups : List Group) (now : List (List ℤ)) → LeadOn width → AreWindows width before
      → AreGroupsOf p stage before groups
      → HasGrownBy (Follows width before groups) 0 (length groups) [] now → IsNextOf p stage before now
  gathered_is_next groups now law valid are grown x = (
    λ has. elim ((grown x).0 has) [
      | inl none ↦ absurd (omega (arith, none.1))
      | inr (i, low, high, (j, few, follows)) ↦
          let is : IsGroupOf p stage before (group_at groups i) = are.each i _ high in (
            node_at before (group_at groups i).from,
            Contains-get_or before (group_at groups i).from [] (omega (arith, is.range.some, is.range.within)),
            follows_next (group_at groups i) j x is follows,
          )
    ],
    λ (window, (m, lt, at), next).
        let found : (group : Group) × Contains groups group × (group.from ≤ m) × (m < group.to) = are.whole m lt in
        let i : ℕ = found.1.0 in
        let here : group_at groups i ≡ found.0 = get_or_default groups i _ found.0 found.1.1 ∙ found.1.2 in
        let is : IsGroupOf p stage before (group_at groups i) = are.each i _ found.1.1 in
        let leads : IsSuccessor p stage (node_at before (group_at groups i).from) x =
        of_group (group_at groups i) m window x law valid is lt
        (subst (λ (h : Group). h.from ≤ m) (sym here) found.2) (subst (λ (h : Group). m < h.to) (sym here) found.3)
        (get_or_default before m [] window lt ∙ at) next in
        (grown x).1 (inr (i, omega arith, found.1.1, next_follows (group_at groups i) x is leads)),
  )
