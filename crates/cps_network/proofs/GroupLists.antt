-- Lists of the groups of a stage.
use Rattle.std.proofs.Common.{rules, ◌≡◌, ℕ, ◌-◌, ◌<◌, ◌≤◌, List, [], ◌∷◌, ◌++◌, length, length-append, drop, arith}
use Rattle.std.proofs.Common.{inl, inr}
use Rattle.std.proofs.lemmas.Bool.{cases_lt}
use Rattle.std.proofs.lemmas.List.Elements.{All-push, Contains-append_left, Contains-push}
use Rattle.std.proofs.lemmas.List.Quantifiers.{all_pairs_push}
use Rattle.std.proofs.lemmas.List.Sorted.{All-permutation, Contains-permutation}
use Rattle.std.specs.List.Sorted.{IsPermutation}
use Rattle.std.specs.Prelude.{ℤ, All, AllPairs, Contains}
use Rattle.landing_rules.specs.Problem.{Problem}
use Rattle.cps_network.specs.declared.groups.Group.{Group}
use Rattle.cps_network.specs.Extended.{AreGroupsOf, IsGroupOf}
use Rattle.cps_network.specs.Lists.{node_at}

-- the groups of the windows below a place, at which a group begins
pub record AreGroupsUpto (p : Problem) (stage : ℕ) (before : List (List ℤ)) (groups : List Group) (from : ℕ)
    : Type 0 where
  pub each : All (IsGroupOf p stage before) groups
  pub whole : (i : ℕ) → i < from → (group : Group) × Contains groups group × (group.from ≤ i) × (i < group.to)
  pub begins : from < length before → 0 < from
      → drop 1 (node_at before (from - 1)) ≡ drop 1 (node_at before from) → ⊥
  pub short : from ≤ length before
  pub few : length groups ≤ from
  pub rising : AllPairs (λ a later. a.from < later.from) groups
  pub earlier : All (λ group. group.from < from) groups

pub more_groups : (p : Problem) (stage : ℕ) (before : List (List ℤ)) (groups : List Group) (group : Group)
    → AreGroupsUpto p stage before groups group.from → IsGroupOf p stage before group
    → AreGroupsUpto p stage before (groups ++ group ∷ []) group.to
more_groups p stage before groups group are is = record {
  each = search (rules, All-push);
  whole = λ i lt. elim (cases_lt i group.from) [
    | inl past ↦
        let old : (h : Group) × Contains groups h × (h.from ≤ i) × (i < h.to) = are.whole i past in
        grind (arith, Contains-append_left)
    | inr here ↦ (group, Contains-push groups group, here, lt)
  ];
  begins = grind arith;
  short = is.range.within;
  few = grind (arith, length-append);
  rising = all_pairs_push (λ (a later : Group). a.from < later.from) groups group are.rising
      are.earlier;
  earlier = All-push (λ (h : Group). h.from < group.to) groups group
      (λ k d lt. let less = are.earlier k d lt in let some = is.range.some in omega (arith, less, some))
      is.range.some;
}

-- a list in another order has the same groups
pub AreGroupsOf-permutation : (p : Problem) (stage : ℕ) (before : List (List ℤ)) (groups sorted : List Group)
    → IsPermutation groups sorted → AreGroupsOf p stage before groups → AreGroupsOf p stage before sorted
AreGroupsOf-permutation p stage before groups sorted moved are = record {
  each = search (rules, All-permutation);
  whole = λ i lt. let h : (h : Group) × Contains groups h × (h.from ≤ i) × (i < h.to) = are.whole i lt in
      search (rules, Contains-permutation);
}
