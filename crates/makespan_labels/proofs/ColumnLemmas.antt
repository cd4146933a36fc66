-- Which labels are known, the landable windows that are left where the others go, and the least number of a range.
use Rattle.std.proofs.Common.{rules, ◌≡◌, ℕ, ◌+◌, ◌<◌, ◌≤◌, ◌⊎◌, List, length, Option, Some, None, true, false, sym, ap}
use Rattle.std.proofs.Common.{arith, inl, inr, min, set}
use Rattle.std.specs.Prelude.{ℤ, slice_index, All, nat_eq, ◌↔◌}
use Rattle.std.specs.Option.{option_eq}
use Rattle.std.proofs.lemmas.Bool.{cases_eq, eqb-true}
use Rattle.landing_rules.specs.Problem.{Problem}
use Rattle.landing_rules.specs.Rules.{last_second}
use Rattle.cps_network.specs.Landable.{IsLandable, HasEachLandable}
use Rattle.cps_network.specs.Lists.{node_at}
use Rattle.cps_network.specs.shared.KeptPlaces.{one_each_left, each_left, landable_left}
use Rattle.makespan_labels.specs.Labels.{no_label, IsLabel, AreLabels, HoldsLabels}
use Rattle.makespan_labels.specs.Columns.{IsEntry, IsLabelOf, IsLeastOf, is_known, known_of}
use Rattle.makespan_labels.specs.shared.NetworkSteps.{can_land}

-- ---- the least of a range

min_cases : (a b : ℕ) → ((min a b ≡ a) × (a ≤ b)) ⊎ ((min a b ≡ b) × (b ≤ a))
min_cases a b = grind arith

pub least_one : (labels : List ℕ) (i least : ℕ) → least ≡ slice_index labels i → IsLeastOf labels i (i + 1) least
least_one labels i least is = record {
  place = i;
  from_here = omega arith;
  to_there = omega arith;
  is = sym is;
  low = grind arith;
}

pub least_more : (labels : List ℕ) (from i least : ℕ) → from ≤ i → IsLeastOf labels from i least
    → IsLeastOf labels from (i + 1) (min least (slice_index labels i))
least_more labels from i least le is = grind (arith, min_cases, slice_index, low)
  where
    low : (j : ℕ) → from ≤ j → j < i + 1 → min least (slice_index labels i) ≤ slice_index labels j
    low j lo hi = elim (cases_eq j i) [
      | inl same ↦ (let e = ap (slice_index labels) same in omega (arith, e))
      | inr other ↦ (let l = is.low j lo (omega (arith, hi, other)) in omega (arith, l))
    ]

pub entry_least : (a b : ℕ) → IsEntry a → IsEntry b → IsEntry (min a b)
entry_least a b x y = grind arith

pub entry_of : (landing : Option ℕ) (label : ℕ) → IsLabelOf landing label → IsEntry label
entry_of None label of = inr of.is
entry_of (Some t) label of = inl (omega (arith, of.is, of.in_days))

pub entry_small : (x : ℕ) → IsEntry x → x < no_label → x ≤ last_second
entry_small x (inl le) lt = le
entry_small x (inr e) lt = absurd (omega (arith, e, lt))

-- ---- the landable windows are left

module _ (p : Problem) (stage : ℕ) (windows : List (List ℤ)) (labels : List ℕ) (entries : All IsEntry labels)
    (each : HasEachLandable p (stage, windows)) (are : AreLabels p (stage, windows) labels) where
  known_landable : (i : ℕ) → i < length windows → (is_known (slice_index labels i) ≡ true)
      ↔ IsLandable p stage (node_at windows i)
  known_landable i lt = (
    grind arith,
    λ l.
        let low = ((are.label i lt).least _ (can_land p stage (node_at windows i) l)).0 in grind arith,
  )

  pub kept_labels : HoldsLabels p (stage, known_of labels windows) (known_of labels labels)
  kept_labels = record {
    landable = landable_left is_known 0 windows labels are.one_each p stage each known_landable;
    labelled = record {
      one_each = grind (arith, one_each_left, is_known);
      label = each_left is_known 0 windows labels are.one_each
          (λ (xs : List ℤ) (label : ℕ). IsLabel p stage xs label) are.label;
    };
  }

-- ---- one entry more is written

pub set_more : (P : ℕ → ℕ → Type 0) (into after : List ℕ) (i label n : ℕ) → after ≡ set into i label
    → i < n → length into ≡ n → ((m : ℕ) → m < i → P m (slice_index into m)) → P i label
    → (length after ≡ n) × ((m : ℕ) → m < i + 1 → P m (slice_index after m))
set_more P into after i label n e lt long old one = search rules

-- ---- whether an answer is this number

pub some_from_eq : (o : Option ℕ) (x : ℕ) → true ≡ option_eq nat_eq o (Some x) → o ≡ Some x
some_from_eq None x e = cc
some_from_eq (Some y) x e = ap Some (eqb-true y x (sym e))

pub none_from_eq : (o : Option ℕ) (x : ℕ) → false ≡ option_eq nat_eq o (Some x) → o ≡ Some x → ⊥
none_from_eq o x e is = grind arith
