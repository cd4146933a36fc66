-- Groups of windows, the offsets that are permitted after them, and where they begin and end.
use Rattle.std.proofs.Common.{◌≡◌, ℕ, ◌+◌, ◌-◌, ◌*◌, ◌/◌, ◌%◌, ◌^◌, ◌<◌, ◌≤◌, min, max, List, ◌∷◌, ◌++◌, length, drop}
use Rattle.std.proofs.Common.{[], take, arith, ◌∙◌, sym, ap, inl, inr, subst, w8}
use Rattle.std.proofs.lemmas.Bool.{cases_eq, cases_lt}
use Rattle.std.proofs.lemmas.Nat.Bits.{bit_at_set_same, bit_at_set_other, bit_at_and}
use Rattle.std.proofs.lemmas.Int.{ints}
use Rattle.std.specs.Prelude.{ℤ, pos, ◌-ℤ◌, ◌⊎◌, ◌↔◌, bit_or, bit_and}
use Rattle.std.specs.Int.{bit_at}
use Rattle.precedence.specs.Pairs.{HasBit}
use Rattle.landing_rules.specs.Problem.{Problem}
use Rattle.cps_nodes.specs.Leads.{TailMeetsHead}
use Rattle.cps_network.specs.Begins.{BeginAt}
use Rattle.cps_nodes.specs.Laws.{offset_after}
use Rattle.cps_nodes.specs.Windows.{Accepts}
use Rattle.cps_network.specs.Again.{IsReady}
use Rattle.cps_network.specs.Extended.{HasPermitted, HasOpen, HasFree, IsOpen}
use Rattle.cps_network.specs.Groups.{IsGroup}
use Rattle.cps_network.specs.Lists.{IsAscending, node_at}
use Rattle.cps_network.specs.Permits.{IsPermitted}
use Rattle.cps_network.proofs.SourceLemmas.{below_before, none_from, exact}
use Rattle.std.proofs.lemmas.Grind.{common_steps}

head_of : (xs : List ℤ) (x : ℤ) → take (length (xs ++ x ∷ []) - 1) (xs ++ x ∷ []) ≡ xs
head_of xs x = grind (arith, common_steps)

-- one bit more
bit_added : (offsets k j : ℕ) → k < 8 → HasBit (bit_or offsets (1 * 2 ^ k % 256)) j ↔ (HasBit offsets j ⊎ (j ≡ k))
bit_added offsets k j few = elim (cases_eq j k) [
  | inl same ↦ (
    λ _. inr same,
    λ _. subst (λ (m : ℕ). bit_at (bit_or offsets (1 * 2 ^ k % 256)) m ≡ 1) (sym same)
        (bit_at_set_same w8 offsets k few),
  )
  | inr other ↦
      let kept : bit_at (bit_or offsets (1 * 2 ^ k % 256)) j ≡ bit_at offsets j =
      bit_at_set_other w8 offsets k few j other in grind arith
]

-- the offset of a rank that is permitted
pub rank_added : (offsets stage rank k at j : ℕ) (P : Type 0) → at < 8 → at + stage + 1 ≡ rank + k → P
    → HasBit (bit_or offsets (1 * 2 ^ at % 256)) j ↔ (HasBit offsets j ⊎ ((j + stage + 1 ≡ rank + k) × P))
rank_added offsets stage rank k at j P few e holds = grind (arith, bit_added)

-- a bit that two sets have
pub both_have : (a b j : ℕ) → HasBit (bit_and a b) j → HasBit a j × HasBit b j
both_have a b j has = grind (arith, bit_at_and)

pub have_both : (a b j : ℕ) → HasBit a j → HasBit b j → HasBit (bit_and a b) j
have_both a b j in_a in_b = grind (arith, bit_at_and)

-- the offsets of the ranks below one of which something holds
abbrev pub HasRanks : Problem → ℕ → (ℕ → Type 0) → ℕ → ℕ → Type 0
HasRanks p stage Holds offsets rank = (j : ℕ) → HasBit offsets j ↔ ((m : ℕ) × (m < rank)
    × (j + stage + 1 ≡ m + p.k) × Holds m)

module _ (p : Problem) (stage : ℕ) (Holds : ℕ → Type 0) (opens : (m : ℕ) → Holds m → IsOpen p stage m) where
  pub no_ranks : (rank : ℕ) → rank ≤ max (stage + 1 - p.k) 1 → HasRanks p stage Holds 0 rank
  no_ranks rank low j = grind arith

  pub more_ranks : (offsets more rank : ℕ) → HasRanks p stage Holds offsets rank
      → ((j : ℕ) → HasBit more j ↔ (HasBit offsets j ⊎ ((j + stage + 1 ≡ rank + p.k) × Holds rank)))
      → HasRanks p stage Holds more (rank + 1)
  more_ranks offsets more rank are grew j = grind arith

  pub all_ranks : (offsets rank : ℕ) → min (stage + 1 + p.k) (length p.flights) < rank
      → HasRanks p stage Holds offsets rank → (j : ℕ) → HasBit offsets j ↔ Holds (stage + 1 + j - p.k)
  all_ranks offsets rank high are j = (
    λ has. let m : (m : ℕ) × (m < rank) × (j + stage + 1 ≡ m + p.k) × Holds m = (are j).0 has in grind arith,
    grind arith,
  )

-- what is permitted is open
pub permitted_opens : (p : Problem) (stage : ℕ) (xs : List ℤ) (m : ℕ) → IsPermitted p stage xs m → IsOpen p stage m
permitted_opens p stage xs m is = omega arith

-- where the offsets that are accepted and open are free, they are those that are permitted
pub free_permitted : (p : Problem) (stage width : ℕ) (xs : List ℤ) (accepted open_set free_set offsets : ℕ)
    → width ≡ 2 * p.k + 1 → length xs ≡ width
    → ((j : ℕ) → HasBit accepted j ↔ ((j < width) × Accepts xs (pos j -ℤ pos (width / 2))))
    → HasOpen p stage open_set → HasFree p stage free_set
    → ((j : ℕ) → HasBit offsets j → HasBit accepted j × HasBit free_set j)
    → ((j : ℕ) → HasBit accepted j → HasBit open_set j → HasBit offsets j)
    → HasPermitted p stage xs offsets
free_permitted p stage width xs accepted open_set free_set offsets odd len accepts opens frees some all j = (
  λ has.
      let both : HasBit accepted j × HasBit free_set j = some j has in
      let can : (j < width) × Accepts xs (pos j -ℤ pos (width / 2)) = (accepts j).0 both.0 in
      let free : IsOpen p stage (stage + 1 + j - p.k) × IsReady p stage (stage + 1 + j - p.k) =
      (frees j).0 both.1 in
      let at : (pos j -ℤ pos (width / 2)) ≡ offset_after stage (stage + 1 + j - p.k) =
      omega (arith, ints, free.0.from_one, odd) in
      record {
        from_one = free.0.from_one;
        to_count = free.0.to_count;
        early = free.0.early;
        late = free.0.late;
        accepted = subst (Accepts xs) at can.1;
        after = grind arith;
      },
  λ is.
      let at : offset_after stage (stage + 1 + j - p.k) ≡ (pos j -ℤ pos (width / 2)) =
      omega (arith, ints, is.from_one, odd) in
      all j ((accepts j).1 (omega (arith, is.early, is.from_one, odd), subst (Accepts xs) at is.accepted))
      ((opens j).1 (permitted_opens p stage xs _ is)),
)

-- the windows from a place on that share its tail are a group, where that before does not
pub group_here : (before : List (List ℤ)) (from to : ℕ) → IsAscending before → from < length before
    → (0 < from → drop 1 (node_at before (from - 1)) ≡ drop 1 (node_at before from) → ⊥)
    → from ≤ to → to ≤ length before
    → ((i : ℕ) → from ≤ i → i < to → drop 1 (node_at before i) ≡ drop 1 (node_at before from))
    → (to < length before → drop 1 (node_at before to) ≡ drop 1 (node_at before from) → ⊥)
    → IsGroup before from to
group_here before from to up within first ordered short same ends = record {
  some = longer (cases_lt from to);
  within = short;
  exact = λ j lt.
      let range : TailMeetsHead (node_at before j) node ↔ ((from ≤ j) × (j < to)) =
      exact before node from to up (below_before before node from up begins) (none_from before node from up begins)
      ordered (λ i low high. same i low high ∙ sym head) (λ lt e. ends lt (e ∙ head)) j lt in
      (λ e. range.0 (e ∙ sym head), λ r. range.1 r ∙ head);
}
  where
    node : List ℤ
    node = drop 1 (node_at before from) ++ pos 0 ∷ []

    head : take (length node - 1) node ≡ drop 1 (node_at before from)
    head = head_of (drop 1 (node_at before from)) (pos 0)

    begins : BeginAt before node from
    begins = record { within = within; leads = sym head; first = λ some e. first some (e ∙ head) }

    longer : (from < to) ⊎ (to ≤ from) → from < to
    longer (inl lt) = lt
    longer (inr le) =
        let e : to ≡ from = omega (arith, le, ordered) in
        absurd (ends (omega (arith, e, within)) (ap (λ (q : ℕ). drop 1 (node_at before q)) e))

-- where a group ends, the next begins
pub next_begins : (before : List (List ℤ)) (from to : ℕ) → IsGroup before from to → to < length before
    → drop 1 (node_at before (to - 1)) ≡ drop 1 (node_at before to) → ⊥
next_begins before from to is lt e = grind arith
