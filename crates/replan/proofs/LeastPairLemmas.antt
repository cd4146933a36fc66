-- The least of the pairs of each node, a window at a time.
use Rattle.std.proofs.lemmas.Grind.{common_steps}
use Rattle.std.proofs.Common.{rules}
use Rattle.std.proofs.Common.{◌≡◌, ℕ, ◌+◌, ◌-◌, ◌<◌, ◌≤◌, ◌⊎◌, inl, inr, List, [], ◌∷◌, ◌++◌, length, map}
use Rattle.std.proofs.Common.{set, take, drop, min, Bool, refl, sym, ap, ap₂, ◌∙◌, arith}
use Rattle.std.specs.Prelude.{nat_lt, slice_index}
use Rattle.std.proofs.lemmas.Bool.{cases_eq}
use Rattle.std.proofs.Math.Seq.{take-append_seam}
use Rattle.std.proofs.lemmas.List.{get_or-map, get_or-set_other, get_or-set_same, length-map, length-set}
use Rattle.cps_theory.specs.Labels.{Pair}
use Rattle.cps_theory.specs.UndominatedPairs.{Staircase}
use Rattle.cps_network.specs.Pairs.{list_at, pair_at}
use Rattle.cps_network.specs.shared.PairSteps.{at_in}
use Rattle.makespan_labels.specs.LabelPairs.{label_pairs, column_pairs, pair_if}
use Rattle.makespan_labels.specs.shared.LabelPairs.{list_of_label}
use Rattle.replan.specs.Labels.{last_pair}
use Rattle.replan.specs.shared.LastPairs.{first_least, last_cheapest}
use Rattle.replan.specs.WindowNodes.{extremes, lesser, told_at, AreLeastOf, AreLeastUpto, HaveLeast, IsPairAt}
use Rattle.replan.specs.WindowNodes.{WindowNodes}

-- ---- one window more

min_right : (a b : ℕ) {c : ℕ} → b ≡ c → c < a → min a b ≡ c
min_right a b e lt = grind (arith, e, lt)

min_none : (a b : ℕ) → a ≡ 0 → min a b ≡ 0
min_none a b e = grind (arith, e)

min_is : (a b : ℕ) → (min a b ≡ a) × (a ≤ b) ⊎ (min a b ≡ b) × (b ≤ a)
min_is a b = grind arith

-- of a part of the pairs, the second or the cost: so far no window has a lesser one than its node, and each node has
-- that of one of its windows
module _ (lists : List (List Pair)) (places firsts : List ℕ) (part : Pair → ℕ) where
  abbrev IsLow : ℕ → List Pair → Type 0
  IsLow count least = (i : ℕ) → i < count → part (pair_at least (told_at places i)) ≤ part (extremes (list_at lists i))

  abbrev IsReached : List Pair → Type 0
  IsReached least = (j : ℕ) → j < length firsts → (i : ℕ) × (i < length places) × (told_at places i ≡ j)
      × (part (pair_at least j) ≡ part (extremes (list_at lists i)))

  one_low : (count : ℕ) (least : List Pair) → IsLow count least
      → part (pair_at least (told_at places count)) ≤ part (extremes (list_at lists count)) → IsLow (count + 1) least
  one_low count least low here i less = search (rules, cases_eq, here)

module _ (lists : List (List Pair)) (places firsts : List ℕ) (count : ℕ) (least : List Pair)
    (a : AreLeastUpto lists places firsts count least) (lt : count < length places)
    (within : told_at places count < length firsts) where
  abbrev place : ℕ
  place = told_at places count

  abbrev here : Pair
  here = extremes (list_at lists count)

  abbrev new : Pair
  new = lesser (pair_at least place) here

  abbrev after : List Pair
  after = set least place new

  now : pair_at after place ≡ new
  now = get_or-set_same least place new (0, 0) (let e = a.one_each in omega arith)

  module _ (part : Pair → ℕ) (is : part new ≡ min (part (pair_at least place)) (part here)) where
    there : part (pair_at after place) ≡ min (part (pair_at least place)) (part here)
    there = ap part now ∙ is

    falls : (j : ℕ) → part (pair_at after j) ≤ part (pair_at least j)
    falls j = search (rules, cases_eq, place, after, there, get_or-set_other)

    low_after : IsLow lists places firsts part count least → IsLow lists places firsts part (count + 1) after
    low_after low = search (rules, one_low, after, falls, there)

    reached_after : IsReached lists places firsts part least → IsReached lists places firsts part after
    reached_after reached j inside =
        let s = reached j inside in
        elim (cases_eq j place) [
          | inl e ↦
              let at = ap (λ m. part (pair_at after m)) e ∙ there in
              elim (min_is (part (pair_at least place)) (part here)) [
                | inl old ↦ (s.0, s.1, s.2, at ∙ old.0 ∙ ap (λ m. part (pair_at least m)) (sym e) ∙ s.3)
                | inr fresh ↦ (count, lt, sym e, at ∙ fresh.0)
              ]
          | inr ne ↦ (s.0, s.1, s.2, ap part (get_or-set_other least place j new (0, 0) ne) ∙ s.3)
        ]

  pub one_least : AreLeastUpto lists places firsts (count + 1) after
  one_least = record {
    one_each = length-set least place new ∙ a.one_each;
    early = low_after (λ q. q.0) refl a.early;
    cheap = low_after (λ q. q.1) refl a.cheap;
    earliest = reached_after (λ q. q.0) refl a.earliest;
    cheapest = reached_after (λ q. q.1) refl a.cheapest;
  }

  -- where the next window lowers nothing
  pub none_lower : (pair_at least place).0 ≤ here.0 → (pair_at least place).1 ≤ here.1
      → AreLeastUpto lists places firsts (count + 1) least
  none_lower early cheap = search (rules, one_low)

-- ---- where all are written through a slice

pub as_written : (part items : List Pair) (n : ℕ) → n ≡ length part → take n (part ++ drop (length part) items) ≡ part
as_written part items n e = ap (λ m. take m (part ++ drop (length part) items)) e ∙ take-append_seam part _

-- ---- of a column, where nothing costs anything

cost_of_label : (known : Bool) (label : ℕ) → (extremes (pair_if known label)).1 ≡ 0
cost_of_label known label = grind (arith, common_steps)

second_of_label : (known : Bool) (label : ℕ) → 0 < length (pair_if known label)
    → (extremes (pair_if known label)).0 ≡ label
second_of_label known label some = grind (arith, common_steps)

module _ (column : List ℕ) (i : ℕ) (lt : i < length column) where
  pub column_cost : (extremes (list_at (column_pairs column) i)).1 ≡ 0
  column_cost = search (rules, list_of_label, cost_of_label, nat_lt, slice_index)

  pub column_second : 0 < length (list_at (column_pairs column) i)
      → (extremes (list_at (column_pairs column) i)).0 ≡ slice_index column i
  column_second some = search (rules, list_of_label, second_of_label, nat_lt)

module _ (column : List ℕ) (nodes : WindowNodes) (h : HaveLeast (column_pairs column) nodes)
    (count : ℕ) (least : List Pair) (a : AreLeastUpto (column_pairs column) nodes.places nodes.firsts count least) where
  lists : List (List Pair)
  lists = column_pairs column

  inside : (i : ℕ) → i < length nodes.places → i < length column
  inside i lt = let l = h.long in let m = length-map column label_pairs in omega arith

  -- so far each costs nothing
  pub free_so_far : (j : ℕ) → j < length nodes.firsts → (pair_at least j).1 ≡ 0
  free_so_far j lt = let s = a.cheapest j lt in s.3 ∙ column_cost column s.0 (inside s.0 s.1)

  module _ (lt : count < length nodes.places) where
    abbrev pub label : ℕ
    label = slice_index column count

    second : (extremes (list_at (column_pairs column) count)).0 ≡ label
    second = column_second column count (inside count lt) (h.some count (let l = h.long in omega arith))

    cost : (extremes (list_at (column_pairs column) count)).1 ≡ 0
    cost = column_cost column count (inside count lt)

    within : told_at nodes.places count < length nodes.firsts
    within = h.within count lt

    -- a label that is less takes the place
    pub less_label : label < (pair_at least (told_at nodes.places count)).0
        → AreLeastUpto (column_pairs column) nodes.places nodes.firsts (count + 1)
        (set least (told_at nodes.places count) (label, 0))
    less_label less =
        let one = one_least (column_pairs column) nodes.places nodes.firsts count least a lt within in
        let new : lesser (pair_at least (told_at nodes.places count))
        (extremes (list_at (column_pairs column) count)) ≡ (label, 0) =
        ap₂ (λ x y. (x, y)) (min_right _ _ second less) (min_none _ _ (free_so_far _ within)) in
        rw new at one

    -- and any other changes nothing
    pub other_label : (pair_at least (told_at nodes.places count)).0 ≤ label
        → AreLeastUpto (column_pairs column) nodes.places nodes.firsts (count + 1) least
    other_label le = search (rules, free_so_far, within, none_lower, second)

-- ---- seconds of the two days

pub days_none : (m j : ℕ) → (pair_at [] j).0 ≤ m
days_none m j = grind (arith, common_steps)

pub days_push : (xs : List Pair) (q : Pair) (m : ℕ) → ((j : ℕ) → (pair_at xs j).0 ≤ m) → q.0 ≤ m
    → (j : ℕ) → (pair_at (xs ++ q ∷ []) j).0 ≤ m
days_push xs q m h l given = grind (arith, common_steps)

pub days_set : (xs : List Pair) (i : ℕ) (q : Pair) (m : ℕ) → ((j : ℕ) → (pair_at xs j).0 ≤ m)
    → q.0 ≤ m → (j : ℕ) → (pair_at (set xs i q) j).0 ≤ m
days_set xs i q m h l j = grind (arith, common_steps)

-- ---- all windows

module _ (lists : List (List Pair)) (nodes : WindowNodes) (h : HaveLeast lists nodes) where
  -- the first window of each node stands for it
  pub first_leasts : (least : List Pair) → least ≡ map (λ i. extremes (list_at lists i)) nodes.firsts
      → AreLeastUpto lists nodes.places nodes.firsts 0 least
  first_leasts least e = record {
    one_each = ap length e ∙ length-map nodes.firsts (λ i. extremes (list_at lists i));
    early = λ i lt. absurd (omega (arith, lt));
    cheap = λ i lt. absurd (omega (arith, lt));
    earliest = own (λ q. q.0);
    cheapest = own (λ q. q.1);
  }
    where
      own : (part : Pair → ℕ) → IsReached lists nodes.places nodes.firsts part least
      own part j lt = (
        told_at nodes.firsts j,
        h.first j lt,
        h.own j lt,
        ap (λ (qs : List Pair). part (pair_at qs j)) e
            ∙ ap part (get_or-map (λ i. extremes (list_at lists i)) nodes.firsts j 0 (0, 0) lt),
      )

  falling_at : (i : ℕ) → i < length nodes.places → Staircase (list_at lists i)
  falling_at i lt = h.falling i (let l = h.long in omega arith)

  -- the pair of a window at an index
  pair_there : (i j index : ℕ) → i < length nodes.places → told_at nodes.places i ≡ j
      → (0 < length (list_at lists i) → index < length (list_at lists i))
      → IsPairAt lists nodes.places j (pair_at (list_at lists i) index)
  pair_there i j index lt of_node listed = search (rules, within, at_in)

  pub all_least : (least : List Pair) → AreLeastUpto lists nodes.places nodes.firsts (length nodes.places) least
      → AreLeastOf lists nodes least
  all_least least a = record {
    one_each = a.one_each;
    each = λ j lt. record {
      early = λ q is.
          let b = a.early is.window is.within in
          let c = first_least (list_at lists is.window) (falling_at is.window is.within) q is.has in
          let e = ap (λ (m : ℕ). (pair_at least m).0) is.of_node in
          omega (arith, b, c, e);
      cheap = λ q is.
          let b = a.cheap is.window is.within in
          let c = last_cheapest (list_at lists is.window) (falling_at is.window is.within) q is.has in
          let e = ap (λ (m : ℕ). (pair_at least m).1) is.of_node in
          omega (arith, b, c, e);
      earliest = (let s = a.earliest j lt in (_, pair_there s.0 j 0 s.1 s.2 (λ some. some), sym s.3));
      cheapest = (let s = a.cheapest j lt in (
        last_pair (list_at lists s.0),
        pair_there s.0 j (length (list_at lists s.0) - 1) s.1 s.2 (λ some. omega (arith, some)),
        sym s.3,
      ));
    };
  }
