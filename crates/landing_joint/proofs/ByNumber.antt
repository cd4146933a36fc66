-- The waiting flights by rank, as numbers.
use Rattle.std.proofs.Common.{◌≡◌, ℕ, ◌<◌, ◌≤◌, ◌⊎◌, inl, inr, List, [], ◌∷◌, length, get_or, map, cond}
use Rattle.std.proofs.Common.{Bool, true, false, zero-le, arith, refl, sym, ap, ap₂, ◌∙◌}
use Rattle.std.specs.Prelude.{unwrap_or, Some, None, IsPermutation, slice_get}
use Rattle.std.specs.Ordering.{is_lt}
use Rattle.std.proofs.lemmas.Bool.{cases_Bool}
use Rattle.std.proofs.lemmas.List.Sorted.{IsPermutation-sym}
use Rattle.wake_table.specs.declared.category.Category.{Category}
use Rattle.landing_rules.specs.Flights.{Active, Situation, Landing}
use Rattle.landing_rules.specs.Rules.{arrival_cmp}
use Rattle.landing_rules.specs.Events.{in_landing_order, frozen_landings}
use Rattle.landing_rules.specs.shared.Counting.{Member}
use Rattle.landing_rules.specs.Problem as lists'
use Rattle.landing_rules.specs.Sound.{IsSound}
use Rattle.cps_theory.specs.RankLists.{In, Distinct, Ordered}
use Rattle.landing_joint.specs.Numbered.{numbered, numbers_of, comes_before, numbered_situation}
use Rattle.landing_joint.specs.ByNumber.{insert_number, numbers_by_rank}
use Rattle.landing_joint.proofs.Joint.{comes_is, first_come, frozen_each}
use Rattle.cps_theory.specs.laws.Members.{filter_in}
use Rattle.cps_theory.specs.laws.NumberedLists.{numbers_in}
use Rattle.landing_joint.specs.shared.Members.{frozen_member}
use Rattle.landing_rules.specs.shared.Members.{all_from, member_permutation}
use Rattle.landing_joint.specs.shared.Insertion.{insert_moves, sort_moves}
use Rattle.landing_joint.specs.shared.LandingsInOrder.{Rises, order_rises, order_member, member_order}

-- ---- sorting

abbrev earlier : List Active → ℕ → ℕ → Bool
earlier all j i = is_lt (arrival_cmp (numbered all j).flight (numbered all i).flight)

insert_in : (all : List Active) (i x : ℕ) (js : List ℕ) → In x (insert_number all i js) → (x ≡ i) ⊎ In x js
insert_in all i x js = member_permutation _ _ x (IsPermutation-sym (i ∷ js) (insert_number all i js)
    (insert_moves _ (insert_number all) (λ y. refl) (λ y z zs. refl) i js))

pub sorted_permutes : (all : List Active) (js : List ℕ) → IsPermutation js (numbers_by_rank all js)
sorted_permutes all = sort_moves _ (insert_number all) (λ y. refl) (λ y z zs. refl) _ refl (λ y ys. refl)

pub sorted_in : (all : List Active) (x : ℕ) (js : List ℕ) → In x (numbers_by_rank all js) → In x js
sorted_in all x js = member_permutation _ js x (IsPermutation-sym js (numbers_by_rank all js) (sorted_permutes all js))

pub in_sorted : (all : List Active) (x : ℕ) (js : List ℕ) → In x js → In x (numbers_by_rank all js)
in_sorted all x js = member_permutation js _ x (sorted_permutes all js)

-- the flights of the numbers by rank are the flights by rank
map_insert : (all : List Active) (i : ℕ) (js : List ℕ)
    → map (numbered all) (insert_number all i js) ≡ lists'.insert_by_rank (numbered all i) (map (numbered all) js)
map_insert all i [] = refl
map_insert all i (j ∷ js) = grind (arith, cases_Bool, map_insert all i js)

pub map_sorted : (all : List Active) (js : List ℕ)
    → map (numbered all) (numbers_by_rank all js) ≡ lists'.by_rank (map (numbered all) js)
map_sorted all [] = refl
map_sorted all (j ∷ js) = map_insert all j _ ∙ ap (lists'.insert_by_rank (numbered all j)) (map_sorted all js)

module _ (s : Situation) (sound : IsSound s) where
  insert_ordered : (i : ℕ) (js : List ℕ) → In i (numbers_of s.active) → ((j : ℕ) → In j js → In j (numbers_of s.active))
      → (In i js → ⊥) → Ordered (comes_before s.active) js
      → Ordered (comes_before s.active) (insert_number s.active i js)
  insert_ordered i [] mi mj new o = (λ y k. absurd k, tt)
  insert_ordered i (j ∷ js) mi mj new o =
      go _
      (comes_is s sound j i (mj j (inl refl)) mi) (insert_ordered i js mi (λ k m. mj k (inr m)) (λ m. new (inr m)) o.1)
    where
      go : (b : Bool) → comes_before s.active j i ≡ b → Ordered (comes_before s.active) (insert_number s.active i js)
          → Ordered (comes_before s.active) (cond b (j ∷ insert_number s.active i js) (i ∷ j ∷ js))
      go true e ih = grind (arith, insert_in)
      go false e ih =
          let ij : comes_before s.active i j ≡ true = (first_come s.active).total j i (λ q. new (inl (sym q))) e in (
            λ y k. elim k [
              | inl q ↦ rw q ij
              | inr m ↦ (first_come s.active).chain i j y ij (o.0 y m)
            ],
            o,
          )

  pub sorted_ordered : (js : List ℕ) → ((j : ℕ) → In j js → In j (numbers_of s.active)) → Distinct js
      → Ordered (comes_before s.active) (numbers_by_rank s.active js)
  sorted_ordered [] mj d = tt
  sorted_ordered (j ∷ js) mj d = grind (arith, insert_ordered, sorted_in, sorted_ordered js)

-- ---- reads

pub slice_map : (all : List Active) (js : List ℕ) (i : ℕ) (d : ℕ) → i < length js
    → slice_get (map (numbered all) js) i ≡ Some (numbered all (get_or js i d))
slice_map all [] i d lt = grind arith
slice_map all (j ∷ js) i d lt = grind (arith, slice_map all js)

-- ---- the last of the frozen

-- the last of landings in order: there is none, or it is one that no other is later than
last_rises : (fs : List Landing) → Rises fs → (fs ≡ [])
    ⊎ ((f : Landing) × Member f fs × (lists'.last_of fs ≡ Some (f.second, f.flight.category))
    × ((g : Landing) → Member g fs → g.second ≤ f.second))
last_rises [] r = inl refl
last_rises (f ∷ []) r = inr (
  f,
  inl refl,
  refl,
  λ g m. elim m [
    | inl e ↦ (omega (arith, ap (λ (y : Landing). y.second) e))
    | inr k ↦ absurd k
  ],
)
last_rises (f ∷ x ∷ fs) r = elim (last_rises _ r.1) [
  | inl e ↦ absurd (cons_nil x fs e)
  | inr w ↦ grind arith
]
  where
    cons_nil : (x : Landing) (fs : List Landing) → ◌≡◌ {A = List Landing} (x ∷ fs) [] → ⊥
    cons_nil x fs e = cc

module _ (s : Situation) (sound : IsSound s) where
  -- the one frozen flight that lands last, or none
  pub last_frozen_is : ((lists'.last_of (in_landing_order (frozen_landings s)) ≡ None)
      × ((i : ℕ) → In i (numbered_situation s).frozen → ⊥))
      ⊎ ((i : ℕ) × In i (numbered_situation s).frozen
      × (lists'.last_of (in_landing_order (frozen_landings s)) ≡ Some (
        (numbered_situation s).frozen_at i,
        (numbered s.active i).flight.category,
      )) × ((j : ℕ) → In j (numbered_situation s).frozen
      → (numbered_situation s).frozen_at j ≤ (numbered_situation s).frozen_at i))
  last_frozen_is =
      let fl = frozen_landings s in
      elim (last_rises _ (order_rises fl)) [
        | inl e ↦ inl (
          ap lists'.last_of e,
          λ i m. frozen_each s sound (λ g. ⊥) (all_from _ fl (λ g k. rw e at (member_order g fl k))) i m,
        )
        | inr w ↦
            (let v = frozen_member w.0 _ (order_member w.0 fl w.1) in
            let i = v.0 in
            let m = filter_in _ i _ (numbers_in 0 (length s.active) i zero-le (omega arith)) (cc) in
            let at = ap (λ o. unwrap_or o 0) v.3 in
            let sec = ap (λ (g : Landing). g.second) v.4 ∙ sym at in
            inr (
              i,
              m,
              w.2 ∙ ap₂ (λ (x : ℕ) (y : Category). Some (x, y)) sec (ap (λ (g : Landing). g.flight.category) v.4),
              λ j k. rw sec at (frozen_each s sound (λ g. g.second ≤ w.0.second)
                  (all_from _ fl (λ g k. w.3 g (member_order g fl k))) j k),
            ))
      ]
