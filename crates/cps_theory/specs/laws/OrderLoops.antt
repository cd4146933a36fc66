-- A loop over a landing order: the front so far, reversed, is a landing trail, and one more flight lands behind it or
-- nowhere.
use Rattle.std.proofs.Common.{◌≡◌, ◌≢◌, ℕ, ◌+◌, ◌-◌, ◌<◌, ◌≤◌, inl, inr, List, [], ◌∷◌, ◌++◌, length, take, drop}
use Rattle.std.proofs.Common.{reverse, get_or, set, Option, Some, None, option_and_then, option_map, All, arith, refl}
use Rattle.std.proofs.Common.{sym, ap, ap₂, ◌∙◌}
use Rattle.std.proofs.lemmas.List.{take_more, reverse-append, take-append-drop, get_or-set_other, get_or-set_same}
use Rattle.std.proofs.lemmas.List.Elements.{recursion_from_All, All-take}
use Rattle.std.proofs.lemmas.List.Sorted.{All-permutation, IsPermutation-reverse}
use Rattle.std.specs.List.{AllByRecursion}
use Rattle.cps_theory.specs.RankLists.{Distinct, In}
use Rattle.cps_theory.specs.Separation.{Landing}
use Rattle.cps_theory.specs.LandingTrail.{latest_landing}
use Rattle.cps_theory.specs.Feasible.{at_seconds, earliest}

-- with one more flight, the front reversed has it at its head
pub front_more : (order : List ℕ) (i d : ℕ) → i < length order
    → reverse (take (i + 1) order) ≡ get_or order i d ∷ reverse (take i order)
front_more order i d lt = ap reverse (take_more _ i d lt) ∙ reverse-append (take i _) _

-- the whole, around the flight at i
pub front_whole : (order : List ℕ) (i d : ℕ) → i < length order → reverse order ≡ reverse (drop (i + 1) order)
    ++ get_or order i d ∷ reverse (take i order)
front_whole order i d lt =
    ap reverse (sym (take-append-drop _ order)) ∙ reverse-append (take (i + 1) _) _
    ∙ ap (λ l. reverse (drop (i + 1) order) ++ l) (front_more _ i d lt)

pub distinct_behind : (front : List ℕ) (r : ℕ) (rs : List ℕ) → Distinct (front ++ r ∷ rs) → In r rs → ⊥
distinct_behind [] r rs d i = d.0 i
distinct_behind (x ∷ front) r rs d i = distinct_behind front r rs d.1 i

-- the flight at i is none of those before it
pub front_new : (order : List ℕ) (i d : ℕ) → i < length order → Distinct (reverse order)
    → In (get_or order i d) (reverse (take i order)) → ⊥
front_new order i d lt differ j = distinct_behind _ _ _ (rw (front_whole _ i d lt) at differ) j

module _ (first : ℕ → ℕ → Option ℕ) (after : ℕ → ℕ → ℕ → ℕ) where
  pub earliest_more : (r u : ℕ) (rs : List ℕ) (xs : List Landing) → earliest first after rs ≡ Some xs
      → first r (after (latest_landing xs).0 (latest_landing xs).1 r) ≡ Some u
      → earliest first after (r ∷ rs) ≡ Some ((r, u) ∷ xs)
  earliest_more r u rs xs e f = cc

  pub earliest_stops : (r : ℕ) (rs : List ℕ) (xs : List Landing) → earliest first after rs ≡ Some xs
      → first r (after (latest_landing xs).0 (latest_landing xs).1 r) ≡ None → earliest first after (r ∷ rs) ≡ None
  earliest_stops r rs xs e f = cc

  pub earliest_none : (front rs : List ℕ) → earliest first after rs ≡ None → earliest first after (front ++ rs) ≡ None
  earliest_none [] rs e = e
  earliest_none (x ∷ front) rs e = ap (option_and_then (λ ys. option_map _ _)) (earliest_none front rs e)

  -- so a flight of the order without a second leaves the whole order without
  pub earliest_stops_at : (order : List ℕ) (i d : ℕ) (xs : List Landing) → i < length order
      → earliest first after (reverse (take i order)) ≡ Some xs
      → first (get_or order i d) (after (latest_landing xs).0 (latest_landing xs).1 (get_or order i d)) ≡ None
      → earliest first after (reverse order) ≡ None
  earliest_stops_at order i d xs lt e f =
      ap (earliest first after) (front_whole _ i d lt) ∙ earliest_none (reverse (drop _ order)) _
      (earliest_stops _ (reverse (take i _)) xs e f)

-- a write at another rank leaves the landings
pub at_seconds_set : (into : List ℕ) (r u : ℕ) (rs : List ℕ) → 1 ≤ r → (In r rs → ⊥) → ((x : ℕ) → In x rs → 1 ≤ x)
    → at_seconds (λ x. get_or (set into (r - 1) u) (x - 1) 0) rs ≡ at_seconds (λ x. get_or into (x - 1) 0) rs
at_seconds_set into r u [] one out ones = refl
at_seconds_set into r u (x ∷ rs) one out ones =
    let ox = ones x (inl refl) in
    let ne : x - 1 ≢ r - 1 = λ e. out (inl (omega arith)) in
    ap₂ (λ t xs. (x, t) ∷ xs) (get_or-set_other _ _ _ u 0 ne)
    (at_seconds_set _ r u rs one (λ i. out (inr i)) (λ y i. ones y (inr i)))

pub in_all : (P : ℕ → Type 0) (x : ℕ) (xs : List ℕ) → AllByRecursion P xs → In x xs → P x
in_all P x [] a i = absurd i
in_all P x (y ∷ ys) a i = grind (arith, in_all P x ys)

pub in_reverse_take : (P : ℕ → Type 0) (order : List ℕ) → All P order → (i x : ℕ) → In x (reverse (take i order)) → P x
in_reverse_take P order all i x h = in_all P x _ (recursion_from_All P _ (All-permutation P _ _
    (IsPermutation-reverse _) (All-take P i _ all))) h

-- the landings so far, after the write at the next flight's rank
pub seconds_more : (into order : List ℕ) (i u : ℕ) → i < length order → All (λ r. (1 ≤ r) × (r ≤ length into)) order
    → Distinct (reverse order) → at_seconds (λ x. get_or (set into (get_or order i 0 - 1) u) (x - 1) 0)
    (reverse (take (i + 1) order)) ≡ (get_or order i 0, u) ∷ at_seconds (λ x. get_or into (x - 1) 0)
    (reverse (take i order))
seconds_more into order i u lt ranked differ =
    let r = get_or order i 0 in
    let here = ranked i 0 lt in
    ap (at_seconds (λ x. get_or (set _ _ u) (x - 1) 0)) (front_more _ i 0 lt)
    ∙ ap₂ (λ t xs. (r, t) ∷ xs) (get_or-set_same into _ u 0 (omega (arith, here.0, here.1)))
    (at_seconds_set _ r u _ here.0 (front_new _ i 0 lt differ)
    (λ x j. (in_reverse_take (λ r. (1 ≤ r) × (r ≤ length into)) _ ranked i x j).0))
