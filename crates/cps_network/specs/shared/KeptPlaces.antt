-- What is left of a stage and its labels where a test says at which places they are kept.
use Rattle.std.proofs.Common.{◌≡◌, ℕ, zero, suc, ◌<◌, List, ◌∷◌, length, get_or, map, Bool, true, false, refl, sym, ap}
use Rattle.std.proofs.Common.{[], subst, ◌∙◌, arith}
use Rattle.std.specs.Prelude.{ℤ, Contains, All, ◌↔◌}
use Rattle.std.specs.List.{AllZip}
use Rattle.std.proofs.lemmas.List.{get_or_default, get_or-map}
use Rattle.landing_rules.specs.Problem.{Problem}
use Rattle.cps_network.specs.Compacted.{kept_where}
use Rattle.cps_network.specs.Landable.{IsLandable, HoldsLandable, HasEachLandable}
use Rattle.cps_network.specs.Lists.{node_at}

pub length_kept : {A B : Type 0} (bs : List Bool) (xs : List A) (ys : List B) → length xs ≡ length ys
    → length (kept_where bs xs) ≡ length (kept_where bs ys)
length_kept [] xs ys e = refl
length_kept (b ∷ bs) [] [] e = refl
length_kept (b ∷ bs) [] (y ∷ ys) e = absurd (omega arith)
length_kept (b ∷ bs) (x ∷ xs) [] e = absurd (omega arith)
length_kept (true ∷ bs) (x ∷ xs) (y ∷ ys) e = ap suc (length_kept bs xs ys (omega arith))
length_kept (false ∷ bs) (x ∷ xs) (y ∷ ys) e = length_kept bs xs ys (omega arith)

-- the place from which a kept entry comes
pub record ComesAt {A B : Type 0} (bs : List Bool) (xs : List A) (ys : List B) (d : A) (e : B) (i : ℕ) : Type 0 where
  pub place : ℕ
  pub within : place < length xs
  pub kept : get_or bs place false ≡ true
  pub left : get_or (kept_where bs xs) i d ≡ get_or xs place d
  pub right : get_or (kept_where bs ys) i e ≡ get_or ys place e

later : {A B : Type 0} (b : Bool) (bs : List Bool) (x : A) (xs : List A) (y : B) (ys : List B) (d : A) (e : B) (i j : ℕ)
    → (c : ComesAt bs xs ys d e i)
    → get_or (kept_where (b ∷ bs) (x ∷ xs)) j d ≡ get_or (kept_where bs xs) i d
    → get_or (kept_where (b ∷ bs) (y ∷ ys)) j e ≡ get_or (kept_where bs ys) i e
    → ComesAt (b ∷ bs) (x ∷ xs) (y ∷ ys) d e j
later b bs x xs y ys d e i j c l r = record {
  place = suc c.place;
  within =
      (let w = c.within in omega arith);
  kept = c.kept;
  left = l ∙ c.left;
  right = r ∙ c.right;
}

pub comes_at : {A B : Type 0} (bs : List Bool) (xs : List A) (ys : List B) (d : A) (e : B) (i : ℕ)
    → length xs ≡ length ys → i < length (kept_where bs xs) → ComesAt bs xs ys d e i
comes_at [] xs ys d e i long lt = absurd (omega arith)
comes_at (b ∷ bs) [] ys d e i long lt = absurd (omega arith)
comes_at (b ∷ bs) (x ∷ xs) [] d e i long lt = absurd (omega arith)
comes_at (true ∷ bs) (x ∷ xs) (y ∷ ys) d e zero long lt = grind arith
comes_at (true ∷ bs) (x ∷ xs) (y ∷ ys) d e (suc i) long lt =
    grind (arith, later, (comes_at bs xs ys d e i (omega arith) (omega arith)))
comes_at (false ∷ bs) (x ∷ xs) (y ∷ ys) d e i long lt = grind (arith, later, (comes_at bs xs ys d e i (omega arith) lt))

pub stays_in : {A : Type 0} (bs : List Bool) (xs : List A) (j : ℕ) (x : A) → j < length xs
    → get_or bs j false ≡ true → get_or xs j x ≡ x → Contains (kept_where bs xs) x
stays_in bs [] j x lt b e = absurd (omega arith)
stays_in [] (y ∷ xs) j x lt b e = absurd (cc)
stays_in (true ∷ bs) (y ∷ xs) zero x lt b e = (0, omega arith, e)
stays_in (false ∷ bs) (y ∷ xs) zero x lt b e = absurd (cc)
stays_in (true ∷ bs) (y ∷ xs) (suc j) x lt b e = let c = stays_in bs xs j x (omega arith) b e in
    (suc c.0, (let l = c.1 in omega arith), c.2)
stays_in (false ∷ bs) (y ∷ xs) (suc j) x lt b e = stays_in bs xs j x (omega arith) b e

pub all_kept : {A : Type 0} (P : A → Type 0) (bs : List Bool) (xs : List A) → All P xs → All P (kept_where bs xs)
all_kept P bs xs all i d lt = let c = comes_at bs xs xs d d i refl lt in subst P (sym c.left) (all c.place d c.within)

-- the answers of a test, one for each entry
pub answers_are : {A : Type 0} (test : A → Bool) (Says : A → Bool → Type 0)
    → ((x : A) (b : Bool) → Says x b → b ≡ test x) → (xs : List A) (bs : List Bool) → AllZip Says xs bs
    → bs ≡ map test xs
answers_are test Says h [] [] z = refl
answers_are test Says h [] (b ∷ bs) z = absurd z
answers_are test Says h (x ∷ xs) [] z = absurd z
answers_are test Says h (x ∷ xs) (b ∷ bs) z = grind (arith, (answers_are test Says h xs bs z.1))

-- ---- the windows and the labels at the places whose label passes a test

module _ {A : Type 0} (test : A → Bool) (d : A) (windows : List (List ℤ)) (labels : List A)
    (one_each : length labels ≡ length windows) where
  answer_at : (i : ℕ) → i < length windows → get_or (map test labels) i false ≡ test (get_or labels i d)
  answer_at i lt = grind (arith, get_or-map)

  comes : (i : ℕ) → i < length (kept_where (map test labels) windows) → ComesAt (map test labels) windows labels [] d i
  comes i lt = grind (arith, comes_at)

  pub one_each_left : length (kept_where (map test labels) labels) ≡ length (kept_where (map test labels) windows)
  one_each_left = grind (arith, length_kept)

  -- what holds of each window and its label, holds of those that are left
  pub each_left : (P : List ℤ → A → Type 0) → ((i : ℕ) → i < length windows → P (node_at windows i) (get_or labels i d))
      → (i : ℕ) → i < length (kept_where (map test labels) windows)
      → P (node_at (kept_where (map test labels) windows) i) (get_or (kept_where (map test labels) labels) i d)
  each_left P all i lt =
      let c = comes i lt in grind arith

  -- where no landable window is missing, and the labels of the landable ones alone pass, those are left
  module _ (p : Problem) (stage : ℕ) (each : HasEachLandable p (stage, windows)) (passes : (i : ℕ)
      → i < length windows → (test (get_or labels i d) ≡ true) ↔ IsLandable p stage (node_at windows i)) where
    kept_landable : (xs : List ℤ) → Contains (kept_where (map test labels) windows) xs → IsLandable p stage xs
    kept_landable xs (i, lt, at) =
        let c = comes i lt in grind (arith, get_or_default, c.place, answer_at)

    landable_kept : (xs : List ℤ) → IsLandable p stage xs → Contains (kept_where (map test labels) windows) xs
    landable_kept xs l =
        let has = each xs l in
        let it : node_at windows has.0 ≡ xs = get_or_default windows has.0 [] xs has.1 ∙ has.2 in
        stays_in (map test labels) windows has.0 xs has.1 (answer_at has.0 has.1
        ∙ (passes has.0 has.1).1 (subst (IsLandable p stage) (sym it) l)) has.2

    pub landable_left : HoldsLandable p (stage, kept_where (map test labels) windows)
    landable_left = λ xs. (kept_landable xs, landable_kept xs)

-- what holds of a stage and its labels, where they are written otherwise
pub holds_as : {A : Type 0} (Holds : ℕ × List (List ℤ) → List A → Type 0) (s : ℕ) (stage : ℕ × List (List ℤ))
    (windows : List (List ℤ)) (labels after : List A) → stage.0 ≡ s → stage.1 ≡ windows → after ≡ labels
    → Holds (s, windows) labels → Holds stage after
holds_as {A} Holds s stage windows labels after e f h is = grind arith
