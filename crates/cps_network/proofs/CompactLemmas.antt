-- To keep some places of a list in place, step by step.
use Rattle.std.proofs.Common.{[], rules, ◌≡◌, ℕ, zero, ◌+◌, ◌<◌, ◌≤◌, List, ◌∷◌, ◌++◌, length, drop, take, get_or, refl}
use Rattle.std.proofs.Common.{arith, length-append, append-nil, add-one, ◌∙◌, sym, ap, ap₂, suc}
use Rattle.std.specs.Prelude.{Bool, true, false, ◌⊎◌, replicate, Option}
use Rattle.std.specs.List.{AllZip, swap}
use Rattle.std.proofs.Math.ListN.{set}
use Rattle.std.proofs.Math.Seq.{take-suc, take-suc-set}
use Rattle.std.proofs.lemmas.Bool.Decides.{nat_tests}
use Rattle.std.proofs.lemmas.List.{drop-set-lt, take-set, take-set-le, drop-drop, get_or-drop, length-take-le}
use Rattle.std.proofs.lemmas.List.Edits.{swap_is, length-swap}
use Rattle.cps_network.specs.Compacted.{kept_where, whole_or_left}

-- the first kept places hold what is kept of the first i, and the places from i on are as they were
pub record IsCompacting {A : Type 0} (old now : List A) (answers : List Bool) (kept i : ℕ) : Type 0 where
  pub within : kept ≤ i
  pub end : i ≤ length old
  pub len : length now ≡ length old
  pub long : length answers ≡ i
  pub front : take kept now ≡ kept_where answers (take i old)
  pub rest : drop i now ≡ drop i old

kept_where-push : {A : Type 0} (bs : List Bool) (xs : List A) (b : Bool) (x : A) → length bs ≡ length xs
    → kept_where (bs ++ b ∷ []) (xs ++ x ∷ []) ≡ kept_where bs xs ++ kept_where (b ∷ []) (x ∷ [])
kept_where-push [] [] b x e = refl
kept_where-push [] (y ∷ xs) b x e = absurd (omega arith)
kept_where-push (c ∷ bs) [] b x e = absurd (omega arith)
kept_where-push (true ∷ bs) (y ∷ xs) b x e = grind (arith, (kept_where-push bs xs b x (omega arith)))
kept_where-push (false ∷ bs) (y ∷ xs) b x e = kept_where-push bs xs b x (omega arith)

pub zip_push : {A B : Type 0} (R : A → B → Type 0) (xs : List A) (ys : List B) (x : A) (y : B)
    → AllZip R xs ys → R x y → AllZip R (xs ++ x ∷ []) (ys ++ y ∷ [])
zip_push R [] [] x y all one = (one, all)
zip_push R [] (v ∷ ys) x y all one = absurd all
zip_push R (u ∷ xs) [] x y all one = absurd all
zip_push R (u ∷ xs) (v ∷ ys) x y all one = (all.0, zip_push R xs ys x y all.1 one)

-- the answers so far, with one more
pub zip_more : {A : Type 0} (R : A → Bool → Type 0) (old : List A) (answers : List Bool) (i : ℕ) (b : Bool) (d : A)
    → i < length old
    → AllZip R (take i old) answers → R (get_or old i d) b → AllZip R (take (i + 1) old) (answers ++ b ∷ [])
zip_more {A} R old answers i b d lt all one = grind (arith, take-suc, zip_push)

-- what stands at the next place is as it was
pub next_same : {A : Type 0} (old now : List A) (answers : List Bool) (kept i : ℕ) (d : A)
    → IsCompacting old now answers kept i → get_or now i d ≡ get_or old i d
next_same {A} old now answers kept i d is =
    let z : i + 0 ≡ i = omega arith in grind (arith, get_or-drop)

rest_more : {A : Type 0} (old now : List A) (i : ℕ) → drop i now ≡ drop i old → drop (i + 1) now ≡ drop (i + 1) old
rest_more {A} old now i e = grind (arith, drop-drop 1 i now, drop-drop 1 i old)

-- a place that is not kept
pub skipped : {A : Type 0} (old now : List A) (answers : List Bool) (kept i : ℕ) (d : A) → i < length old
    → IsCompacting old now answers kept i
    → IsCompacting old now (answers ++ false ∷ []) kept (i + 1)
skipped {A} old now answers kept i d lt is =
    let here : length answers ≡ length (take i old) = is.long ∙ sym (length-take-le i old is.end) in
    record {
      within = omega (arith, is.within);
      end = omega arith;
      len = is.len;
      long = grind (arith, length-append);
      front = grind (
        arith,
        append-nil,
        kept_where-push answers (take i old) false (get_or old i d) here,
        take-suc old i d lt,
      );
      rest = rest_more old now i is.rest;
    }

split : (a b : ℕ) → a ≤ b → (a < b) ⊎ (a ≡ b)
split a b h = grind (arith, nat_tests)

-- the front after a swap
front_swapped : {A : Type 0} (now : List A) (kept i : ℕ) (d : A) → kept ≤ i → i < length now
    → take (suc kept) (swap now kept i) ≡ take kept now ++ get_or now i d ∷ []
front_swapped {A} now kept i d le lt =
    let is : set (set now kept (get_or now i d)) i (get_or now kept d) ≡ swap now kept i =
    swap_is now kept i d (omega arith) lt in search (rules, split, take-set-le, take-suc-set, take-set)

rest_swapped : {A : Type 0} (now : List A) (kept i : ℕ) (d : A) → kept ≤ i → i < length now
    → drop (i + 1) (swap now kept i) ≡ drop (i + 1) now
rest_swapped {A} now kept i d le lt = grind (arith, drop-set-lt)

-- a place that is kept, and is brought to the front
pub brought : {A : Type 0} (old now after : List A) (answers : List Bool) (kept i : ℕ) (d : A)
    → i < length old → IsCompacting old now answers kept i
    → after ≡ swap now kept i → IsCompacting old after (answers ++ true ∷ []) (kept + 1) (i + 1)
brought {A} old now after answers kept i d lt is e =
    let here : length answers ≡ length (take i old) = is.long ∙ sym (length-take-le i old is.end) in
    let lt' : i < length now = omega (arith, is.len) in
    record {
      within = omega (arith, is.within);
      end = omega arith;
      len = ap length e ∙ length-swap now kept i ∙ is.len;
      long = grind (arith, length-append);
      front = ap₂ take (add-one kept) e ∙ front_swapped now kept i d is.within lt'
          ∙ ap₂ (λ (zs : List A) (z : A). zs ++ z ∷ []) is.front (next_same old now answers kept i d is)
          ∙ sym (kept_where-push answers (take i old) true (get_or old i d) here)
          ∙ ap (kept_where (answers ++ true ∷ [])) (sym (ap (λ (n : ℕ). take n old) (add-one i) ∙ take-suc old i d lt));
      rest = grind (arith, rest_swapped, rest_more);
    }

pub IsCompacting-start : {A : Type 0} (old : List A) → IsCompacting old old [] 0 0
IsCompacting-start old = grind arith

-- ---- where each place is kept

pub all_as_they_were : {A : Type 0} (n : ℕ) (xs : List A) → length xs ≤ n → kept_where (replicate n true) xs ≡ xs
all_as_they_were zero [] le = refl
all_as_they_were zero (x ∷ xs) le = absurd (omega arith)
all_as_they_were (suc n) [] le = refl
all_as_they_were {A} (suc n) (x ∷ xs) le = grind (arith, (all_as_they_were n xs (omega arith)))

-- ---- where what is left is written to

-- what is kept of a list that was copied from a whole, where there is one
pub kept_of_whole : {V B : Type 0} (inside : V → List B) (whole taken : Option V) (left copied now : List B)
    (answers : List Bool) → taken ≡ whole
    → copied ≡ whole_or_left taken inside left → now ≡ kept_where answers copied
    → now ≡ kept_where answers (whole_or_left whole inside left)
kept_of_whole inside whole taken left copied now answers e is kept =
    kept ∙ ap (kept_where answers) (is ∙ ap (λ w. whole_or_left w inside left) e)
