-- One load more.
use Rattle.std.proofs.lemmas.Grind.{common_steps}
use Rattle.std.proofs.Common.{◌≡◌, ◌⊎◌, inl, inr, ℕ, ◌+◌, ◌<◌, ◌≤◌, List, [], ◌∷◌, ◌++◌, length, take, drop, map}
use Rattle.std.proofs.Common.{String, Global, string_bytes, IsTrue, ap, sym, ◌∙◌, arith, append_assoc}
use Rattle.std.proofs.Common.{take-append-drop}
use Rattle.std.specs.List.{AllByRecursion}
use Rattle.std.proofs.lemmas.List.{take_more, get_or-map, length-map}
use Rattle.std.specs.Prelude.{slice_index_or}
use Rattle.cps_base.specs.Limits.{most_bytes}
use Rattle.cps_outside.specs.Causes.{Rose}
use Rattle.cps_outside.specs.FolderState.{FolderState, IsAfterLoad, IsAbsent, Gives, Exceeds}
use Rattle.endings.specs.Loads.{Loads, StopsAt, FailsAt, IsTooLongAt, AsksForSome}

pub all-append : {X : Type 0} (P : X → Type 0) (xs : List X) (y : X) → AllByRecursion P xs
    → P y → AllByRecursion P (xs ++ y ∷ [])
all-append P xs y all last = grind (arith, common_steps)

-- the names up to the next one
pub next_name : (names : List (String Global)) (i : ℕ) (s : String Global) (t : List ℕ) → i < length names
    → s ≡ slice_index_or names i s → t ≡ string_bytes s →
    take (i + 1) (map string_bytes names) ≡ take i (map string_bytes names) ++ t ∷ []
next_name names i s t lt is same =
    let inside : i < length (map string_bytes names) = grind (arith, length-map) in
    let at : slice_index_or (map string_bytes names) i t ≡ t =
    get_or-map string_bytes names i s t lt ∙ ap string_bytes (sym is) ∙ sym same in
    take_more (map string_bytes names) i t inside ∙ ap (λ n. take i (map string_bytes names) ++ n ∷ []) at

pub is_name : (names : List (String Global)) (i : ℕ) → i < length names → i < length (map string_bytes names)
is_name names i lt = grind (arith, length-map)

-- no name is left
pub all_loaded : (old new : FolderState) (names : List (String Global)) (cs : List (List ℕ)) (i : ℕ)
    → length names ≤ i → Loads old new (take i (map string_bytes names)) cs → Loads old new (map string_bytes names) cs
all_loaded old new names cs i end l = grind (arith, common_steps)

pub asked_unless : {A B C : Type 0} → A ⊎ (B × C) → (B → ⊥) → A
asked_unless given never = grind arith

pub loads_more : (old mid new : FolderState) (ns cs : List (List ℕ)) (i : ℕ) (name bytes : List ℕ) →
    Loads old mid (take i ns) cs → IsAfterLoad mid new → take (i + 1) ns ≡ take i ns ++ name ∷ [] →
    (IsTrue mid.tells → new.asked ≡ mid.asked ++ name ∷ []) → Gives mid new name most_bytes bytes →
    Loads old new (take (i + 1) ns) (cs ++ bytes ∷ [])
loads_more old mid new ns cs i name bytes l a step asks gives = grind (arith, common_steps)

-- a load that ends them
stops : (old mid new : FolderState) (ns cs : List (List ℕ)) (i : ℕ) (name : List ℕ) → i < length ns →
    Loads old mid (take i ns) cs → take (i + 1) ns ≡ take i ns ++ name ∷ [] →
    (IsTrue mid.tells → new.asked ≡ mid.asked ++ name ∷ []) → StopsAt old new ns (i + 1)
stops old mid new ns cs i name lt l step asks = grind (arith, common_steps)

pub fails_next : (old mid new : FolderState) (ns cs : List (List ℕ)) (i : ℕ) (name : List ℕ) → i < length ns →
    Loads old mid (take i ns) cs → take (i + 1) ns ≡ take i ns ++ name ∷ [] →
    (IsTrue mid.tells → new.asked ≡ mid.asked ++ name ∷ []) → Rose mid.faults new.faults → IsAbsent mid name
    → FailsAt old new ns (i + 1)
fails_next old mid new ns cs i name lt l step asks rose absent = grind (arith, common_steps)

pub too_long_next : (old mid new : FolderState) (ns cs : List (List ℕ)) (i : ℕ) (name : List ℕ) → i < length ns →
    Loads old mid (take i ns) cs → take (i + 1) ns ≡ take i ns ++ name ∷ [] →
    (IsTrue mid.tells → new.asked ≡ mid.asked ++ name ∷ []) → Exceeds mid new name most_bytes
    → IsTooLongAt old new ns (i + 1)
too_long_next old mid new ns cs i name lt l step asks exceeds = grind (arith, common_steps)

-- the load for which there was no memory was asked for, or wasn't
pub asks_next : (old mid new : FolderState) (ns cs : List (List ℕ)) (i : ℕ) (name : List ℕ) →
    Loads old mid (take i ns) cs → take (i + 1) ns ≡ take i ns ++ name ∷ [] →
    (IsTrue mid.tells → (new.asked ≡ mid.asked ++ name ∷ []) ⊎ (new.asked ≡ mid.asked)) → AsksForSome old new ns
asks_next old mid new ns cs i name l step asks told = elim (asks (l.tells ∙ told)) [
  | inl more ↦ (
    take (i + 1) ns,
    drop (i + 1) ns,
    take-append-drop (i + 1) ns,
    more ∙ ap (λ q. q ++ name ∷ []) (l.asked told) ∙ append_assoc old.asked (take i ns) (name ∷ [])
        ∙ ap (λ q. old.asked ++ q) (sym step),
  )
  | inr same ↦ (take i ns, drop i ns, take-append-drop i ns, same ∙ l.asked told)
]
