-- Laws of the windows of lists of landings.
use Rattle.std.proofs.Common.{[], ◌≡◌, ℕ, ◌+◌, ◌-◌, ◌/◌, ◌*◌, ◌<◌, ◌≤◌, List, ◌∷◌, length, get_or, refl, arith}
use Rattle.std.proofs.Common.{length-append, length-drop, ◌∙◌, inl, inr, zero, suc}
use Rattle.std.specs.Prelude.{ℤ, pos, negsuc, ◌-ℤ◌, ◌⊎◌}
use Rattle.std.proofs.lemmas.Int.{ints}
use Rattle.std.proofs.lemmas.List.{get_or_default, get_or_append_left, get_or-append_right, get_or-drop}
use Rattle.std.proofs.lemmas.List.{get_or-replicate, length-replicate}
use Rattle.std.proofs.lemmas.Bool.{cases_lt}
use Rattle.cps_nodes.specs.Windows.{offset_at, IsPlaced}
use Rattle.cps_nodes.specs.Ranks.{RanksKeepShift, offsets_from, window_of, HasLanded}

pub length-offsets_from : (place : ℕ) (ranks : List ℕ) → length (offsets_from place ranks) ≡ length ranks
length-offsets_from place [] = refl
length-offsets_from place (r ∷ ranks) = omega (arith, length-offsets_from (place + 1) ranks)

pub get_or-offsets_from : (place : ℕ) (ranks : List ℕ) (i : ℕ) → i < length ranks
    → get_or (offsets_from place ranks) i (pos 0) ≡ pos (get_or ranks i 0) -ℤ pos (place + i)
get_or-offsets_from place [] i h = absurd (omega arith)
get_or-offsets_from place (r ∷ ranks) zero h = omega (arith, ints)
get_or-offsets_from place (r ∷ ranks) (suc i) h = grind (arith, (get_or-offsets_from (place + 1) ranks i (omega arith)))

pub length-window_of : (w : ℕ) (ranks : List ℕ) → length (window_of w ranks) ≡ w
length-window_of w ranks = grind (arith, length-drop, length-append, length-replicate, length-offsets_from)

-- before the first landing stands 0
pub offset_at-window_of_early : (w : ℕ) (ranks : List ℕ) (i : ℕ) → length ranks + i < w
    → offset_at (window_of w ranks) i ≡ pos 0
offset_at-window_of_early w ranks i h =
    grind (arith, length-replicate, get_or-drop, get_or_append_left, get_or-replicate)

-- and from there on each landing's rank minus its place; j counts landings from 0
pub offset_at-window_of : (w : ℕ) (ranks : List ℕ) (i j : ℕ) → length ranks + i ≡ j + w → j < length ranks
    → offset_at (window_of w ranks) i ≡ pos (get_or ranks j 0) -ℤ pos (1 + j)
offset_at-window_of w ranks i j e lt =
    grind (arith, get_or-drop, get_or-append_right, length-replicate, get_or-offsets_from)

-- an integer is a natural number, or below 0
is_natural : (z : ℤ) → ((n : ℕ) × (z ≡ pos n)) ⊎ ((n : ℕ) × (z ≡ negsuc n))
is_natural (pos n) = inl (n, refl)
is_natural (negsuc n) = inr (n, refl)

-- what the window places has landed
pub HasLanded-from_IsPlaced : (most w : ℕ) (ranks : List ℕ) (rank : ℤ) → w ≡ 2 * most + 1 → RanksKeepShift most ranks
    → IsPlaced (window_of w ranks) (pos (length ranks)) rank → HasLanded ranks rank
HasLanded-from_IsPlaced most w ranks rank odd is placed =
    let half : length (window_of w ranks) / 2 ≡ most = omega (arith, length-window_of w ranks) in
    let len : length (window_of w ranks) ≡ w = length-window_of w ranks in
    elim placed [
      | inl due ↦
          elim (is_natural rank) [
            | inl natural ↦ grind arith
            | inr below ↦ inl (omega (arith, ints, below.1))
          ]
      | inr holds ↦
          let i : ℕ = holds.0 in
          elim (cases_lt (length ranks + holds.0) w) [
            | inl early ↦ grind (arith, offset_at-window_of_early)
            | inr late ↦
                let j : ℕ = length ranks + holds.0 - w in
                let lt : length ranks + holds.0 - w < length ranks = omega (arith, holds.1) in
                let at : offset_at (window_of w ranks) holds.0 ≡ pos
                (get_or ranks (length ranks + holds.0 - w) 0) -ℤ pos (1 + (length ranks + holds.0 - w)) =
                offset_at-window_of w ranks holds.0 (length ranks + holds.0 - w) (omega arith) lt in
                inr (
                  get_or ranks (length ranks + holds.0 - w) 0,
                  omega (arith, ints, holds.2),
                  (length ranks + holds.0 - w, lt, get_or_default ranks (length ranks + holds.0 - w) _ 0 lt),
                )
          ]
    ]

-- what has landed is placed by the window
pub IsPlaced-from_HasLanded : (most w : ℕ) (ranks : List ℕ) (rank : ℤ) → w ≡ 2 * most + 1 → RanksKeepShift most ranks
    → HasLanded ranks rank → IsPlaced (window_of w ranks) (pos (length ranks)) rank
IsPlaced-from_HasLanded most w ranks rank odd is landed =
    let half : length (window_of w ranks) / 2 ≡ most = omega (arith, length-window_of w ranks) in
    let len : length (window_of w ranks) ≡ w = length-window_of w ranks in
    elim landed [
      | inl below ↦
          elim (is_natural rank) [
            | inl natural ↦ elim (cases_lt (length ranks) most) [
              | inl early ↦
                  let at : offset_at (window_of w ranks) (w - 1 - length ranks) ≡ pos 0 =
                  offset_at-window_of_early w ranks (w - 1 - length ranks) (omega arith) in
                  inr (w - 1 - length ranks, omega arith, omega (arith, ints, natural.1))
              | inr late ↦ inl (omega (arith, ints, natural.1))
            ]
            | inr negative ↦ elim (cases_lt (length ranks + suc negative.0) most) [
              | inl early ↦
                  let at : offset_at (window_of w ranks) (w - 1 - length ranks - suc negative.0) ≡ pos 0 =
                  offset_at-window_of_early w ranks (w - 1 - length ranks - suc negative.0) (omega arith) in
                  inr (w - 1 - length ranks - suc negative.0, omega arith, omega (arith, ints, negative.1))
              | inr late ↦ inl (omega (arith, ints, negative.1))
            ]
          ]
      | inr stands ↦
          let j : ℕ = stands.2.0 in
          let is_rank : get_or ranks stands.2.0 0 ≡ stands.0 =
          get_or_default ranks stands.2.0 0 _ stands.2.1 ∙ stands.2.2 in
          let near : get_or ranks stands.2.0 0 ≤ stands.2.0 + 1 + most = is.early stands.2.0 stands.2.1 in
          elim (cases_lt (stands.2.0 + w) (length ranks)) [
            | inl early ↦ inl (omega (arith, ints, stands.1))
            | inr late ↦
                let at : offset_at (window_of w ranks) (stands.2.0 + w - length ranks) ≡ pos
                (get_or ranks stands.2.0 0) -ℤ pos (1 + stands.2.0) =
                offset_at-window_of w ranks (stands.2.0 + w - length ranks) stands.2.0 (omega arith) stands.2.1 in
                inr (stands.2.0 + w - length ranks, omega (arith, stands.2.1), omega (arith, ints, stands.1))
          ]
    ]
