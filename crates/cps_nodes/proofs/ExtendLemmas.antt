-- A list of landings goes on exactly where its window accepts the next one.
use Rattle.std.proofs.Common.{rules, ◌≡◌, ℕ, ◌+◌, ◌-◌, ◌/◌, ◌*◌, ◌<◌, ◌≤◌, List, ◌∷◌, ◌++◌, length, drop, get_or, refl}
use Rattle.std.proofs.Common.{arith, length-append, replicate, append_assoc, ◌∙◌, sym, ap, inl, inr, subst, zero, suc}
use Rattle.std.proofs.Common.{[]}
use Rattle.std.specs.Prelude.{ℤ, pos, ◌+ℤ◌, ◌-ℤ◌, ◌≤ℤ◌, ◌⊎◌, Contains}
use Rattle.std.proofs.lemmas.Int.{ints}
use Rattle.std.proofs.lemmas.List.{get_or_default, get_or_append_left, get_or_push, length-replicate, drop-append-le}
use Rattle.std.proofs.lemmas.List.{drop-drop}
use Rattle.std.proofs.lemmas.List.Elements.{Contains-append_left, Contains-push_cases}
use Rattle.std.proofs.lemmas.Bool.{cases_lt}
use Rattle.cps_nodes.specs.Windows.{IsWidth, HoldsRank, Accepts, offset_at, shifted}
use Rattle.cps_nodes.specs.Ranks.{RanksKeepShift, offsets_from, window_of}
use Rattle.cps_nodes.specs.Laws.{offset_after, FollowRanks}
use Rattle.cps_nodes.proofs.PrefixLemmas.{HasLanded-from_IsPlaced, IsPlaced-from_HasLanded, length-offsets_from}
use Rattle.cps_nodes.proofs.PrefixLemmas.{length-window_of, offset_at-window_of_early, offset_at-window_of}

offsets_from-push : (place : ℕ) (ranks : List ℕ) (r : ℕ)
    → offsets_from place (ranks ++ r ∷ []) ≡ offsets_from place ranks ++ (pos r -ℤ pos (place + length ranks)) ∷ []
offsets_from-push place [] r = grind arith
offsets_from-push place (x ∷ ranks) r = grind (arith, (offsets_from-push (place + 1) ranks r))

-- one landing more shifts the window
pub window_of-push : (w : ℕ) (ranks : List ℕ) (r : ℕ) → 0 < w
    → window_of w (ranks ++ r ∷ []) ≡ shifted (window_of w ranks) (pos r -ℤ pos (1 + length ranks))
window_of-push w ranks r some =
    let all : List ℤ = replicate w (pos 0) ++ offsets_from 1 ranks in
    let x : ℤ = pos r -ℤ pos (1 + length ranks) in
    let long : length ranks + 1 ≤ length (replicate w (pos 0) ++ offsets_from 1 ranks) =
    omega (
      arith,
      length-append (replicate w (pos 0)) (offsets_from 1 ranks),
      length-replicate w
          (pos 0),
      length-offsets_from 1 ranks,
    ) in
    let len : length (ranks ++ r ∷ []) ≡ length ranks + 1 = length-append ranks (r ∷ []) in
    ap (λ (n : ℕ). drop n (replicate w (pos 0) ++ offsets_from 1 (ranks ++ r ∷ []))) len
    ∙ ap (λ (zs : List ℤ). drop (length ranks + 1) (replicate w (pos 0) ++ zs)) (offsets_from-push 1 ranks r)
    ∙ ap (drop (length ranks + 1))
    (sym (append_assoc (replicate w (pos 0)) (offsets_from 1 ranks) ((pos r -ℤ pos (1 + length ranks)) ∷ [])))
    ∙ drop-append-le (length ranks + 1) (replicate w (pos 0) ++ offsets_from 1 ranks)
    ((pos r -ℤ pos (1 + length ranks)) ∷ []) long
    ∙ ap (λ (zs : List ℤ). zs ++ (pos r -ℤ pos (1 + length ranks)) ∷ [])
    (sym (drop-drop 1 (length ranks) (replicate w (pos 0) ++ offsets_from 1 ranks)))

-- a window holds the rank of each landing that is at most its width ago
holds_landing : (w : ℕ) (ranks : List ℕ) (j : ℕ) (rank : ℤ) → j < length ranks → length ranks ≤ j + w
    → rank ≡ pos (get_or ranks j 0) -ℤ pos (1 + length ranks) +ℤ pos w → HoldsRank (window_of w ranks) rank
holds_landing w ranks j rank lt late e =
    let at : offset_at (window_of w ranks) (j + w - length ranks) ≡ pos (get_or ranks j 0) -ℤ pos (1 + j) =
    grind (arith, offset_at-window_of) in
    (j + w - length ranks, omega (arith, length-window_of w ranks), omega (arith, ints))

-- what a window holds is a landing or a place before the first
landing_held : (w : ℕ) (ranks : List ℕ) (rank : ℤ) → HoldsRank (window_of w ranks) rank
    → (rank ≤ℤ (pos w -ℤ pos (1 + length ranks)))
    ⊎ ((j : ℕ) × (j < length ranks) × (rank ≡ pos (get_or ranks j 0) -ℤ pos (1 + length ranks) +ℤ pos w))
landing_held w ranks rank (i, lt, e) =
    let len : length (window_of w ranks) ≡ w = length-window_of w ranks in
    elim (cases_lt (length ranks + i) w) [
      | inl early ↦ grind (arith, offset_at-window_of_early)
      | inr late ↦
          let at : offset_at (window_of w ranks) i ≡ pos (get_or ranks (length ranks + i - w) 0) -ℤ pos
          (1 + (length ranks + i - w)) = grind (arith, offset_at-window_of) in
          inr (length ranks + i - w, omega (arith, lt), omega (arith, ints, e))
    ]

-- a list of landings that goes on is accepted by its window
pub Accepts-from_KeepsShift : (most w : ℕ) (ranks : List ℕ) (r : ℕ) → w ≡ 2 * most + 1
    → RanksKeepShift most (ranks ++ r ∷ [])
    → Accepts (window_of w ranks) (pos r -ℤ pos (1 + length ranks))
Accepts-from_KeepsShift most w ranks r odd is =
    let len : length (window_of w ranks) ≡ w = length-window_of w ranks in
    let longer : length (ranks ++ r ∷ []) ≡ length ranks + 1 = length-append ranks (r ∷ []) in
    let last : get_or (ranks ++ r ∷ []) (length ranks) 0 ≡ r = get_or_push ranks r 0 (length ranks) refl in
    record {
      fresh = λ has. elim (landing_held w ranks _ has) [
        | inl early ↦ grind arith
        | inr (j, lt, e) ↦ grind (arith, get_or_append_left)
      ];
      due = subst (λ (zs : List ℤ). HoldsRank zs (pos (length (window_of w ranks) / 2)))
          (window_of-push w ranks r (omega arith)) (
          elim (cases_lt (length ranks) most) [
            | inl early ↦
                let z : offset_at (window_of w (ranks ++ r ∷ [])) most ≡ pos 0 =
                offset_at-window_of_early w (ranks ++ r ∷ []) most (omega arith) in
                (most, omega (arith, length-window_of w (ranks ++ r ∷ [])), omega (arith, ints))
            | inr late ↦
                let stands : Contains (ranks ++ r ∷ []) (length ranks + 1 - most) =
                is.due (length ranks + 1 - most) (omega arith) (omega arith) in
                let at : get_or (ranks ++ r ∷ []) stands.0 0 ≡ length ranks + 1 - most =
                get_or_default (ranks ++ r ∷ []) stands.0 0 _ stands.1 ∙ stands.2 in
                let near : get_or (ranks ++ r ∷ []) stands.0 0 ≤ stands.0 + 1 + most = is.early stands.0 stands.1 in
                holds_landing w (ranks ++ r ∷ []) stands.0 _ stands.1 (omega arith) (omega (arith, ints))
          ]);
    }

-- rank 0 stands in the window as long as it is near, so no window accepts it
not_zero : (most w : ℕ) (ranks : List ℕ) (r : ℕ) → w ≡ 2 * most + 1 → length ranks + 1 ≤ r + most
    → Accepts (window_of w ranks) (pos r -ℤ pos (1 + length ranks)) → 0 < r
not_zero most w ranks zero odd late can =
    let z : offset_at (window_of w ranks) (w - 1 - length ranks) ≡ pos 0 = grind (arith, offset_at-window_of_early) in
    absurd (can.fresh (
      w - 1 - length ranks,
      omega (arith, length-window_of w ranks),
      omega
          (arith, ints, length-window_of w ranks),
    ))
not_zero most w ranks (suc r) odd late can = omega arith

-- and what its window accepts goes on
pub KeepsShift-from_Accepts : (most w : ℕ) (ranks : List ℕ) (r : ℕ) → w ≡ 2 * most + 1 → RanksKeepShift most ranks
    → r ≤ length ranks + 1 + most → length ranks + 1 ≤ r + most
    → Accepts (window_of w ranks) (pos r -ℤ pos (1 + length ranks)) → RanksKeepShift most (ranks ++ r ∷ [])
KeepsShift-from_Accepts most w ranks r odd is early late can =
    let len : length (window_of w ranks) ≡ w = length-window_of w ranks in
    let some : 0 < r = not_zero most w ranks r odd late can in
    let longer : length (ranks ++ r ∷ []) ≡ length ranks + 1 = length-append ranks (r ∷ []) in
    record {
      positive = grind (arith, cases_lt, get_or_push, get_or_append_left);
      early = grind (arith, get_or_push, get_or_append_left, is.early);
      late = grind (arith, get_or_push, get_or_append_left, is.late);
      differ = λ i j lt within same.
          let old : get_or (ranks ++ r ∷ []) i 0 ≡ get_or ranks i 0 =
          get_or_append_left ranks (r ∷ []) 0 i (omega arith) in
          elim (cases_lt j (length ranks)) [
            | inr past ↦
                let last : get_or (ranks ++ r ∷ []) j 0 ≡ r = get_or_push ranks r 0 j (omega arith) in
                elim (cases_lt (i + w) (length ranks)) [
                  | inl far ↦ omega (arith, is.early i (omega arith))
                  | inr near ↦ can.fresh (holds_landing w ranks i _ (omega arith) near (omega (arith, ints)))
                ]
            | inl before ↦ grind (arith, get_or_append_left)
          ];
      due = λ rank positive passed. elim (cases_lt (rank + most) (length ranks + 1)) [
        | inl long_due ↦ grind (arith, Contains-append_left)
        | inr now_due ↦
            let held : HoldsRank (window_of w (ranks ++ r ∷ [])) (pos (length (window_of w ranks) / 2)) =
            subst (λ (zs : List ℤ). HoldsRank zs (pos (length (window_of w ranks) / 2)))
            (sym (window_of-push w ranks r (omega arith))) can.due in
            elim (landing_held w (ranks ++ r ∷ []) _ held) [
              | inl before ↦ absurd (omega (arith, ints, before))
              | inr (j, lt, e) ↦
                  let is_rank : get_or (ranks ++ r ∷ []) j 0 ≡ rank = omega (arith, ints, e) in
                  (j, lt, get_or_default (ranks ++ r ∷ []) j rank 0 lt ∙ is_rank)
            ]
      ];
    }

-- without its last rank a list keeps the shift rule
pub KeepsShift-front : (most : ℕ) (ranks : List ℕ) (r : ℕ) → RanksKeepShift most (ranks ++ r ∷ [])
    → RanksKeepShift most ranks
KeepsShift-front most ranks r is =
    let longer : length (ranks ++ r ∷ []) ≡ length ranks + 1 = length-append ranks (r ∷ []) in
    let last : get_or (ranks ++ r ∷ []) (length ranks) 0 ≡ r = get_or_push ranks r 0 (length ranks) refl in
    record {
      positive = grind (arith, get_or_append_left);
      differ = grind (arith, get_or_append_left);
      early = grind (arith, get_or_append_left);
      late = grind (arith, get_or_append_left);
      due = λ rank some passed. elim (Contains-push_cases ranks r rank (is.due rank some (omega arith))) [
        | inl old ↦ old
        | inr new ↦ grind arith
      ];
    }

pub KeepsShift-none : (most : ℕ) → RanksKeepShift most []
KeepsShift-none most = grind arith

-- the offset of the last rank
pub offset_at-window_of_last : (w : ℕ) (ranks : List ℕ) (r : ℕ) → 0 < w
    → offset_at (window_of w (ranks ++ r ∷ [])) (w - 1) ≡ pos r -ℤ pos (1 + length ranks)
offset_at-window_of_last w ranks r some =
    let longer : length (ranks ++ r ∷ []) ≡ length ranks + 1 = length-append ranks (r ∷ []) in
    offset_at-window_of w (ranks ++ r ∷ []) (w - 1) (length ranks) (omega arith) (omega arith)
    ∙ ap (λ (n : ℕ). pos n -ℤ pos (1 + length ranks)) (get_or_push ranks r 0 (length ranks) refl)

-- the offset of the next rank, with the summands the other way round
offset_turned : (n rank : ℕ) → (pos rank -ℤ pos (n + 1)) ≡ (pos rank -ℤ pos (1 + n))
offset_turned n rank = ap (λ (m : ℕ). pos rank -ℤ pos m) (omega arith)

-- a window accepts the next rank, and is then that of the longer list
pub accepted_ranks : (w : ℕ) (xs : List ℤ) (ranks : List ℕ) (rank : ℕ) (o : ℤ) → IsWidth w
    → pos 0 ≤ℤ (o +ℤ pos (w / 2)) → o ≤ℤ pos (w / 2)
    → RanksKeepShift (w / 2) ranks → xs ≡ window_of w ranks → o ≡ pos rank -ℤ pos (length ranks + 1)
    → Accepts xs o → RanksKeepShift (w / 2) (ranks ++ rank ∷ []) × (shifted xs o ≡ window_of w (ranks ++ rank ∷ []))
accepted_ranks w xs ranks rank o wide low high is at e can =
    let turned : o ≡ pos rank -ℤ pos (1 + length ranks) = e ∙ offset_turned (length ranks) rank in
    let here : Accepts (window_of w ranks) (pos rank -ℤ pos (1 + length ranks)) = grind arith in (
      KeepsShift-from_Accepts (w / 2) w ranks rank (omega (arith, wide)) is (omega (arith, ints))
          (omega (arith, ints)) here,
      grind (arith, window_of-push),
    )

-- a list that goes on is accepted
pub ranks_accepted : (w : ℕ) (xs : List ℤ) (ranks : List ℕ) (rank : ℕ) (o : ℤ) → IsWidth w
    → xs ≡ window_of w ranks → o ≡ pos rank -ℤ pos (length ranks + 1)
    → RanksKeepShift (w / 2) (ranks ++ rank ∷ []) → Accepts xs o
ranks_accepted w xs ranks rank o wide at e is =
    let turned : o ≡ pos rank -ℤ pos (1 + length ranks) = e ∙ offset_turned (length ranks) rank in
    let here : Accepts (window_of w ranks) (pos rank -ℤ pos (1 + length ranks)) =
    Accepts-from_KeepsShift (w / 2) w ranks rank (omega (arith, wide)) is in grind arith

-- windows of a width follow the lists of ranks
pub follow : (w : ℕ) → IsWidth w → FollowRanks w
follow w wide = record {
  none = KeepsShift-none (w / 2);
  goes_on = λ ranks rank. (
    λ is.
        let longer : length (ranks ++ rank ∷ []) ≡ length ranks + 1 = length-append ranks (rank ∷ []) in
        let last : get_or (ranks ++ rank ∷ []) (length ranks) 0 ≡ rank =
        get_or_push ranks rank 0 (length ranks) refl in (
          KeepsShift-front (w / 2) ranks rank is,
          record {
            early = omega arith;
            late = omega arith;
            accepted = search (rules, ranks_accepted);
          },
        ),
    λ (is, may). (accepted_ranks w (window_of w ranks) ranks rank (offset_after (length ranks) rank) wide
        (omega (arith, ints, may.late)) (omega (arith, ints, may.early)) is refl refl may.accepted).0,
  );
  shifts = grind (arith, window_of-push);
  wide = λ ranks. length-window_of w ranks;
  last = grind (arith, offset_at-window_of_last);
  places = grind (arith, HasLanded-from_IsPlaced, IsPlaced-from_HasLanded);
}
