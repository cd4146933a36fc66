-- One byte more.
use Rattle.std.proofs.Common.{◌≡◌, ◌+◌, ◌-◌, ◌<◌, ◌≤◌, ◌++◌, ◌∷◌, [], ℕ, List, length, map, take, get_or, replicate}
use Rattle.std.proofs.Common.{arith, ap, refl, ◌∙◌, append_assoc, min, add-one}
use Rattle.std.proofs.Math.ListN.{set}
use Rattle.std.proofs.lemmas.List.{take_more, set_at, map-append, length-map, length-take-le, take_at, take_min}
use Rattle.aerodrome_file.specs.KeyText.{visible}
use Rattle.aerodrome_file.proofs.key_text.KeyText.of.Goals as goal

-- one more byte
front : (key : List ℕ) (i : ℕ) → i < length key → map visible (take (i + 1) key) ≡ map visible (take i key)
    ++ visible (get_or key i 0) ∷ []
front key i below = rw (take_more key i 0 below) (map-append visible (take i key) (get_or key i 0 ∷ []))

at_length : (key : List ℕ) (i : ℕ) → i ≤ length key → length (map visible (take i key)) ≡ i
at_length key i below = length-map (take i key) visible ∙ length-take-le i key below

written : (key : List ℕ) (i n : ℕ) → i < length key
    → set (map visible (take i key) ++ replicate (n + 1) 0) i (visible (get_or key i 0)) ≡ map visible
    (take (i + 1) key)
    ++ replicate n 0
written key i n below =
    let zeros : replicate {A = ℕ} (n + 1) 0 ≡ 0 ∷ replicate {A = ℕ} n 0 = rw add-one refl in
    rw (
      zeros,
      set_at (map visible (take i key)) 0 (replicate n 0) (visible (get_or key i 0)) i
          (at_length key i (omega arith)),
      front key i below,
      append_assoc,
    ) refl

pub loop-i-preserved : goal.loop-i-preserved
loop-i-preserved c =
    let left : 32 - c.loop-i.i ≡ (32 - (c.loop-i.i + 1)) + 1 = omega arith in
    rw (c.visible.ensures, c.loop-i.invariant, left)
    (written c.args.key.now c.loop-i.i (32 - (c.loop-i.i + 1)) (omega arith))

pub returns : goal.returns
returns c =
    let end : c.loop-i.i ≡ c.min-len.result = omega arith in
    let least : c.loop-i.i ≡ min 32 (length c.args.key.now) = omega arith in
    let bound : c.loop-i.i ≤ length c.args.key.now = omega arith in
    rw (
      c.loop-i.invariant,
      ← end,
      take_at (map visible (take c.loop-i.i c.args.key.now))
          (replicate {A = ℕ} (32 - c.loop-i.i) 0) c.loop-i.i (at_length c.args.key.now c.loop-i.i bound),
    )
    (ap (map visible) (ap (λ n. take n c.args.key.now) least ∙ take_min 32 c.args.key.now))
