-- A text that is not empty says something.
use Rattle.std.proofs.Common.{◌≡◌, ℕ, ◌<◌, Bool, true, false, cond, List, [], ◌∷◌, length, Ok, Err, sym}
use Rattle.std.proofs.Common.{ap, ◌∙◌, arith, refl}
use Rattle.std.specs.Prelude.{◌==◌}
use Rattle.std.specs.List.{join_with_byte}
use Rattle.std.proofs.lemmas.Bool.{eqb-true}
use Rattle.std.proofs.lemmas.List.Splits.{join_with_byte-slice_split}
use Rattle.texts.specs.Parts.{parts}
use Rattle.texts.specs.shared.Cuts.{has_part}
use Rattle.plan_file.specs.declared.plan.PlanFault.TheVariants as fault
use Rattle.plan_file.specs.declared.plan.PlanText.TheVariants as said
use Rattle.plan_file.specs.Reading.{nothing_behind}

pub something_behind : (text : List ℕ) → 0 < length text → nothing_behind (parts 10 text) ≡ Err (fault.Line 2)
something_behind text some = go (parts 10 text) refl
  where
    go : (ps : List (List ℕ)) → parts 10 text ≡ ps → nothing_behind ps ≡ Err (fault.Line 2)
    go [] e = let h = has_part 10 text in let n = ap length e in absurd (omega (arith, h, n))
    go (x ∷ []) e = one (length x == 0) refl
      where
        whole : x ≡ text
        whole = ap (join_with_byte 10) (sym e) ∙ join_with_byte-slice_split 10 text

        one : (b : Bool) → (length x == 0) ≡ b → cond b (Ok said.Nothing) (Err (fault.Line 2)) ≡ Err (fault.Line 2)
        one true h = let z = eqb-true (length x) 0 h in let n = ap length whole in absurd (omega (arith, z, n, some))
        one false h = refl
    go (x ∷ y ∷ ps) e = refl
