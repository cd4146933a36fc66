-- One landing more: with each behind it, or with each that it lists.
use Rattle.std.proofs.Common.{◌≡◌, ℕ, ◌+◌, ◌-◌, ◌<◌, Bool, List, ◌++◌, length, get_or, map, drop, take, sym, ap, ◌∙◌}
use Rattle.std.proofs.Common.{arith}
use Rattle.std.proofs.lemmas.List.{take_all, length-drop}
use Rattle.std.specs.Prelude.{flat_map}
use Rattle.landing_rules.specs.Audit.{Finding, for_failing, for_failing_pairs}
use Rattle.audit.specs.shared.Steps.{place_step}

pub pairs_more : {T X : Type 0} (pass : X → X → Bool) (found : X → X → Finding) (seen : T
    → X) (ts : List T) (i : ℕ) (t : T) (done more whole : List Finding) →
    i < length ts → t ≡ get_or ts i t → more ≡ for_failing (pass (seen t)) (found (seen t))
    (map seen (take (length ts - (i + 1)) (drop (i + 1) ts))) →
    done ++ for_failing_pairs pass found (map seen (drop i ts)) ≡ whole →
    (done ++ more) ++ for_failing_pairs pass found (map seen (drop (i + 1) ts)) ≡ whole
pairs_more {T = T} pass found seen ts i t done more whole lt same e h =
    let rest = drop (i + 1) ts in
    let n : length rest ≡ length ts - (i + 1) = length-drop (i + 1) ts in
    let all : take (length ts - (i + 1)) rest ≡ rest = take_all (length ts - (i + 1)) rest (omega (arith, n)) in
    let given : more ≡ for_failing (pass (seen t)) (found (seen t)) (map seen rest) =
    e ∙ ap (λ l. for_failing (pass (seen t)) (found (seen t)) (map seen l)) all in
    let left = λ (l : List T). for_failing_pairs pass found (map seen l) in
    place_step left left ts i t done more whole lt same (sym (ap (λ m. m ++ left rest) given)) h

pub flat_seen : {T X : Type 0} (F : X → List Finding) (seen : T → X) (ts : List T) (i : ℕ)
    (t : T) (done more whole : List Finding) →
    i < length ts → t ≡ get_or ts i t → more ≡ F (seen t) → done ++ flat_map F (map seen (drop i ts)) ≡ whole
    → (done ++ more) ++ flat_map F (map seen (drop (i + 1) ts)) ≡ whole
flat_seen {T = T} F seen ts i t done more whole lt same e h =
    let left = λ (l : List T). flat_map F (map seen l) in
    place_step left left ts i t done more whole lt same (sym (ap (λ m. m ++ left (drop (i + 1) ts)) e)) h
