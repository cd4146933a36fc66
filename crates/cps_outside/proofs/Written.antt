-- Writes in a row.
use Rattle.std.proofs.Common.{◌≡◌, ℕ, ◌-◌, List, ◌++◌, length, take, drop, Option, Some, None, sym, ap, ◌∙◌}
use Rattle.std.proofs.Common.{append_assoc, take-append-drop}
use Rattle.std.proofs.lemmas.List.{take_rest}
use Rattle.std.specs.Io.KnownBytes.{Appends}

pub appends_then : (a b c : Option (List ℕ)) (first then : List ℕ) → Appends a b first → Appends b c then
    → Appends a c (first ++ then)
appends_then None b c first then p q = tt
appends_then (Some x) None c first then p q = absurd p
appends_then (Some x) (Some y) None first then p q = absurd q
appends_then (Some x) (Some y) (Some z) first then p q = q ∙ ap (λ l. l ++ then) p ∙ append_assoc x first then

-- the loop's step: so many bytes more are gone from the rest
pub moved : (all done rest : List ℕ) (n : ℕ) → all ≡ done ++ rest → all ≡ (done ++ take n rest)
    ++ take (length rest - n) (drop n rest)
moved all done rest n e =
    e ∙ ap (λ l. done ++ l) (sym (take-append-drop n rest)) ∙ sym (append_assoc done (take n rest) (drop n rest))
    ∙ ap (λ l. (done ++ take n rest) ++ l) (sym (take_rest rest n))
