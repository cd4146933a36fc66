-- Parts that are printed one by one are joined by their mark.
use Rattle.std.proofs.Common.{rules, ◌≡◌, ℕ, List, [], ◌∷◌, ◌++◌, false, length, ap, ◌∙◌, arith, append_assoc}
use Rattle.std.specs.Prelude.{◌==◌, map}
use Rattle.std.specs.List.{join_with_byte}
use Rattle.std.proofs.lemmas.Bool.{ne_eqb}
use Rattle.csv_records.specs.Plain.{plain_line}
use Rattle.arrivals.specs.declared.flight.Flight.{Flight}
use Rattle.flight_file.specs.Printed.{window_text, windows_text, names_text, head_text, flight_fields}

abbrev pub windows_join : List (ℕ × ℕ) → List ℕ
windows_join windows = join_with_byte 59 (map window_text windows)

abbrev pub names_join : List (List ℕ) → List ℕ
names_join names = join_with_byte 59 names

not_last : {A : Type 0} (x : A) (xs : List A) → (length (x ∷ xs) == 0) ≡ false
not_last x xs = ne_eqb (length (x ∷ xs)) 0 (λ z. omega (arith, z))

pub names_joined : (names : List (List ℕ)) → names_text names ≡ names_join names
names_joined (n ∷ m ∷ ns) = rw (not_last m ns) (append_assoc n (59 ∷ []) (names_text (m ∷ ns))
    ∙ ap (λ (t : List ℕ). n ++ (59 ∷ t)) (names_joined (m ∷ ns)))
names_joined names = search rules

pub windows_joined : (ws : List (ℕ × ℕ)) → windows_text ws ≡ windows_join ws
windows_joined (w ∷ v ∷ ws) = rw (not_last v ws) (append_assoc (window_text w) (59 ∷ []) (windows_text (v ∷ ws))
    ∙ ap (λ (t : List ℕ). window_text w ++ (59 ∷ t)) (windows_joined (v ∷ ws)))
windows_joined ws = search rules

-- a line is its first four fields and then the others
pub line_joined : (into : List ℕ) (f : Flight)
    → ((((into ++ head_text f) ++ windows_text f.windows) ++ 44 ∷ []) ++ names_text f.after)
    ++ 10 ∷ [] ≡ into ++ plain_line (flight_fields f)
line_joined into f = simp append_assoc
