-- One more waiting flight.
use Rattle.std.proofs.Common.{◌≡◌, ℕ, ◌+◌, ◌<◌, Bool, true, false, cond, List, [], ◌∷◌, ◌++◌, length, get_or, drop}
use Rattle.std.proofs.Common.{refl, sym, ap, ◌∙◌}
use Rattle.landing_rules.specs.Flights.{Landing}
use Rattle.landing_rules.specs.Rules.{place, rank_among}
use Rattle.landing_rules.specs.Testing.{is_shift_kept}
use Rattle.landing_rules.specs.Audit.{Finding, Shift, for_failing}
use Rattle.audit.specs.Findings.{too_far}
use Rattle.audit.specs.shared.Steps.{place_step}

-- those of all from here on
abbrev pub too_far_from : ℕ → List Landing → List Landing → List Finding
too_far_from k all some =
    for_failing (is_shift_kept k all) (λ (f : Landing). Shift f.flight.callsign (place all f) (rank_among all f)) some

pub shift_step : (k : ℕ) (all : List Landing) (i : ℕ) (f : Landing) (done more whole : List Finding) →
    i < length all → f ≡ get_or all i f → more ≡ too_far k all f → done ++ too_far_from k all (drop i all) ≡ whole →
    (done ++ more) ++ too_far_from k all (drop (i + 1) all) ≡ whole
shift_step k all i f done more whole lt same e h =
    let left = too_far_from k all in
    place_step left left all i f done more whole lt same
    (sym (ap (λ m. m ++ left (drop (i + 1) all)) e ∙ one (is_shift_kept k all f))) h
  where
    one : (b : Bool) → cond b [] (Shift f.flight.callsign (place all f) (rank_among all f) ∷ [])
        ++ too_far_from k all (drop (i + 1) all) ≡
        cond b (too_far_from k all (drop (i + 1) all)) (Shift f.flight.callsign (place all f) (rank_among all f)
        ∷ too_far_from k all (drop (i + 1) all))
    one true = refl
    one false = refl
