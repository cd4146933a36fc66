-- One more line, behind a line at a second.
use Rattle.std.proofs.Common.{◌≡◌, ℕ, ◌+◌, ◌<◌, Bool, true, false, cond, List, [], ◌∷◌, ◌++◌, length, get_or, map}
use Rattle.std.proofs.Common.{drop, refl, sym, ap, ◌∙◌, arith}
use Rattle.std.specs.Prelude.{nat_lt}
use Rattle.landing_rules.specs.Audit.{Finding, Order, disordered_from}
use Rattle.plan_file.specs.Shown.{shown_of}
use Rattle.plan_file.specs.declared.landing.Landing.{Landing}
use Rattle.audit.specs.Findings.{out_of_order}
use Rattle.audit.specs.shared.Steps.{place_step}

pub order_step : (lines : List Landing) (i before : ℕ) (l : Landing) (done more whole : List Finding) →
    i < length lines → l ≡ get_or lines i l → more ≡ out_of_order (i + 2) before l.second
    → done ++ disordered_from (i + 2) before (map shown_of (drop i lines)) ≡ whole →
    (done ++ more) ++ disordered_from ((i + 1) + 2) l.second (map shown_of (drop (i + 1) lines)) ≡ whole
order_step lines i before l done more whole lt same e h =
    let rest = map shown_of (drop (i + 1) lines) in
    let next : (i + 1) + 2 ≡ (i + 2) + 1 = omega arith in
    place_step (λ ls. disordered_from (i + 2) before (map shown_of ls))
    (λ ls. disordered_from ((i + 1) + 2) l.second (map shown_of ls)) lines i l done more whole lt same
    (sym (ap (λ n. more ++ disordered_from n l.second rest) next
    ∙ ap (λ m. m ++ disordered_from ((i + 2) + 1) l.second rest) e ∙ one (nat_lt before l.second))) h
  where
    one : (b : Bool) → cond b [] (Order (i + 2) ∷ []) ++ disordered_from ((i + 2) + 1) l.second
        (map shown_of (drop (i + 1) lines)) ≡
        cond b (disordered_from ((i + 2) + 1) l.second (map shown_of (drop (i + 1) lines)))
        (Order (i + 2) ∷ disordered_from ((i + 2) + 1) l.second (map shown_of (drop (i + 1) lines)))
    one true = refl
    one false = refl
