-- A line at which a text fails.
use Rattle.std.proofs.Common.{◌≡◌, ℕ, ◌<◌, length, arith, List, [], ◌∷◌, Err, refl}
use Rattle.landing_rules.specs.Text.{ShownLanding}
use Rattle.plan_file.specs.declared.plan.PlanFault.{PlanFault}
use Rattle.plan_file.specs.Reading.{line_in, lines_in}

line_stop : (n : ℕ) (before : List ShownLanding) (line : List ℕ) (e : PlanFault) (rest : List (List ℕ)) (next : List ℕ)
    → line_in n line ≡ Err e → lines_in n before line (next ∷ rest) ≡ Err e
unfolding lines_in
line_stop n before line e rest next h = rw h refl

pub line_stop_all : (n : ℕ) (before : List ShownLanding) (line : List ℕ) (e : PlanFault) (rest : List (List ℕ))
    → 0 < length rest → line_in n line ≡ Err e → lines_in n before line rest ≡ Err e
line_stop_all n before line e [] some h = absurd (omega (arith, some))
line_stop_all n before line e (next ∷ rest) some h = line_stop n before line e rest next h
