-- A run with its plannings goes on by one event.
use Rattle.std.proofs.Common.{◌≡◌, ℕ, ◌+◌, List, [], ◌∷◌, ◌++◌, length, refl, sym, ap, ◌∙◌, arith, append_assoc}
use Rattle.std.proofs.Common.{append-nil}
use Rattle.std.proofs.lemmas.List.{map-append}
use Rattle.std.proofs.lemmas.List.Sums.{sum_by_push}
use Rattle.landing_rules.specs.Problem.{Problem}
use Rattle.replays.specs.Efforts.{Planned, IsPlanned, ArePlanned, answers_of, steps_of, last_problem, answer_line}
use Rattle.replays.specs.Efforts.{answer_lines}

pub answers-push : (planned : List Planned) (a : Planned) → answers_of (planned ++ a ∷ []) ≡ answers_of planned
    ++ a.answered ∷ []
answers-push planned a = map-append (λ (b : Planned). b.answered) planned (a ∷ [])

pub planned-push : (held : Problem) (planned : List Planned) (a : Planned)
    → ArePlanned held planned → IsPlanned (last_problem held planned) a → ArePlanned held (planned ++ a ∷ [])
planned-push held [] a are is = (is, tt)
planned-push held (b ∷ rest) a are is = (are.0, planned-push b.problem rest a are.1 is)

pub last_problem-push : (held : Problem) (planned : List Planned) (a : Planned)
    → last_problem held (planned ++ a ∷ []) ≡ a.problem
last_problem-push held [] a = refl
last_problem-push held (b ∷ rest) a = last_problem-push b.problem rest a

pub steps-push : (planned : List Planned) (a : Planned) → steps_of (planned ++ a ∷ []) ≡ steps_of planned + a.steps
steps-push planned a = sum_by_push (λ (b : Planned). b.steps) planned a

pub lines-push : (i : ℕ) (planned : List Planned) (a : Planned) → answer_lines i (planned ++ a ∷ [])
    ≡ answer_lines i planned ++ answer_line (i + length planned) a.answered.answer a.steps
lines-push i [] a = append-nil (answer_line i a.answered.answer a.steps)
    ∙ ap (λ n. answer_line n a.answered.answer a.steps) (omega arith)
lines-push i (b ∷ rest) a =
    let e : (i + 1) + length rest ≡ i + length (b ∷ rest) = omega arith in
    ap (λ l. answer_line i b.answered.answer b.steps ++ l) (lines-push (i + 1) rest a
    ∙ ap (λ n. answer_lines (i + 1) rest ++ answer_line n a.answered.answer a.steps) e) ∙
    sym (append_assoc (answer_line i b.answered.answer b.steps) (answer_lines (i + 1) rest)
    (answer_line (i + length (b ∷ rest)) a.answered.answer a.steps))
