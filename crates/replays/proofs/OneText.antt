-- The steps of the plannings of a run are one list, whichever problems of its situations were planned.
use Rattle.std.proofs.Common.{◌≡◌, ℕ, ◌+◌, List, [], ◌∷◌, ◌++◌, Option, None, Some, refl, sym, ap, ap₂, ◌∙◌, arith}
use Rattle.std.proofs.lemmas.List.Sums.{sum_by-cons}
use Rattle.landing_rules.specs.Events.{Answered, Refusal}
use Rattle.landing_rules.specs.Flights.{Situation}
use Rattle.landing_rules.specs.Problem.{Problem, IsProblemOf}
use Rattle.replays.specs.Efforts.{ArePlanned, IsPlanned, Planned, TakesSteps, answer_line, answer_lines, answers_of}
use Rattle.replays.specs.Efforts.{begun_line, steps_of, total_line}
use Rattle.replays.specs.OneText.{StepsAreOneLaw}
use Rattle.replays.specs.shared.OneSteps.{one_begun, one_step}

module _ (s t : Situation) (held other p q : Problem) (h : IsProblemOf s held) (i : IsProblemOf s other)
    (j : IsProblemOf t p) (k : IsProblemOf t q) where
  one_taken : (answer : Option Refusal) (a b : ℕ) → TakesSteps held answer p a → TakesSteps other answer q b → a ≡ b
  one_taken None a b x y = one_step s t held other p q h i j k a b x y
  one_taken (Some refusal) a b x y = x.1 ∙ sym y.1

-- the steps of one planning
one_planned : (s : Situation) (held other : Problem) → IsProblemOf s held → IsProblemOf s other → (x y : Planned)
    → IsPlanned held x → IsPlanned other y → x.answered ≡ y.answered → x.steps ≡ y.steps
one_planned s held other h i x y a b e = one_taken s x.answered.state.situation held other x.problem y.problem
    h i a.problem_of (rw (← e) at b.problem_of) x.answered.answer x.steps y.steps a.steps (rw (← e) at b.steps)

-- the steps of all, and their lines
one_lines : (s : Situation) (held other : Problem) → IsProblemOf s held
    → IsProblemOf s other → (n : ℕ) (xs ys : List Planned) → ArePlanned held xs → ArePlanned other ys
    → answers_of xs ≡ answers_of ys → (answer_lines n xs ≡ answer_lines n ys) × (steps_of xs ≡ steps_of ys)
one_lines s held other h i n [] [] a b e = (refl, refl)
one_lines s held other h i n [] (y ∷ ys) a b e = absurd (cc e)
one_lines s held other h i n (x ∷ xs) [] a b e = absurd (cc e)
one_lines s held other h i n (x ∷ xs) (y ∷ ys) a b e =
    let same : x.answered ≡ y.answered = cc e in
    let later : answers_of xs ≡ answers_of ys = cc e in
    let steps : x.steps ≡ y.steps = one_planned s held other h i x y a.0 b.0 same in
    let there = rw (← same) at b.0.problem_of in
    let rest = one_lines x.answered.state.situation x.problem y.problem a.0.problem_of there (n + 1) xs ys
    a.1 b.1 later in
    let line : answer_line n x.answered.answer x.steps ≡ answer_line n y.answered.answer y.steps =
    ap₂ (λ (o : Option Refusal) (m : ℕ). answer_line n o m) (ap (λ (z : Answered). z.answer) same) steps in
    let one = sum_by-cons (λ (z : Planned). z.steps) x xs in
    let two = sum_by-cons (λ (z : Planned). z.steps) y ys in
    (ap₂ (λ (u v : List ℕ). u ++ v) line rest.0, omega (arith, one, two, steps, rest.1))

abbrev text_by : ℕ → List ℕ → ℕ → List ℕ
text_by opening lines total = (begun_line opening ++ lines) ++ total_line (opening + total)

pub steps_one : StepsAreOneLaw
steps_one state events others x y e =
    let opening : x.opening ≡ y.opening =
    one_begun state.situation x.problem y.problem x.problem_of y.problem_of x.opening y.opening x.opened y.opened in
    let all = one_lines state.situation x.problem y.problem x.problem_of y.problem_of 1
    x.plannings.planned y.plannings.planned x.plannings.steps y.plannings.steps e in
    ap₂ (λ (o : ℕ) (lines : List ℕ). text_by o lines (steps_of x.plannings.planned)) opening all.0
    ∙ ap (text_by y.opening (answer_lines 1 y.plannings.planned)) all.1
