-- Two runs of the same files with the same text are one, step by step.
use Rattle.std.proofs.Common.{◌≡◌, ℕ, zero, suc, ◌+◌, List, [], ◌∷◌, take, refl, sym, subst, ◌∙◌, arith}
use Rattle.std.specs.Prelude.{All, codes}
use Rattle.std.proofs.lemmas.List.Elements.{All-head, All-tail}
use Rattle.landing_rules.specs.Events.{Event, State, Answered, Run}
use Rattle.landing_rules.specs.Sound.{IsSoundState, IsGoodEvent}
use Rattle.landing_rules.specs.Text.{answers_text}
use Rattle.landing_joint.specs.StepLaws.{StepKeepsSoundLaw}
use Rattle.replay_law.specs.Runs.{TextLaw}
use Rattle.replay_law.proofs.Lines.{EndsPlan}
use Rattle.replay_law.proofs.Showable.{ShownLaws}
use Rattle.replay_law.proofs.Steps.{states_same, steps_same}

answers_end : (n : ℕ) (xs : List Answered) → EndsPlan (answers_text n xs)
answers_end n [] = refl
answers_end n (x ∷ xs) = grind arith

-- no answer has no text
some_text : (n : ℕ) (x : Answered) (xs : List Answered) → [] ≡ answers_text n (x ∷ xs) → ⊥
some_text n x xs e = grind arith

answers_same : ShownLaws → StepKeepsSoundLaw → (old : State) (events : List Event) (m n number : ℕ)
    (xs ys : List Answered) → IsSoundState old → All IsGoodEvent events →
    Run old (take m events) xs → Run old (take n events) ys → answers_text number xs ≡ answers_text number ys → xs ≡ ys
answers_same laws sound old events m n number [] [] h good p q e = refl
answers_same laws sound old events m n number [] (y ∷ ys) h good p q e = absurd (some_text number y ys e)
answers_same laws sound old events m n number (x ∷ xs) [] h good p q e = absurd (some_text number x xs (sym e))
answers_same laws sound old events zero n number (x ∷ xs) (y ∷ ys) h good p q e = absurd p
answers_same laws sound old events (suc m) zero number (x ∷ xs) (y ∷ ys) h good p q e = absurd q
answers_same laws sound old [] (suc m) (suc n) number (x ∷ xs) (y ∷ ys) h good p q e = absurd p
answers_same laws sound old (event ∷ events) (suc m) (suc n) number (x ∷ xs) (y ∷ ys) h good p q e =
    let own : IsGoodEvent event = All-head IsGoodEvent event events good in
    let next : IsSoundState x.state = sound old x.state event x.answer h own p.0 in
    let one = steps_same laws old event number x.answer y.answer x.state y.state (answers_text (number + 1) xs)
    (answers_text (number + 1) ys)
    next (sound old y.state event y.answer h own q.0) p.0 q.0 (answers_end (number + 1) xs)
    (answers_end (number + 1) ys) e in
    let here : x ≡ y = λ i. record { answer = one.0 i; state = one.1 i } in
    let same : Run x.state (take n events) ys = subst (λ (s : State). Run s (take n events) ys) (sym one.1) q.1 in
    let more : xs ≡ ys = answers_same laws sound x.state events m n (number + 1) xs ys next
    (All-tail IsGoodEvent event events good) p.1 same one.2 in
    λ i. here i ∷ more i

pub text_law : ShownLaws → StepKeepsSoundLaw → TextLaw
text_law laws sound o flights events m n s t xs ys opened good p q e =
    let first : IsSoundState s = record { situation = rw p.opened.situation opened; shown = p.opened.shown } in
    let other : IsSoundState t = record { situation = rw q.opened.situation opened; shown = q.opened.shown } in
    let begun = states_same laws s t (codes "event 0 begun") (answers_text 1 xs) (answers_text 1 ys) first other
    (p.opened.situation ∙ sym q.opened.situation) (answers_end 1 xs) (answers_end 1 ys) e in
    let same : Run s (take n events) ys = subst (λ (z : State). Run z (take n events) ys) (sym begun.0) q.steps in
    (begun.0, answers_same laws sound s events m n 1 xs ys first good p.steps same begun.1)
