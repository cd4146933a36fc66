-- A run goes on by one step, and so does its text.
use Rattle.std.proofs.Common.{◌≡◌, ℕ, ◌+◌, ◌<◌, ◌≤◌, List, [], ◌∷◌, ◌++◌, length, map, drop, get_or, refl, sym, ap}
use Rattle.std.proofs.Common.{◌∙◌, arith, append_assoc, append-nil}
use Rattle.std.proofs.lemmas.List.{drop_more, drop_all}
use Rattle.landing_rules.specs.Events.{Event, State, Step, Answered, Run}
use Rattle.replays.specs.Runs.{last_state}
use Rattle.landing_rules.specs.Text.{answer_text, answers_text}

pub Run-push : (s : State) (events : List Event) (answers : List Answered) (e : Event) (a : Answered) →
    Run s events answers → Step (last_state s answers) e a.answer a.state → Run s (events ++ e ∷ []) (answers ++ a ∷ [])
Run-push s [] [] e a r step = (step, tt)
Run-push s [] (b ∷ rest) e a r step = absurd r
Run-push s (x ∷ events) [] e a r step = absurd r
Run-push s (x ∷ events) (b ∷ rest) e a r step = (r.0, Run-push b.state events rest e a r.1 step)

pub answers_text-push : (i : ℕ) (answers : List Answered) (a : Answered) →
    answers_text i (answers ++ a ∷ []) ≡ answers_text i answers ++ answer_text (i + length answers) a.answer a.state
answers_text-push i [] a = append-nil (answer_text i a.answer a.state)
    ∙ ap (λ n. answer_text n a.answer a.state) (omega arith)
answers_text-push i (b ∷ rest) a =
    let e : (i + 1) + length rest ≡ i + length (b ∷ rest) = omega arith in
    ap (λ l. answer_text i b.answer b.state ++ l) (answers_text-push (i + 1) rest a
    ∙ ap (λ n. answers_text (i + 1) rest ++ answer_text n a.answer a.state) e) ∙
    sym (append_assoc (answer_text i b.answer b.state) (answers_text (i + 1) rest)
    (answer_text (i + length (b ∷ rest)) a.answer a.state))

pub last_state-push : (s : State) (answers : List Answered) (a : Answered) → last_state s (answers ++ a ∷ []) ≡ a.state
last_state-push s [] a = refl
last_state-push s (b ∷ rest) a = last_state-push b.state rest a

-- ---- events by their place

pub event_at : {X : Type 0} (f : X → Event) (xs : List X) (i : ℕ) (x : X) → i < length xs → x ≡ get_or xs i x
    → map f (drop i xs) ≡ f x ∷ map f (drop (i + 1) xs)
event_at f xs i x h e = ap (map f) (drop_more xs i x h) ∙ ap (λ (y : _). f y ∷ map f (drop (i + 1) xs)) (sym e)

pub none_left : {X : Type 0} (f : X → Event) (xs : List X) (i : ℕ) → length xs ≤ i → map f (drop i xs) ≡ []
none_left f xs i h = ap (map f) (drop_all i xs h)
