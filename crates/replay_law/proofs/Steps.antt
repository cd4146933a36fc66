-- The text of one answer tells the state after it, where the state before it and the event are known.
use Rattle.std.proofs.Common.{arith, ◌≡◌, ℕ, ◌∷◌, ◌++◌, Option, Some, None, refl, ap, append_assoc}
use Rattle.std.specs.Prelude.{option_map}
use Rattle.std.proofs.lemmas.Option.{same_Some}
use Rattle.landing_rules.specs.Flights.{Situation, Schedule}
use Rattle.landing_rules.specs.Events.{Event, Refusal, State, IsPlanShown, Step}
use Rattle.landing_rules.specs.Sound.{IsSound, IsSoundState}
use Rattle.landing_rules.specs.Text.{Bytes, lines_text, ShownPlan, shown_plan, block_text, plan_lines, answer_text}
use Rattle.replay_law.proofs.Lines.{cancel, EndsPlan}
use Rattle.replay_law.proofs.BlockLines.{block_same}
use Rattle.replay_law.proofs.PlanTells.{landings_tell}
use Rattle.replay_law.proofs.Showable.{ShownLaws, plan_showable, named_apart}

-- plans of one sound situation that are shown alike are one
plan_same : (s : Situation) (p q : Option Schedule) → IsSound s → IsPlanShown s p → IsPlanShown s q
    → option_map (shown_plan s) p ≡ option_map (shown_plan s) q → p ≡ q
plan_same s None None h m n e = refl
plan_same s None (Some u) h m n e = absurd (cc e)
plan_same s (Some t) None h m n e = absurd (cc e)
plan_same s (Some t) (Some u) h m n e =
    let shown : shown_plan s t ≡ shown_plan s u = same_Some (shown_plan s t) (shown_plan s u) e in
    ap Some (landings_tell s.active t u (named_apart s.active h.callsigns) m.0.feasible.0 n.0.feasible.0
    (ap (λ (p : ShownPlan). p.landings) shown))

-- plans of one sound situation with the same text, and what stands behind
texts_same : ShownLaws → (s : Situation) (p q : Option Schedule) (u v : Bytes) → IsSound s
    → IsPlanShown s p → IsPlanShown s q → EndsPlan u → EndsPlan v →
    block_text s.aerodrome.objective (option_map (shown_plan s) p)
    ++ u ≡ block_text s.aerodrome.objective (option_map (shown_plan s) q) ++ v → (p ≡ q) × (u ≡ v)
texts_same laws s p q u v h m n a b e = grind (arith, block_same, plan_showable, plan_same)

-- sound states with one situation and the same text are one, behind a line that both have
pub states_same : ShownLaws → (s t : State) (front u v : Bytes) → IsSoundState s → IsSoundState t
    → s.situation ≡ t.situation → EndsPlan u → EndsPlan v →
    lines_text (front ∷ plan_lines s) ++ u ≡ lines_text (front ∷ plan_lines t) ++ v → (s ≡ t) × (u ≡ v)
states_same laws s t front u v h k same a b e = grind (arith, texts_same, cancel, append_assoc)

-- two steps from one state by one event, with the same text
pub steps_same : ShownLaws → (old : State) (event : Event) (n : ℕ) (a b : Option Refusal) (s t : State) (u v : Bytes)
    → IsSoundState s → IsSoundState t → Step old event a s → Step old event b t → EndsPlan u → EndsPlan v →
    answer_text n a s ++ u ≡ answer_text n b t ++ v → (a ≡ b) × (s ≡ t) × (u ≡ v)
steps_same laws old event n a b s t u v h k p q i j e = grind (arith, states_same, same_Some, cancel)
