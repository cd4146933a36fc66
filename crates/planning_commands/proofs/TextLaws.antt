-- From the clauses of printed summaries and efforts to the laws of their texts.
use Rattle.std.proofs.Common.{◌≡◌, ℕ, List, [], ◌∷◌, ◌++◌, Option, None, Some, refl, sym, ap, subst, ◌∙◌, arith}
use Rattle.std.specs.Prelude.{option_map, take}
use Rattle.landing_rules.specs.Events.{Answered, IsPlanShown, State}
use Rattle.landing_rules.specs.Flights.{Schedule, Situation}
use Rattle.landing_rules.specs.Rules.{IsBest, objective}
use Rattle.landing_rules.specs.Text.{Bytes, block_lines, head_words, lines_text, shown_plan}
use Rattle.plan_text.specs.Trial.{trial_head, trial_text}
use Rattle.replays.specs.Efforts.{Effort, answers_of, effort_text}
use Rattle.replays.specs.OneText.{StepsAreOneLaw}
use Rattle.replays.specs.shared.OneSteps.{one_candidates}
use Rattle.replays.specs.Runs.{last_state}
use Rattle.landing_rules.specs.Events as rules
use Rattle.traffic_gen.specs.Made.{Made, traffic}
use Rattle.openings.specs.Plan.{answer_of}
use Rattle.endings.specs.declared.ending.Answer.{Answer}
use Rattle.planning_commands.specs.TextLaws.{EffortTextIsOneLaw, TrialTextIsOneLaw}
use Rattle.planning_commands.specs.Trial.{Sums}

-- ---- trial

-- the first line of a plan's block
abbrev first_line : Situation → Option Schedule → List Bytes
first_line s plan = take 1 (block_lines s.aerodrome.objective (option_map (shown_plan s) plan))

least : (s : Situation) (t u : Schedule) → IsBest s t → IsBest s u → objective s t ≡ objective s u
least s t u a b = omega (arith, a.least u b.feasible, b.least t a.feasible)

-- it is one, whichever plan is shown
one_line : (s : Situation) (plan other : Option Schedule) → IsPlanShown s plan → IsPlanShown s other
    → first_line s plan ≡ first_line s other
one_line s None None a b = refl
one_line s None (Some u) a b = absurd (a u b.0.feasible)
one_line s (Some t) None a b = absurd (b t a.0.feasible)
one_line s (Some t) (Some u) a b = ap (λ (v : ℕ). head_words s.aerodrome.objective v ∷ []) (least s t u a.0 b.0)

abbrev summary : ℕ → ℕ → Situation → ℕ → Option Schedule → List ℕ
summary n k s nodes plan = trial_text n k nodes s.aerodrome.objective (option_map (shown_plan s) plan)

sums_one : (made : Made) (n k : ℕ) (text other : List ℕ) (answer another : Answer)
    → Sums made n k text answer → Sums made n k other another → (text ≡ other) × (answer ≡ another)
sums_one made n k text other answer another x y =
    let one : x.state.situation ≡ y.state.situation = x.opens.situation ∙ sym y.opens.situation in
    let problem = rw one at x.problem_of in
    let nodes : x.nodes ≡ y.nodes =
    one_candidates y.state.situation x.problem y.problem problem y.problem_of x.nodes y.nodes
    x.candidates y.candidates in
    let shown = subst (λ (s : Situation). IsPlanShown s x.state.plan) one x.opens.shown in (
      x.prints ∙ ap (λ (s : Situation). summary n k s x.nodes x.state.plan) one
          ∙ ap (λ (m : ℕ). summary n k y.state.situation m x.state.plan) nodes
          ∙ ap (λ (lines : List Bytes). lines_text (trial_head n k y.nodes ++ lines))
          (one_line y.state.situation x.state.plan y.state.plan shown y.opens.shown) ∙ sym y.prints,
      x.answers ∙ sym y.answers,
    )

pub trial_one : TrialTextIsOneLaw
trial_one seed n k = sums_one (traffic seed n k) n k

-- ---- effort

-- of runs from states that are one
one_effort : StepsAreOneLaw → (state other : State) → state ≡ other → (events others : List rules.Event)
    (x : Effort state events) (y : Effort other others)
    → answers_of x.plannings.planned ≡ answers_of y.plannings.planned → effort_text x ≡ effort_text y
one_effort law state other same events others x =
    subst (λ (s : State). (y : Effort s others) → answers_of x.plannings.planned ≡ answers_of y.plannings.planned
    → effort_text x ≡ effort_text y) same (λ y. law state events others x y)

pub effort_one : StepsAreOneLaw → EffortTextIsOneLaw
effort_one law a f l text other answer another x y run = (
  x.prints ∙ one_effort law x.state y.state run.state x.events y.events x.effort y.effort run.answers ∙ sym y.prints,
  x.answered ∙ ap (λ (s : State). answer_of (last_state s (answers_of x.effort.plannings.planned)).plan) run.state
      ∙ ap (λ (answers : List Answered). answer_of (last_state y.state answers).plan) run.answers ∙ sym y.answered,
)
