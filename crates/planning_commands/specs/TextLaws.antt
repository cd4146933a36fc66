-- What the texts of `trial` and `effort` have in common, over its numbers and over the bytes of its files.
use Rattle.std.specs.Prelude.{◌≡◌, ℕ, List}
use Rattle.replays.specs.Efforts.{answers_of}
use Rattle.endings.specs.declared.ending.Answer.{Answer}
use Rattle.planning_commands.specs.Effort.{AdmitsEffort}
use Rattle.planning_commands.specs.Trial.{AdmitsTrial}

-- two texts that `trial` may print for the same numbers are one, with one answer
abbrev pub TrialTextIsOneLaw : Type 0
TrialTextIsOneLaw = (seed n k : ℕ) (text other : List ℕ) (answer another : Answer) → AdmitsTrial seed n k text answer
    → AdmitsTrial seed n k other another → (text ≡ other) × (answer ≡ another)

-- the run of the one has the opening state, the answers and the states after it of the run of the other
pub record HaveOneRun {aerodrome flights log text other : List ℕ} {answer another : Answer}
    (x : AdmitsEffort aerodrome flights log text answer)
    (y : AdmitsEffort aerodrome flights log other another) : Type 0 where
  pub state : x.state ≡ y.state
  pub answers : answers_of x.effort.plannings.planned ≡ answers_of y.effort.plannings.planned

-- two texts that `effort` may print for one run over the same files are one, with one answer
abbrev pub EffortTextIsOneLaw : Type 0
EffortTextIsOneLaw = (aerodrome flights log text other : List ℕ) (answer another : Answer)
    (x : AdmitsEffort aerodrome flights log text answer) (y : AdmitsEffort aerodrome flights log other another)
    → HaveOneRun x y → (text ≡ other) × (answer ≡ another)
