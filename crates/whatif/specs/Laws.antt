-- More shift is never worse, and a closure never better.
use Rattle.std.specs.Prelude.{◌≡◌, ℕ, ◌≤◌, List, None, ⊤}
use Rattle.arrivals.specs.declared.aerodrome.Aerodrome as aerodromes
use Rattle.arrivals.specs.declared.flight.Flight as files
use Rattle.situations.specs.Opened.{opened}
use Rattle.trial_file.specs.declared.trial.Trial.TheVariants.{Shift, Close}
use Rattle.whatif.specs.declared.outcome.Outcome.{Outcome}
use Rattle.whatif.specs.declared.outcome.Outcome.TheVariants.{Value, Infeasible, Refused}
use Rattle.whatif.specs.Outcomes.{refusal, HasLeast, IsOutcomeOf}

-- the second outcome is no worse than the first: its value is no greater, and it has one where the first has
abbrev pub IsNoWorse : Outcome → Outcome → Type 0
IsNoWorse (Value v) (Value u) = u ≤ v
IsNoWorse (Value v) Infeasible = ⊥
IsNoWorse (Value v) (Refused r) = ⊥
IsNoWorse Infeasible y = ⊤
IsNoWorse (Refused r) y = ⊤

-- with a greater limit of shift, where neither is refused
abbrev pub MoreShiftOutcomeLaw : Type 0
MoreShiftOutcomeLaw = (a : aerodromes.Aerodrome) (fs : List files.Flight) (k l : ℕ) (x y : Outcome)
    → k ≤ l → refusal a fs (Shift k) ≡ None → refusal a fs (Shift l) ≡ None
    → IsOutcomeOf a fs (Shift k) x → IsOutcomeOf a fs (Shift l) y → IsNoWorse x y

-- without the closure the outcome is no worse than with it, where it is not refused
abbrev pub NoClosureOutcomeLaw : Type 0
NoClosureOutcomeLaw = (a : aerodromes.Aerodrome) (fs : List files.Flight) (from to : ℕ) (x y : Outcome)
    → refusal a fs (Close from to) ≡ None
    → IsOutcomeOf a fs (Close from to) x → HasLeast (opened a fs) y → IsNoWorse x y

-- with a closure that lies inside it the outcome is no worse, where neither is refused
abbrev pub InnerClosureOutcomeLaw : Type 0
InnerClosureOutcomeLaw = (a : aerodromes.Aerodrome) (fs : List files.Flight) (from to first end : ℕ) (x y : Outcome)
    → from ≤ first → end ≤ to
    → refusal a fs (Close from to) ≡ None → refusal a fs (Close first end) ≡ None → IsOutcomeOf a fs (Close from to) x
    → IsOutcomeOf a fs (Close first end) y → IsNoWorse x y
