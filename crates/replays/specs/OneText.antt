-- That the steps printed for a run are those of the run.
use Rattle.std.specs.Prelude.{◌≡◌, List}
use Rattle.landing_rules.specs.Events.{State, Event}
use Rattle.replays.specs.Efforts.{Effort, answers_of, effort_text}

-- two efforts from one state with the same answers and states after it have one text
abbrev pub StepsAreOneLaw : Type 0
StepsAreOneLaw = (state : State) (events others : List Event) (x : Effort state events) (y : Effort state others)
    → answers_of x.plannings.planned ≡ answers_of y.plannings.planned → effort_text x ≡ effort_text y
