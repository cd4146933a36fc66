-- What `plan` does over the contents of its two files.
use Rattle.std.specs.Prelude.{ℕ, List}
use Rattle.cps_outside.specs.SinkState.{SinkState}
use Rattle.endings.specs.declared.ending.Ending.{Ending}
use Rattle.openings.specs.Follows.{FollowsAtOnce}
use Rattle.openings.specs.Plan.{AdmitsPlan, RefusesPlan}

-- what `plan` does, with this ending
abbrev pub FollowsPlan : List ℕ → List ℕ → SinkState → SinkState → Ending → Type 0
FollowsPlan aerodrome flights = FollowsAtOnce (AdmitsPlan aerodrome flights) (RefusesPlan aerodrome flights)
