-- The outcomes of trials are one list.
use Rattle.std.specs.Prelude.{◌≡◌, List}
use Rattle.arrivals.specs.declared.aerodrome.Aerodrome.{Aerodrome}
use Rattle.arrivals.specs.declared.flight.Flight.{Flight}
use Rattle.trial_file.specs.declared.trial.Trial.{Trial}
use Rattle.whatif.specs.declared.outcome.Outcome.{Outcome}
use Rattle.whatif.specs.Outcomes.{AreOutcomes}

-- two lists of the outcomes of the same trials of the same files are one
abbrev pub OutcomesAreOneLaw : Type 0
OutcomesAreOneLaw = (a : Aerodrome) (fs : List Flight) (trials : List Trial) (xs ys : List Outcome)
    → AreOutcomes a fs trials xs → AreOutcomes a fs trials ys → xs ≡ ys
