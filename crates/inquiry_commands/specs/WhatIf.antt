-- What `whatif` prints over the contents of its three files, and which it refuses.
use Rattle.std.specs.Prelude.{◌≡◌, ◌≤◌, ℕ, List, length, All, None}
use Rattle.landing_rules.specs.Sound.{IsSound}
use Rattle.arrivals.specs.declared.aerodrome.Aerodrome.{Aerodrome}
use Rattle.arrivals.specs.Aerodromes.{IsInRange}
use Rattle.arrivals.specs.declared.flight.Flight.{Flight}
use Rattle.whatif.specs.declared.outcome.Outcome.{Outcome}
use Rattle.trial_file.specs.declared.trial.Trial.{Trial}
use Rattle.whatif.specs.Outcomes.{AreOutcomes}
use Rattle.trial_file.specs.Reading.{trials_of}
use Rattle.trial_file.specs.Trials.{IsGood, most_trials}
use Rattle.sequencer.specs.Opened.{opened}
use Rattle.whatif.specs.Text.{outcomes_text}
use Rattle.text_bounds.specs.Counts.{trial_count}
use Rattle.text_bounds.specs.Trials.{outcomes_bound}
use Rattle.cps_outside.specs.SinkState.{SinkState}
use Rattle.endings.specs.declared.ending.Answer.{Answer}
use Rattle.endings.specs.declared.ending.Answer.TheVariants.{Tried}
use Rattle.endings.specs.declared.ending.Ending.{Ending}
use Rattle.endings.specs.declared.ending.FilesFault.{FilesFault}
use Rattle.endings.specs.declared.ending.FilesFault.TheVariants as refusal
use Rattle.endings.specs.Files.{HoldsOfThree}
use Rattle.endings.specs.Refusing.{RefusesThree, Stops, opening_refusal}
use Rattle.openings.specs.Follows.{FollowsAtOnce}

abbrev pub RefusesWhatIf : List ℕ → List ℕ → List ℕ → FilesFault → Type 0
RefusesWhatIf = RefusesThree refusal.Trials trials_of

-- The files are taken, with their numbers in range and at most 16 trials, and open a sound situation. The text has a
-- line for the outcome as they are and for that of each trial.
pub record AreTried (aerodrome : Aerodrome) (flights : List Flight) (trials : List Trial) (text : List ℕ) : Type 0 where
  pub taken : opening_refusal aerodrome flights ≡ None
  pub range : IsInRange aerodrome
  pub good : All IsGood trials
  pub few : length trials ≤ most_trials
  pub sound : IsSound (opened aerodrome flights)
  pub outcomes : List Outcome
  pub are : AreOutcomes aerodrome flights trials outcomes
  pub prints : text ≡ outcomes_text outcomes

-- The files read as an aerodrome, flights and trials, and these are their outcomes.
abbrev pub AdmitsWhatIf : List ℕ → List ℕ → List ℕ → List ℕ → Answer → Type 0
AdmitsWhatIf a f t text answer =
    HoldsOfThree trials_of a f t (λ aerodrome flights trials. AreTried aerodrome flights trials text × (answer ≡ Tried))

-- what `whatif` does, with this ending
abbrev pub FollowsWhatIf : List ℕ → List ℕ → List ℕ → SinkState → SinkState → Ending → Type 0
FollowsWhatIf aerodrome flights trials =
    FollowsAtOnce (AdmitsWhatIf aerodrome flights trials) (RefusesWhatIf aerodrome flights trials)

-- how `whatif` may stop before it writes
abbrev pub StopsWhatIf : List ℕ → List ℕ → List ℕ → Ending → Type 0
StopsWhatIf aerodrome flights trials = Stops (RefusesWhatIf aerodrome flights trials)

-- two texts that `whatif` may print for the same files are one, with one answer
abbrev pub WhatIfTextIsOneLaw : Type 0
WhatIfTextIsOneLaw = (aerodrome flights trials text other : List ℕ) (answer another : Answer)
    → AdmitsWhatIf aerodrome flights trials text answer → AdmitsWhatIf aerodrome flights trials other another
    → (text ≡ other) × (answer ≡ another)

-- how many bytes such a text has at most
abbrev pub WhatIfIsBoundedLaw : Type 0
WhatIfIsBoundedLaw = (aerodrome flights trials text : List ℕ) (answer : Answer)
    → AdmitsWhatIf aerodrome flights trials text answer
    → length text ≤ outcomes_bound (trial_count trials)
