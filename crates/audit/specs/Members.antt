-- Which findings are listed: each exactly where a rule is broken.
use Rattle.std.specs.Prelude.{◌≡◌, ◌↔◌, ◌<◌, ℕ, Bool, false, List, Some, slice_get}
use Rattle.std.specs.List.{Contains}
use Rattle.landing_rules.specs.Audit.{Finding, for_failing, for_failing_pairs}

-- an element that fails the test, and of which this is the finding
pub record Breaks {X : Type 0} (passes : X → Bool) (finding : X → Finding) (xs : List X)
    (found : Finding) : Type 0 where
  pub element : X
  pub there : Contains xs element
  pub fails : passes element ≡ false
  pub gives : finding element ≡ found

-- two elements, the first above the second, that fail the test, and of which this is the finding
pub record BreakTogether {X : Type 0} (pass : X → X → Bool) (finding : X → X → Finding) (xs : List X)
    (found : Finding) : Type 0 where
  pub above : ℕ
  pub below : ℕ
  pub order : above < below
  pub first : X
  pub second : X
  pub first_there : slice_get xs above ≡ Some first
  pub second_there : slice_get xs below ≡ Some second
  pub fails : pass first second ≡ false
  pub gives : finding first second ≡ found

-- a finding is listed exactly where an element breaks the rule
abbrev pub EachBreakLaw : Type 0 → Type 0
EachBreakLaw X = (passes : X → Bool) (finding : X → Finding) (xs : List X) (found : Finding) →
    Contains (for_failing passes finding xs) found ↔ Breaks passes finding xs found

-- a finding is listed exactly where two elements, neighbours or not, break the rule
abbrev pub EachPairLaw : Type 0 → Type 0
EachPairLaw X = (pass : X → X → Bool) (finding : X → X → Finding) (xs : List X) (found : Finding) →
    Contains (for_failing_pairs pass finding xs) found ↔ BreakTogether pass finding xs found
