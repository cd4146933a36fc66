-- What is printed of the outcomes of trials: a line each, the first without a change.
use Rattle.std.specs.Prelude.{ℕ, ◌+◌, List, [], ◌∷◌, ◌++◌, codes, decimal}
use Rattle.landing_rules.specs.Events as rules
use Rattle.landing_rules.specs.Text.{cause}
use Rattle.whatif.specs.declared.outcome.TrialRefusal.{TrialRefusal}
use Rattle.whatif.specs.declared.outcome.TrialRefusal.TheVariants.{DelayShift, PassedAbove, CoversFrozen}
use Rattle.whatif.specs.declared.outcome.TrialRefusal.TheVariants.{TooManyClosures}
use Rattle.whatif.specs.declared.outcome.Outcome.{Outcome}
use Rattle.whatif.specs.declared.outcome.Outcome.TheVariants.{Value, Infeasible, Refused}

-- a closure is refused in the words of its event
abbrev pub cause_words : TrialRefusal → List ℕ
cause_words (DelayShift k) = codes "delay-shift " ++ decimal k
cause_words (PassedAbove i) = codes "passed-above " ++ decimal i
cause_words (CoversFrozen c second) = cause (rules.CoversFrozen c second)
cause_words TooManyClosures = cause rules.TooManyClosures

abbrev pub outcome_words : Outcome → List ℕ
outcome_words (Value v) = decimal v
outcome_words Infeasible = codes "infeasible"
outcome_words (Refused r) = codes "refused " ++ cause_words r

-- the line of trial i
abbrev pub trial_line : ℕ → Outcome → List ℕ
trial_line i o = (((codes "trial " ++ decimal i) ++ 32 ∷ []) ++ outcome_words o) ++ 10 ∷ []

-- the lines of the trials, where the first of them is number i
abbrev pub trial_lines : ℕ → List Outcome → List ℕ
trial_lines i [] = []
trial_lines i (o ∷ rest) = trial_line i o ++ trial_lines (i + 1) rest

abbrev pub outcomes_text : List Outcome → List ℕ
outcomes_text [] = []
outcomes_text (base ∷ rest) = ((codes "base " ++ outcome_words base) ++ 10 ∷ []) ++ trial_lines 1 rest
