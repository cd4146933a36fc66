-- The least objective is one, and so is the outcome of each trial.
use Rattle.std.proofs.Common.{◌≡◌, List, [], ◌∷◌, Option, Some, None, refl, sym, ap, ◌∙◌, arith}
use Rattle.std.specs.List.{AllZip}
use Rattle.landing_rules.specs.Flights.{Situation}
use Rattle.arrivals.specs.declared.aerodrome.Aerodrome.{Aerodrome}
use Rattle.arrivals.specs.declared.flight.Flight.{Flight}
use Rattle.situations.specs.Opened.{opened}
use Rattle.trial_file.specs.declared.trial.Trial.{Trial}
use Rattle.whatif.specs.declared.outcome.Outcome.{Outcome}
use Rattle.whatif.specs.declared.outcome.Outcome.TheVariants.{Value, Infeasible, Refused}
use Rattle.whatif.specs.declared.outcome.TrialRefusal.{TrialRefusal}
use Rattle.whatif.specs.Outcomes.{HasLeast, IsOutcomeBy, IsOutcomeOf, changed, refusal}
use Rattle.whatif.specs.OneText.{OutcomesAreOneLaw}

one_least : (s : Situation) (x y : Outcome) → HasLeast s x → HasLeast s y → x ≡ y
one_least s (Value v) (Value w) h k =
    ap Value (omega (arith, h.1.least k.0 k.1.feasible, k.1.least h.0 h.1.feasible, h.2, k.2))
one_least s (Value v) Infeasible h k = absurd (k h.0 h.1.feasible)
one_least s (Value v) (Refused r) h k = absurd k
one_least s Infeasible (Value w) h k = absurd (h k.0 k.1.feasible)
one_least s Infeasible Infeasible h k = refl
one_least s Infeasible (Refused r) h k = absurd k
one_least s (Refused r) y h k = absurd h

one_outcome : (s : Situation) (o : Option TrialRefusal) (x y : Outcome) → IsOutcomeBy s o x → IsOutcomeBy s o y → x ≡ y
one_outcome s None x y h k = one_least s x y h k
one_outcome s (Some r) x y h k = h ∙ sym k

module _ (a : Aerodrome) (fs : List Flight) where
  one_each : (trials : List Trial) (xs ys : List Outcome) → AllZip (IsOutcomeOf a fs) trials xs
      → AllZip (IsOutcomeOf a fs) trials ys → xs ≡ ys
  one_each [] [] [] h k = refl
  one_each [] [] (y ∷ ys) h k = absurd k
  one_each [] (x ∷ xs) ys h k = absurd h
  one_each (t ∷ ts) [] ys h k = absurd h
  one_each (t ∷ ts) (x ∷ xs) [] h k = absurd k
  one_each (t ∷ ts) (x ∷ xs) (y ∷ ys) h k =
      cc (one_outcome (changed (opened a fs) t) (refusal a fs t) x y h.0 k.0, one_each ts xs ys h.1 k.1)

pub outcomes_one : OutcomesAreOneLaw
outcomes_one a fs trials [] ys h k = absurd h
outcomes_one a fs trials (x ∷ xs) [] h k = absurd k
outcomes_one a fs trials (x ∷ xs) (y ∷ ys) h k =
    cc (one_least (opened a fs) x y h.0 k.0, one_each a fs trials xs ys h.1 k.1)
