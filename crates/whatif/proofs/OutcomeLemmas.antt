-- The outcomes of trials, from those at each place; closures as events; and when an outcome is no worse.
use Rattle.std.proofs.Common.{◌≡◌, ℕ, suc, ◌+◌, ◌<◌, ◌≤◌, List, [], ◌∷◌, length, get_or, Option, Some, None, Bool, true}
use Rattle.std.proofs.Common.{false, refl, ap, ◌∙◌, arith}
use Rattle.std.specs.Prelude.{MatchOption, is_some, option_map, nat_le, find, if◌then◌else◌}
use Rattle.std.specs.List.{AllZip}
use Rattle.cps_base.specs.Limits.{most_closures}
use Rattle.landing_rules.specs.Flights.{Situation, Schedule, Span, Landing}
use Rattle.landing_rules.specs.Rules.{IsFeasible, IsBest, objective, is_shut}
use Rattle.landing_rules.specs.Events as rules
use Rattle.arrivals.specs.declared.aerodrome.Aerodrome as aerodromes
use Rattle.arrivals.specs.declared.flight.Flight as files
use Rattle.situations.specs.Answers.{IsAnswer, refusal_of}
use Rattle.situations.specs.declared.refusal.Refusal as code
use Rattle.trial_file.specs.declared.trial.Trial.{Trial}
use Rattle.whatif.specs.declared.outcome.Outcome.{Outcome}
use Rattle.whatif.specs.declared.outcome.TrialRefusal.{TrialRefusal}
use Rattle.whatif.specs.declared.outcome.Outcome.TheVariants.{Value, Infeasible, Refused}
use Rattle.whatif.specs.Laws.{IsNoWorse}
use Rattle.whatif.specs.Outcomes.{HasLeast, IsOutcomeOf, IsOutcomeAt, AreOutcomes, closure_refusal}

-- ---- place by place

all_zip : {A B : Type 0} (P : A → B → Type 0) (xs : List A) (ys : List B) → length ys ≡ length xs
    → ((i : ℕ) (x : A) (y : B) → i < length xs → P (get_or xs i x) (get_or ys i y)) → AllZip P xs ys
all_zip P [] [] e h = tt
all_zip P [] (y ∷ ys) e h = absurd (omega (arith, e))
all_zip P (x ∷ xs) [] e h = absurd (omega (arith, e))
all_zip P (x ∷ xs) (y ∷ ys) e h =
    (h 0 x y (omega arith), all_zip P xs ys (omega (arith, e)) (λ i a b lt. h (suc i) a b (omega (arith, lt))))

pub outcomes_are : (a : aerodromes.Aerodrome) (fs : List files.Flight) (trials : List Trial) (outcomes : List Outcome)
    → length outcomes ≡ length trials + 1
    → ((i : ℕ) (d : Outcome) → i < length trials + 1 → IsOutcomeAt a fs trials i (get_or outcomes i d))
    → AreOutcomes a fs trials outcomes
outcomes_are a fs trials [] e h = absurd (omega (arith, e))
outcomes_are a fs trials (base ∷ rest) e h = (
  h 0 base (omega arith),
  all_zip (IsOutcomeOf a fs) trials rest (omega (arith, e))
      (λ i t o lt. h (suc i) o (omega (arith, lt)) t),
)

-- ---- a closure as an event

pub event_accepted : (s : Situation) (span : Span) → closure_refusal (rules.refusal s (rules.Close span)) ≡ None
    → rules.refusal s (rules.Close span) ≡ None
event_accepted s span e = go (find (λ g. is_shut g.second span) (rules.in_landing_order (rules.frozen_landings s)))
    (nat_le most_closures (length s.closures)) e
  where
    go : (covered : Option Landing) (full : Bool)
        → closure_refusal (if is_some covered
        then option_map (λ g. rules.CoversFrozen g.flight.callsign g.second) covered
        else (if full then Some rules.TooManyClosures else None)) ≡ None
        → (if is_some covered then option_map (λ g. rules.CoversFrozen g.flight.callsign g.second) covered
        else (if full then Some rules.TooManyClosures else None)) ≡ None
    go (Some g) full e = absurd (cc e)
    go None true e = absurd (cc e)
    go None false e = refl

-- the refusal from what the situation answers is that from what the rules do
pub answered : (found : Option code.Refusal) (answer : Option rules.Refusal) (refused : Option TrialRefusal)
    → IsAnswer found answer →
    MatchOption found (refused ≡ None) (λ refusal. refused ≡ closure_refusal (refusal_of refusal))
    → refused ≡ closure_refusal answer
answered None None refused e is = is
answered None (Some q) refused e is = absurd (cc e)
answered (Some r) None refused e is = absurd (cc e)
answered (Some r) (Some q) refused e is =
    let same : refusal_of r ≡ Some q = cc e in is ∙ ap closure_refusal same

-- ---- two situations

-- where the best of the second is no dearer, and the second is not infeasible alone
pub no_worse_by : (s t : Situation) → ((a b : Schedule) → IsBest s a → IsBest t b → objective t b ≤ objective s a)
    → (((u : Schedule) → IsFeasible t u → ⊥) → (a : Schedule) → IsFeasible s a → ⊥) → (x y : Outcome)
    → HasLeast s x → HasLeast t y → IsNoWorse x y
no_worse_by s t le none (Value v) (Value u) (a, best, e) (b, other, f) = omega (arith, le a b best other, e, f)
no_worse_by s t le none (Value v) Infeasible (a, best, e) rest = absurd (none rest a best.feasible)
no_worse_by s t le none (Value v) (Refused r) x y = absurd y
no_worse_by s t le none Infeasible y hx hy = tt
no_worse_by s t le none (Refused r) y hx hy = tt
