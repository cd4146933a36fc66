-- An aerodrome with another limit of shift that is not refused opens too.
use Rattle.std.proofs.Common.{◌≡◌, ℕ, zero, suc, ◌+◌, ◌≤◌, List, [], ◌∷◌, Option, Some, None, Bool, true, false, refl}
use Rattle.std.proofs.Common.{sym, subst, arith}
use Rattle.std.specs.Prelude.{All, ◌&&◌, nat_lt, option_map, if◌then◌else◌, Result, Ok, Err, IfOk}
use Rattle.cps_base.specs.Limits.{greatest_k}
use Rattle.landing_rules.specs.declared.objective.Objective.{Objective}
use Rattle.landing_rules.specs.declared.objective.Objective.TheVariants.{Makespan, Delay}
use Rattle.arrivals.specs.declared.aerodrome.Aerodrome as aerodromes
use Rattle.arrivals.specs.declared.passed_list.PassedCount.{PassedCount}
use Rattle.arrivals.specs.Aerodromes.{IsInRange, is_delay, is_beyond, most_shift}
use Rattle.arrivals.specs.declared.flight.Flight as files
use Rattle.landing_joint.specs.Shift.{with_shift}
use Rattle.situations.specs.Opened.{opened}
use Rattle.situations.specs.Refused.{IsOpenable}
use Rattle.trial_file.specs.declared.trial.Trial.TheVariants.{Shift}
use Rattle.whatif.specs.declared.outcome.Outcome.{Outcome}
use Rattle.whatif.specs.declared.outcome.TrialRefusal.{TrialRefusal}
use Rattle.whatif.specs.declared.outcome.TrialRefusal.TheVariants.{DelayShift, PassedAbove}
use Rattle.whatif.specs.Outcomes.{first_above, shift_refusal, HasLeast, IsOutcomeBy, IsOutcomeOf}

neither : (k : ℕ) (b : Bool) (o : Option ℕ) → (if b then Some (DelayShift k) else option_map PassedAbove o) ≡ None
    → (b ≡ false) × (o ≡ None)
neither k true o e = absurd (cc e)
neither k false None e = (refl, refl)
neither k false (Some i) e = absurd (cc e)

not_beyond : (o : Objective) (m k : ℕ) → (is_delay o && nat_lt m k) ≡ false → is_delay o ≡ true → k ≤ m
not_beyond Makespan m k e d = absurd (cc d)
not_beyond Delay m k e d = grind (arith, e)

not_above : (k n : ℕ) (p : PassedCount) (rest : Option ℕ) → (if nat_lt k p.count then Some n else rest) ≡ None
    → (p.count ≤ k) × (rest ≡ None)
not_above k n p rest e = go (nat_lt k p.count) refl e
  where
    go : (b : Bool) → nat_lt k p.count ≡ b → (if b then Some n else rest) ≡ None → (p.count ≤ k) × (rest ≡ None)
    go true h f = absurd (cc f)
    go false h f = (grind (arith, h), f)

none_above : (k n : ℕ) (ps : List PassedCount) → first_above k n ps ≡ None → All (λ (p : PassedCount). p.count ≤ k) ps
none_above k n [] e i d lt = absurd (omega (arith, lt))
none_above k n (p ∷ ps) e zero d lt = (not_above k n p (first_above k (n + 1) ps) e).0
none_above k n (p ∷ ps) e (suc i) d lt =
    none_above k (n + 1) ps (not_above k n p (first_above k (n + 1) ps) e).1 i d (omega (arith, lt))

module _ (a : aerodromes.Aerodrome) (fs : List files.Flight) (k : ℕ) (few : k ≤ greatest_k)
    (accepted : shift_refusal a k ≡ None) where
  in_range : IsInRange a → IsInRange (record a { k = k })
  in_range r =
      let both = neither k (is_beyond a.version k a.objective) (first_above k 1 a.passed) accepted in
      record {
        version = r.version;
        k = few;
        freeze = r.freeze;
        shift = not_beyond a.objective (most_shift a.version) k both.0;
        clock = r.clock;
        frozen = r.frozen;
        carry = r.carry;
        passed = record {
          few = r.passed.few;
          counts = λ i d lt. ((r.passed.counts i d lt).0, none_above k 1 a.passed both.1 i d lt);
          callsigns = r.passed.callsigns;
        };
        no_clock = r.no_clock;
        none_frozen = r.none_frozen;
        none_passed = r.none_passed;
      }

  pub shifted_opens : (other : aerodromes.Aerodrome) → other ≡ a → IsOpenable a fs
      → IsOpenable (record other { k = k }) fs
  shifted_opens other e opens =
      subst (λ (z : aerodromes.Aerodrome). IsOpenable (record z { k = k }) fs) (sym e) (
        record {
          aerodrome = in_range opens.0.aerodrome;
          few = opens.0.few;
          flights = opens.0.flights;
          callsigns = opens.0.callsigns;
        },
        opens.1,
      )

  -- what comes of it is the outcome of the trial
  pub shifted_outcome : {E : Type 0} (other : aerodromes.Aerodrome) → other ≡ a → (r : Result Outcome E)
      → IfOk r (HasLeast (opened (record other { k = k }) fs)) → IfOk r (IsOutcomeOf a fs (Shift k))
  shifted_outcome other e (Err z) h = tt
  shifted_outcome other e (Ok o) h =
      subst (λ (r : Option TrialRefusal). IsOutcomeBy (with_shift k (opened a fs)) r o) (sym accepted)
      (subst (λ (z : aerodromes.Aerodrome). HasLeast (opened (record z { k = k }) fs) o) e h)
