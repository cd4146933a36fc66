-- What makes a situation sound again after a change: what holds of each flight, and of the frozen landings one by one.
use Rattle.std.proofs.Common.{◌≡◌, ◌<◌, ◌≤◌, true, false, length, sym, ap, subst, ◌∙◌, arith}
use Rattle.std.specs.Prelude.{All}
use Rattle.cps_base.specs.Limits.{most_closures, most_flights, most_waiting}
use Rattle.landing_rules.specs.Flights.{Active, Aerodrome, Landing, Situation, waiting, horizon}
use Rattle.landing_rules.specs.Rules.{is_open, lists, ArePairSeparated, IsPairInPrecedence}
use Rattle.landing_rules.specs.Events.{frozen_landings}
use Rattle.landing_rules.specs.Sound.{IsSound, IsGoodFlight, ListsNone}
use Rattle.landing_joint.specs.shared.Members.{Differ, callsigns, differ_pairs}
use Rattle.landing_rules.specs.shared.Counting.{Member}
use Rattle.landing_rules.specs.shared.Members.{all_at, all_from}

-- what is asked of the frozen landings, one by one
pub record FrozenKeep (s : Situation) : Type 0 where
  pub opened : (f : Landing) → Member f (frozen_landings s) → is_open f.flight.windows s.closures f.second ≡ true
  pub separated : (f g : Landing) → Member f (frozen_landings s) → Member g (frozen_landings s)
      → ArePairSeparated s.aerodrome.table f g
  pub in_precedence : (f g : Landing) → Member f (frozen_landings s) → Member g (frozen_landings s)
      → IsPairInPrecedence f g
  pub before : (f : Landing) → Member f (frozen_landings s) → f.second < horizon s
  pub alone : (f : Landing) (a : Active) → Member f (frozen_landings s) → Member a (waiting s)
      → lists f.flight a.flight.callsign ≡ false

pub kept : (s : Situation) → IsSound s → FrozenKeep s
kept s h = record {
  opened = search (arith, all_at, s.closures, h.frozen_open);
  separated = λ f g m n. all_at (ArePairSeparated s.aerodrome.table f) (frozen_landings s)
      (all_at (λ f. All (ArePairSeparated s.aerodrome.table f) (frozen_landings s))
      (frozen_landings s) h.frozen_separated f m) g n;
  in_precedence = λ f g m n. all_at (IsPairInPrecedence f) (frozen_landings s)
      (all_at (λ f. All (IsPairInPrecedence f) (frozen_landings s)) (frozen_landings s) h.frozen_in_precedence f m) g n;
  before = λ f m. all_at (λ (f : Landing). f.second < horizon s) (frozen_landings s) h.frozen_before f m;
  alone = λ f a m n. all_at (λ (a : Active). lists f.flight a.flight.callsign ≡ false) (waiting s)
      (all_at (ListsNone (waiting s)) (frozen_landings s) h.frozen_alone f m) a n;
}

-- the rest of soundness, and the frozen landings
module _ (old new : Situation) (sound : IsSound old) (same : new.aerodrome ≡ old.aerodrome)
    (names : Differ (callsigns new.active)) (few : length new.active ≤ most_flights)
    (few_wait : length (waiting new) ≤ most_waiting)
    (few_closed : length new.closures ≤ most_closures)
    (each : (a : Active) → Member a new.active → IsGoodFlight a.flight × (a.passed ≤ old.aerodrome.k)
    × (old.aerodrome.carry ≡ false → a.passed ≡ 0)) (frozen : FrozenKeep new) where
  pub sound_again : IsSound new
  sound_again = record {
    table = rw same sound.table;
    callsigns = differ_pairs new.active names;
    few_active = few;
    few_waiting = few_wait;
    few_closures = few_closed;
    flights = all_from (λ (a : Active). IsGoodFlight a.flight) new.active (λ a m. (each a m).0);
    passed = all_from (λ (a : Active). a.passed ≤ new.aerodrome.k) new.active
        (λ a m. subst (λ (x : Aerodrome). a.passed ≤ x.k) (sym same) (each a m).1);
    no_carry = λ e. all_from (λ (a : Active). a.passed ≡ 0) new.active (λ a m. (each a m).2 (cc));
    frozen_open = search (arith, all_from);
    frozen_separated = all_from (λ f. All (ArePairSeparated new.aerodrome.table f) (frozen_landings new))
        (frozen_landings new) (λ f m. all_from (ArePairSeparated new.aerodrome.table f) (frozen_landings new)
        (λ g n. frozen.separated f g m n));
    frozen_in_precedence = all_from (λ f. All (IsPairInPrecedence f) (frozen_landings new))
        (frozen_landings new) (λ f m. all_from (IsPairInPrecedence f) (frozen_landings new)
        (λ g n. frozen.in_precedence f g m n));
    frozen_before = all_from (λ (f : Landing). f.second < horizon new) (frozen_landings new) frozen.before;
    frozen_alone = all_from (ListsNone (waiting new)) (frozen_landings new)
        (λ f m. all_from (λ (a : Active). lists f.flight a.flight.callsign ≡ false) (waiting new)
        (λ a n. frozen.alone f a m n));
  }

pub each_of : (s : Situation) → IsSound s → (a : Active) → Member a s.active → IsGoodFlight a.flight
    × (a.passed ≤ s.aerodrome.k) × (s.aerodrome.carry ≡ false → a.passed ≡ 0)
each_of s h a m = (
  all_at (λ (a : Active). IsGoodFlight a.flight) _ h.flights a m,
  all_at (λ (a : Active). a.passed ≤ s.aerodrome.k) _ h.passed a m,
  λ e. all_at (λ (a : Active). a.passed ≡ 0) _ (h.no_carry e) a m,
)

-- where each frozen landing was one before, and each waiting flight has the callsign of one before
pub fewer_frozen : (old new : Situation) → IsSound old → new.aerodrome ≡ old.aerodrome → new.closures ≡ old.closures
    → horizon old ≤ horizon new →
    ((f : Landing) → Member f (frozen_landings new) → Member f (frozen_landings old))
    → ((a : Active) → Member a (waiting new) → (b : Active) × Member b (waiting old)
    × (a.flight.callsign ≡ b.flight.callsign)) → FrozenKeep new
fewer_frozen old new sound same closed later was waited =
    let k = kept old sound in
    record {
      opened = λ f m. ap (λ c. is_open f.flight.windows c f.second) closed ∙ k.opened f (was f m);
      separated = λ f g m n. subst (λ (x : Aerodrome). ArePairSeparated x.table f g) (sym same)
          (k.separated f g (was f m) (was g n));
      in_precedence = λ f g m n. k.in_precedence f g (was f m) (was g n);
      before = λ f m. omega (arith, k.before f (was f m));
      alone = λ f a m n. let w = waited a n in ap (lists f.flight) w.2 ∙ k.alone f w.0 (was f m) w.1;
    }
