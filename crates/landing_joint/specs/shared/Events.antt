-- No event changes the aerodrome, and where one names a flight and is accepted, the flight waits.
use Rattle.std.proofs.Common.{arith}
use Rattle.std.proofs.Common.{◌≡◌, ℕ, Option, Some, None, refl, sym, ap, ◌∙◌, true}
use Rattle.std.specs.Prelude.{find, option_map}
use Rattle.std.proofs.lemmas.Slice.Eq.{bytes_eq-Decides}
use Rattle.landing_rules.specs.Flights.{Active, Callsign, Situation, Schedule}
use Rattle.landing_rules.specs.Events.{Event, Frozen, named, situation_after, unknown_or_frozen}
use Rattle.landing_rules.specs.Sound.{IsSound}
use Rattle.landing_rules.specs.shared.Counting.{Member}
use Rattle.landing_rules.specs.shared.Members.{found_in}
use Rattle.landing_joint.specs.shared.Members.{differ_of, one_of_name}

pub aerodrome_stays : (s : Situation) (plan : Option Schedule) (e : Event)
    → (situation_after s plan e).aerodrome ≡ s.aerodrome
aerodrome_stays s plan e = grind arith

pub named_is : (c : Callsign) (a : Active) → named c a ≡ true → a.flight.callsign ≡ c
named_is c a e = (bytes_eq-Decides _ c).0 e

-- where the event is accepted, each flight of that name waits
pub named_waits : (s : Situation) (c : Callsign) → IsSound s → unknown_or_frozen c (find (named c) s.active) ≡ None
    → (a : Active) → Member a s.active → named c a ≡ true → a.frozen ≡ None
named_waits s c h ok a m e = go _ refl ok
  where
    go : (o : Option Active) → find (named c) s.active ≡ o → unknown_or_frozen c o ≡ None → a.frozen ≡ None
    go None q ok = cc
    go (Some b) q ok =
        let r = found_in _ _ b q in
        let one = one_of_name _ a b (differ_of _ h.callsigns) m r.0 (named_is c a e ∙ sym (named_is c b r.1)) in
        ap (λ (z : Active). z.frozen) one ∙ two _ ok
      where
        two : (o : Option ℕ) → option_map Frozen o ≡ None → o ≡ None
        two o ok = grind arith
