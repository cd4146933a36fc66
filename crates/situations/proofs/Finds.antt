-- What a search of the flights finds among the frozen landings.
use Rattle.std.proofs.Common.{rules, ◌≡◌, ℕ, ◌≤◌, Bool, cond, ◌&&◌, List, [], ◌∷◌, Option, Some, None}
use Rattle.std.proofs.Common.{refl, arith}
use Rattle.std.proofs.lemmas.Grind.{common_steps}
use Rattle.std.specs.Prelude.{find, filter_map, option_map, is_some, nat_le, if◌then◌else◌}
use Rattle.cps_base.specs.Limits.{most_closures}
use Rattle.landing_rules.specs.Flights.{Active, Landing, Callsign, Span, landing}
use Rattle.landing_rules.specs.Rules.{lists, is_shut}
use Rattle.landing_rules.specs.Events.{Refusal, CoversFrozen, TooManyClosures, in_landing_order, insert_landing}
use Rattle.situations.specs.Finds.{first_frozen_listing, earliest_covered}

-- the first frozen landing that lists c
pub listing : (c : Callsign) (xs : List Active)
    → option_map (λ (g : Landing). g.flight.callsign)
    (find (λ g. lists g.flight c) (filter_map (λ a. option_map (landing a) a.frozen) xs)) ≡ first_frozen_listing c xs
listing c [] = refl
listing c (x ∷ xs) = grind (arith, common_steps, listing c xs)

-- ---- the frozen landing in a closure that lands first

-- no landing of the list is before t
abbrev pub NoneBefore : ℕ → List Landing → Type 0
NoneBefore t [] = Unit {0}
NoneBefore t (g ∷ rest) = (t ≤ g.second) × NoneBefore t rest

abbrev pub InOrder : List Landing → Type 0
InOrder [] = Unit {0}
InOrder (g ∷ rest) = NoneBefore g.second rest × InOrder rest

none-weaker : (t u : ℕ) (all : List Landing) → t ≤ u → NoneBefore u all → NoneBefore t all
none-weaker t u [] le n = tt
none-weaker t u (g ∷ rest) le n = (omega (arith, n.0), none-weaker t u rest le n.1)

none-insert : (t : ℕ) (f : Landing) (all : List Landing) → t ≤ f.second → NoneBefore t all
    → NoneBefore t (insert_landing f all)
none-insert t f [] le n = (le, tt)
none-insert t f (g ∷ rest) le n = grind (arith, common_steps, none-insert t f rest le n.1)

order-insert : (f : Landing) (all : List Landing) → InOrder all → InOrder (insert_landing f all)
order-insert f [] o = (tt, tt)
order-insert f (g ∷ rest) o = search (rules, none-insert, none-weaker, order-insert f rest o.1)

pub in-order : (all : List Landing) → InOrder (in_landing_order all)
in-order [] = tt
in-order (f ∷ rest) = search (rules, order-insert, in-order rest)

-- the landing f where it passes and is no later than what was found, and else what was found
abbrev pub sooner : Bool → Landing → Option Landing → Option Landing
sooner v f None = cond v (Some f) None
sooner v f (Some g) = cond (v && nat_le f.second g.second) (Some f) (Some g)

found-late : (t : ℕ) (p : Landing → Bool) (all : List Landing) (g : Landing) → NoneBefore t all
    → find p all ≡ Some g → t ≤ g.second
found-late t p [] g n e = cc
found-late t p (x ∷ rest) g n e = grind (arith, common_steps, found-late t p rest g n.1)

pub find-insert : (span : Span) (f : Landing) (all : List Landing) → InOrder all
    → find (λ g. is_shut g.second span) (insert_landing f all) ≡ sooner (is_shut f.second span) f
    (find (λ g. is_shut g.second span) all)
find-insert span f [] o = refl
find-insert span f (g ∷ rest) o = search (rules, found-late, find-insert span f rest o.1)

abbrev pub named_second : Landing → Callsign × ℕ
named_second g = (g.flight.callsign, g.second)

-- what the loop finds is the first in landing order
pub covered : (span : Span) (xs : List Active)
    → earliest_covered span xs ≡ option_map named_second
    (find (λ g. is_shut g.second span) (in_landing_order (filter_map (λ a. option_map (landing a) a.frozen) xs)))
covered span [] = refl
covered span (x ∷ xs) = search (rules, find-insert, in-order, covered span xs)

abbrev pub CoversAnswer : Option (Callsign × ℕ) → ℕ → Option Refusal
CoversAnswer found n = if is_some found then option_map (λ g. CoversFrozen g.0 g.1) found
    else (if nat_le most_closures n then Some TooManyClosures else None)

pub covers-same : (o : Option Landing) (n : ℕ) → CoversAnswer (option_map named_second o) n ≡
    (if is_some o then option_map (λ (g : Landing). CoversFrozen g.flight.callsign g.second) o
    else (if nat_le most_closures n then Some TooManyClosures else None))
covers-same None n = refl
covers-same (Some g) n = refl
