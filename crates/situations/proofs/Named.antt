-- What is changed by a list of callsigns, one entry after another.
use Rattle.std.proofs.Common.{rules, ◌≡◌, ℕ, ◌<◌, cond, List, [], ◌∷◌, map, length, get_or, Option}
use Rattle.std.proofs.Common.{Some, None, refl, arith, drop, ◌-◌, ◌≤◌}
use Rattle.std.proofs.lemmas.Grind.{common_steps}
use Rattle.std.proofs.Math.Seq.{drop-length}
use Rattle.std.proofs.lemmas.List.{drop_more}
use Rattle.landing_rules.specs.Flights.{Active, Callsign, Situation}
use Rattle.landing_rules.specs.Events.{look_up, named}
use Rattle.arrivals.specs.declared.frozen_list.FrozenLanding.{FrozenLanding}
use Rattle.situations.specs.Opened.{seconds_in}
use Rattle.situations.specs.Named.{counted, frozen_so, with_count, with_second}

-- each flight as the first entry of its callsign says
abbrev pub listed : (Option ℕ → Active → Active) → List (Callsign × ℕ) → List Active → List Active
listed f es xs = map (λ a. f (look_up a.flight.callsign es) a) xs

none_listed : (f : Option ℕ → Active → Active) → ((a : Active) → f None a ≡ a) → (xs : List Active)
    → xs ≡ listed f [] xs
none_listed f stays [] = refl
none_listed f stays (x ∷ xs) = grind (arith, common_steps, none_listed f stays xs)

-- one entry more, ahead of the others
module _ (f : Option ℕ → Active → Active) (c : Callsign) (n : ℕ) (one : Active → Active)
    (first : (o : Option ℕ) (a : Active) → one (f o a) ≡ f (cond (named c a) (Some n) o) a) where
  listed_more : (es : List (Callsign × ℕ)) (xs : List Active) → map one (listed f es xs) ≡ listed f ((c, n) ∷ es) xs
  listed_more es [] = refl
  listed_more es (x ∷ xs) = search (rules, listed_more es xs)

-- the entries of a list from its last to its first
module _ {E : Type 0} (f : Option ℕ → Active → Active) (entries : List E → List (Callsign × ℕ)) (all : List E)
    (s : Situation) where
  -- each flight is as the entries from i on say
  abbrev pub IsAsFrom : ℕ → Situation → Type 0
  IsAsFrom i now = now ≡ record s { active = listed f (entries (drop i all)) s.active }

  pub as_from_end : ((a : Active) → f None a ≡ a) → entries [] ≡ [] → IsAsFrom (length all) s
  as_from_end stays none = search (rules, none_listed, drop-length)

  pub as_from_before : (c : Callsign) (n : ℕ) (one : Active → Active)
      → ((o : Option ℕ) (a : Active) → one (f o a) ≡ f (cond (named c a) (Some n) o) a)
      → (i : ℕ) (e : E) (now new : Situation) → 0 < i → i ≤ length all → e ≡ get_or all (i - 1) e
      → ((es : List E) → entries (e ∷ es) ≡ (c, n) ∷ entries es) → IsAsFrom i now
      → new ≡ record now { active = map one now.active } → IsAsFrom (i - 1) new
  as_from_before c n one first i e now new some within is here so_far set = search (rules, drop_more, listed_more)

  pub as_from_begin : (i : ℕ) (now : Situation) → i ≤ 0 → IsAsFrom i now → IsAsFrom 0 now
  as_from_begin i now none so_far = search rules

pub second_first : (c : Callsign) (n : ℕ) (o : Option ℕ) (a : Active)
    → frozen_so c (Some n) (with_second o a) ≡ with_second (cond (named c a) (Some n) o) a
second_first c n None a = search rules
second_first c n (Some t) a = search rules

pub count_first : (c : Callsign) (n : ℕ) (o : Option ℕ) (a : Active)
    → counted c n (with_count o a) ≡ with_count (cond (named c a) (Some n) o) a
count_first c n None a = search rules
count_first c n (Some t) a = search rules

-- ---- the opening

-- each flight as the entries of `frozen` say
abbrev pub seconds_on : List FrozenLanding → Situation → Situation
seconds_on entries s = record s { active = listed with_second (seconds_in entries) s.active }
