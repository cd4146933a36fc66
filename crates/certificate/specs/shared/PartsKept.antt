-- The landings of a certificate with one more, how long a pattern is, and how great its number.
use Rattle.std.proofs.Common.{rules, ◌≡◌, ℕ, ◌<◌, ◌≤◌, ◌^◌, Bool, true, false, List, [], ◌∷◌, ◌++◌, length, arith}
use Rattle.cps_base.specs.Text.{is_callsign}
use Rattle.certificate.specs.Patterns.{number_of}
use Rattle.certificate.specs.Reading.{AreLandings}
use Rattle.landing_rules.specs.Rules.{last_second}

pub landings_more : (ls : List (List ℕ × ℕ)) (l : List ℕ × ℕ) → AreLandings ls → is_callsign l.0 ≡ true
    → l.1 ≤ last_second → AreLandings (ls ++ l ∷ [])
landings_more [] l h p q = (p, q, tt)
landings_more (x ∷ xs) l h p q = (h.0, h.1, landings_more xs l h.2 p q)

pub number_below : (ds : List Bool) → number_of ds < 2 ^ length ds
number_below [] = omega arith
number_below (true ∷ ds) = search (rules, number_below ds)
number_below (false ∷ ds) = search (rules, number_below ds)
