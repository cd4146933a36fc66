-- An open second lies in the two days.
use Rattle.std.proofs.Common.{◌≡◌, ℕ, suc, ◌≤◌, inl, inr, List, [], ◌∷◌, true, not, nat_le, arith}
use Rattle.std.specs.List.{list_any}
use Rattle.std.specs.Prelude.{All}
use Rattle.std.proofs.lemmas.Bool.{and_parts, or_cases, leb-true, le-leb, false≢true}
use Rattle.landing_rules.specs.Flights.{Span}
use Rattle.landing_rules.specs.Rules.{last_second, is_open, is_within}

any_low : (ws : List Span) (u : ℕ) → All (λ w. (w.0 ≤ w.1) × (w.1 ≤ last_second)) ws → list_any (is_within u) ws ≡ true
    → u ≤ last_second
any_low [] u a e = absurd (false≢true e)
any_low (w ∷ ws) u a e = elim (or_cases _ _ e) [
  | inl x ↦ (let c = leb-true u w.1 (and_parts (nat_le w.0 u) (nat_le u w.1) x).1 in omega
      (arith, (a 0 w (omega arith)).1))
  | inr x ↦ any_low ws u (λ k d lt. a (suc k) d (omega arith)) x
]

pub open_in_days : (windows closures : List Span) (u : ℕ) → All (λ w. (w.0 ≤ w.1) × (w.1 ≤ last_second)) windows
    → is_open windows closures u ≡ true → u ≤ last_second
open_in_days windows closures u a e = grind (arith, any_low, and_parts, not)

-- the same as a test
pub open_low : (windows closures : List Span) (u : ℕ) → All (λ w. (w.0 ≤ w.1) × (w.1 ≤ last_second)) windows
    → is_open windows closures u ≡ true → nat_le u last_second ≡ true
open_low windows closures u a e = le-leb u _ (open_in_days _ _ u a e)
