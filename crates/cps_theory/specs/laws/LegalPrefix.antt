-- A window and its stage tell what is placed, and a prefix is legal as a whole exactly where it is step by step.
use Rattle.std.proofs.Common.{ℕ, ◌+◌, ◌≤◌, ◌↔◌, List, [], ◌∷◌, length, arith}
use Rattle.std.proofs.lemmas.Bool.{cases_eq}
use Rattle.cps_theory.specs.RankLists.{In}
use Rattle.cps_theory.specs.LegalPrefix.{EachFits, IsLegalPrefix, Legal, NoneDue, OrderRules}

module _ (g : OrderRules) where
  -- a rank that is in stands near a place
  pub in_below : (x : ℕ) (rs : List ℕ) → EachFits g rs → In x rs → x ≤ length rs + g.most
  in_below x [] p i = absurd i
  in_below x (r ∷ rs) p i = grind (arith, in_below x rs)

  pub in_from_one : (x : ℕ) (rs : List ℕ) → EachFits g rs → In x rs → (1 ≤ x) × (x ≤ g.count)
  in_from_one x [] p i = absurd i
  in_from_one x (r ∷ rs) p i = grind (arith, in_from_one x rs)

  -- step by step is the same as by the whole
  pub legal_each_fits : (rs : List ℕ) → Legal g rs → EachFits g rs
  legal_each_fits [] l = tt
  legal_each_fits (r ∷ rs) l = (l.0.fits, legal_each_fits rs l.1)

  pub legal_none_due : (rs : List ℕ) → Legal g rs → NoneDue g rs
  legal_none_due [] l = omega arith
  legal_none_due (r ∷ rs) l = grind (arith, cases_eq, legal_none_due rs)

  pub prefix_legal : ((r : ℕ) → g.back r ≤ g.most) → (rs : List ℕ) → IsLegalPrefix g rs → Legal g rs
  prefix_legal low [] p = tt
  prefix_legal low (r ∷ rs) p = grind (arith, prefix_legal low rs)

  pub legal_is_prefix : ((r : ℕ) → g.back r ≤ g.most) → (rs : List ℕ) → Legal g rs ↔ IsLegalPrefix g rs
  legal_is_prefix low rs = search (legal_each_fits, legal_none_due, prefix_legal)
