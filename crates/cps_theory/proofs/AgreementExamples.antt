-- Examples of agreement, and of the stages that count.
use Rattle.std.proofs.Common.{◌≡◌, ℕ, ◌+◌, ◌≤◌, true, false, refl, arith}
use Rattle.std.proofs.lemmas.Bool.{false≢true}
use Rattle.cps_theory.specs.LegalPrefix.{OrderRules}
use Rattle.cps_theory.specs.Agreement.{AgreeBelow, SameLandings, counts}

-- ---- d = 3 and k = 1: stages 2 and above are filled again, and those that were not held

stage_one_kept : counts 3 1 2 1 ≡ false
stage_one_kept = refl

stage_two_filled : counts 3 1 2 2 ≡ true
stage_two_filled = refl

stage_three_new : counts 9 1 2 3 ≡ true
stage_three_new = refl

-- ---- the rules of an order

abbrev rules : ℕ → OrderRules
rules n = record { count = n; most = 1; back = λ r. 1; before = λ a r. false }

agree_below_three : AgreeBelow 3 (rules 2) (rules 7)
agree_below_three = grind (arith, false≢true)

same_landings : SameLandings 3 (λ r t. 1000 ≤ t) (λ r t. 1000 ≤ t) (λ l t r. t + 60) (λ l t r. t + 60)
    (λ r t. t) (λ r t. t)
same_landings = omega arith
