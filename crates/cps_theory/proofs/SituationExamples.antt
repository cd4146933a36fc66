-- Examples of situations: flights 7 and 9, of which 7 came first and 9 lands first.
use Rattle.std.proofs.Common.{◌≡◌, ℕ, inl, [], ◌∷◌, true, false, cond, ltb, refl, arith}
use Rattle.std.proofs.lemmas.Bool.{cases_eq, le-ltb, ltb-false, false≢true, ltb-true, lt-ltb}
use Rattle.std.proofs.lemmas.List.Sorted.{IsPermutation-refl}
use Rattle.cps_theory.specs.RankLists.{In}
use Rattle.cps_theory.specs.Feasible.{RankedProblem}
use Rattle.cps_theory.specs.Freeze.{FirstCome, KeepsCountedShift, frozen_of, overtook, place_in, rank_in, staying_of}
use Rattle.cps_theory.specs.NumberedSituation.{FeasibleIn, NumberedSituation, ProblemOf, SoundSituation, active}
use Rattle.cps_theory.specs.Objectives.{SameObjectives, latest_in}

-- flight 7 lands at 1200, flight 9 at 1000
abbrev plan : ℕ → ℕ
plan f = cond (ltb f 8) 1200 1000

seven_waits_second : place_in plan (7 ∷ 9 ∷ []) 7 ≡ 2
seven_waits_second = refl

seven_ranks_first : rank_in ltb (7 ∷ 9 ∷ []) 7 ≡ 1
seven_ranks_first = refl

keeps_shift : KeepsCountedShift 1 (λ f. 1) ltb plan (7 ∷ 9 ∷ []) 7
keeps_shift = omega arith

-- it was passed over once, so that the next time it may not go back
frozen_nine : frozen_of plan 1100 (7 ∷ 9 ∷ []) ≡ 9 ∷ []
frozen_nine = refl

staying_seven : staying_of plan 1100 (7 ∷ 9 ∷ []) ≡ 7 ∷ []
staying_seven = refl

overtaken_once : overtook ltb plan 1100 (7 ∷ 9 ∷ []) 7 ≡ 1
overtaken_once = refl

by_number : FirstCome ltb
by_number = omega (arith, le-ltb, ltb-true, lt-ltb, ltb-false, cases_eq)

-- one flight waits, and lands 60 seconds or more after the frozen flight 5
abbrev situation : NumberedSituation
situation = record {
  most = 1;
  back = λ f. 1;
  horizon = 1000;
  frozen = 5 ∷ [];
  waiting = 7 ∷ [];
  frozen_at =
      λ f. 980;
  is_open = λ f t. true;
  apart = λ f g. 60;
  lists = λ f g. false;
  comes_before = ltb;
}

abbrev landing_of : ℕ → ℕ
landing_of f = cond (ltb f 6) 980 1040

one_of : (P : ℕ → Type 0) (x : ℕ) → P x → (y : ℕ) → In y (x ∷ []) → P y
one_of P x p y h = grind arith

two_of : (P : ℕ → Type 0) → P 5 → P 7 → (y : ℕ) → In y (5 ∷ 7 ∷ []) → P y
two_of P p q y x = grind (arith, one_of)

feasible_situation : FeasibleIn situation landing_of
feasible_situation = grind (arith, one_of, two_of, false≢true)

sound_situation : SoundSituation situation
sound_situation = grind (arith, by_number, one_of, false≢true)

both_active : active situation ≡ 5 ∷ 7 ∷ []
both_active = refl

latest_of_both : latest_in landing_of (5 ∷ 7 ∷ []) ≡ 1040
latest_of_both = refl

-- ---- its problem: one flight, from 60 seconds after the frozen landing on

abbrev problem : RankedProblem
problem = record {
  rules = record { count = 1; most = 1; back = λ r. 1; before = λ a r. false };
  is_open =
      λ r u. true;
  start = λ r. 1040;
  apart = λ q r. 60;
}

problem_is : ProblemOf situation problem (λ r. 7)
problem_is = record {
  most_is = refl;
  back_is = λ r. refl;
  open_is = λ r u. refl;
  apart_is = λ q r. refl;
  before_is = λ q r i j. refl;
  start_low = λ r t le. (omega arith, λ x i most. omega arith);
  start_high = λ r t le after. after 5 (inl refl) (omega arith);
  at_in = λ r i. inl refl;
  at_all = λ f i. (1, (omega arith, omega arith), one_of (λ x. 7 ≡ x) 7 refl f i);
  at_order = λ q r i j lt. absurd (omega arith);
  permuted = IsPermutation-refl (7 ∷ []);
}

objectives : SameObjectives situation problem (λ r. 7) landing_of
objectives = omega arith
