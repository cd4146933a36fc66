-- Two problems have one first difference, whichever of them comes first.
use Rattle.std.proofs.Common.{◌≡◌, ℕ, ◌≤◌, inl, inr, sym, arith}
use Rattle.std.proofs.lemmas.Bool.{cases_lt}
use Rattle.landing_rules.specs.Problem.{Problem}
use Rattle.cps_problem.specs.FirstDifference.{HaveSameHead, AgreeUpTo, IsFirstDifference}

no_less : (p q : Problem) (a b : ℕ) → IsFirstDifference p q a → IsFirstDifference p q b → a ≤ b
no_less p q a b x y = elim (cases_lt 1 a) [
  | inl more ↦ y.greatest a x.within (x.agree more)
  | inr one ↦ (let c = y.from_one in omega arith)
]

pub one_first_difference : (p q : Problem) (a b : ℕ) → IsFirstDifference p q a → IsFirstDifference p q b → a ≡ b
one_first_difference p q a b x y = let c = no_less p q a b x y in let d = no_less p q b a y x in omega arith

-- ---- the other way round

pub same_head_back : (p q : Problem) → HaveSameHead p q → HaveSameHead q p
same_head_back p q h = grind arith

pub agree_back : (p q : Problem) (r : ℕ) → AgreeUpTo p q r → AgreeUpTo q p r
agree_back p q r a = record {
  head = same_head_back p q a.head;
  flights = λ i lt. sym (a.flights i lt);
  predecessors = λ j one lt.
      let b = a.predecessors j one lt in
      record { below = λ i from to. sym (b.below i from to); from = (b.from.1, b.from.0) };
}
