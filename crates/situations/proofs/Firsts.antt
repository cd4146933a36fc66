-- What stands first in a list.
use Rattle.std.proofs.Common.{rules, ◌≡◌, ℕ, ◌+◌, ◌≤◌, Bool, not, arith, List, [], ◌∷◌, ◌++◌, length, drop, Option}
use Rattle.std.proofs.Common.{Some, None, refl, sym, ap, ◌∙◌}
use Rattle.std.proofs.lemmas.Grind.{common_steps}
use Rattle.std.specs.Prelude.{filter_map, position, option_map}
use Rattle.std.specs.List.{position_from, enumerate_from}
use Rattle.std.specs.Option.{option_or}
use Rattle.std.proofs.lemmas.List.{drop-drop}
use Rattle.std.proofs.lemmas.Iterator.Adapters.{position_from-zero}
use Rattle.landing_rules.specs.Flights.{Landing}
use Rattle.cps_base.specs.laws.FindMap.{first_answer}
use Rattle.situations.specs.declared.opening_refusal.OpeningFault.{OpeningFault}
use Rattle.situations.specs.Refused.{unless, first_from, clash_at, clash_from}

-- ---- the first fault

-- the first element that fails its test, where the first one is at place n, gives the first fault
module _ {X : Type 0} (ok : X → Bool) (fault : ℕ → OpeningFault) where
  from_place : (n k : ℕ) (xs : List X)
      → option_map (λ i. fault (i + n)) (position_from (λ x. not (ok x)) k xs) ≡ first_from
      (λ i x. unless (ok x) (fault i)) (k + n) xs
  from_place n k [] = refl
  from_place n k (x ∷ xs) = grind (arith, common_steps, from_place n (k + 1) xs)

  pub first_place : (n : ℕ) (xs : List X) (at : Option ℕ) → at ≡ position (λ x. not (ok x)) xs
      → option_map (λ i. fault (i + n)) at ≡ first_from (λ i x. unless (ok x) (fault i)) n xs
  first_place n xs at e = search (rules, position_from-zero, from_place)

-- the first answer along the elements with their numbers from 0 is the first fault with their places from 1
pub first_numbered : {X : Type 0} (fault_at : ℕ → X → Option OpeningFault) (n : ℕ) (xs : List X)
    → first_answer (λ p. fault_at (p.0 + 1) p.1) (enumerate_from n xs) ≡ first_from fault_at (n + 1) xs
unfolding first_answer
first_numbered fault_at n [] = refl
first_numbered fault_at n (x ∷ xs) = cc (first_numbered fault_at (n + 1) xs)

-- the first landing behind one with its number that is not the table's time from it
abbrev pub clash_behind : List (List ℕ) → List Landing → ℕ × Landing → Option OpeningFault
clash_behind table all g = first_from (clash_at table (g.0 + 1) g.1) (g.0 + 2) (drop (g.0 + 1) all)

pub first_clashing : (table : List (List ℕ)) (all : List Landing) (n : ℕ) (xs : List Landing)
    → drop n all ≡ xs → first_answer (clash_behind table all) (enumerate_from n xs) ≡ clash_from table (n + 1) xs
unfolding first_answer
first_clashing table all n [] e = refl
first_clashing table all n (x ∷ xs) e =
    let rest : drop (n + 1) all ≡ xs = sym (drop-drop 1 n all) ∙ ap (drop 1) e in
    let two : n + 2 ≡ n + 1 + 1 = omega arith in
    ap (λ m. option_or (first_from (clash_at table (n + 1) x) m (drop (n + 1) all))
    (first_answer (clash_behind table all) (enumerate_from (n + 1) xs))) two
    ∙ rw (rest, first_clashing table all (n + 1) xs rest) refl

-- ---- the landings that entries give

module _ {X Y : Type 0} (h : X → Option Y) (xs : List X) (i : ℕ) (x : X) (done whole : List Y)
    (here : drop i xs ≡ x ∷ drop (i + 1) xs) (e : done ++ filter_map h (drop i xs) ≡ whole) where
  pub given_more : (y : Y) → h x ≡ Some y → (done ++ y ∷ []) ++ filter_map h (drop (i + 1) xs) ≡ whole
  given_more y k = grind (arith, common_steps)

  pub given_none : h x ≡ None → done ++ filter_map h (drop (i + 1) xs) ≡ whole
  given_none k = cc

pub few_given : {X Y : Type 0} (h : X → Option Y) (xs : List X) → length (filter_map h xs) ≤ length xs
few_given h [] = omega arith
few_given {Y = Y} h (x ∷ xs) = grind (arith, common_steps, few_given h xs)
