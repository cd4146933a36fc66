-- What comes next after a stage comes next after another whose ranks in reach wait alike.
use Rattle.std.proofs.Common.{rules, ◌≡◌, ℕ, ◌+◌, ◌-◌, ◌*◌, ◌%◌, ◌^◌, ◌<◌, ◌≤◌, List, length, arith, ◌∙◌, ap, inl, inr}
use Rattle.std.proofs.Common.{subst}
use Rattle.std.specs.Prelude.{ℤ, pos, ◌↔◌, Contains}
use Rattle.std.proofs.lemmas.Int.{ints}
use Rattle.std.proofs.lemmas.Bool.{cases_lt}
use Rattle.std.proofs.lemmas.Nat.{one_shl}
use Rattle.std.proofs.lemmas.Nat.Bits.{bit_at_ones, bit_at_ones_above}
use Rattle.precedence.specs.Pairs.{HasBit}
use Rattle.cps_nodes.specs.Windows.{Accepts, IsPlaced, shifted}
use Rattle.cps_nodes.specs.Laws.{offset_after}
use Rattle.landing_rules.specs.Problem.{Problem}
use Rattle.cps_network.specs.Permits.{IsSuccessor}
use Rattle.cps_network.specs.Again.{AllWaitAlike, AreAsFar, AreInReach, HaveSameNext, WaitsFor, WaitsForNoMore}
use Rattle.cps_network.specs.Again.{WaitsNear}
use Rattle.cps_network.proofs.LayerLemmas.{window_at}

pub far_back : (p : Problem) (a : ℕ) (q : Problem) (b : ℕ) → AreAsFar p a q b → AreAsFar q b p a
far_back p a q b far = omega arith

pub reach_back : (p : Problem) (a rank : ℕ) (q : Problem) (b other : ℕ) → AreAsFar p a q b
    → AreInReach p a rank q b other → AreInReach q b other p a rank
reach_back p a rank q b other far is = omega arith

wait_back : (p : Problem) (a : ℕ) (q : Problem) (b : ℕ) → AreAsFar p a q b → AllWaitAlike p a q b → AllWaitAlike q b p a
wait_back p a q b far all other rank is =
    let there = all rank other (reach_back q b other p a rank (far_back p a q b far) is) in grind arith

-- a flight that is placed by a stage and one that is as far from another stage
placed_moves : (xs : List ℤ) (a b first same : ℕ) → same + b ≡ first + a → IsPlaced xs (pos a) (pos same)
    → IsPlaced xs (pos b) (pos first)
placed_moves xs a b first same far placed = grind arith

-- a successor at one stage is one at the other
successor_moves : (p q : Problem) (a b : ℕ) (xs x : List ℤ) → length xs ≡ 2 * p.k + 1 → AreAsFar p a q b
    → AllWaitAlike p a q b
    → IsSuccessor p a xs x → IsSuccessor q b xs x
successor_moves p q a b xs x len far all (rank, is, e) =
    let here : AreInReach p a rank q b (rank + b - a) = omega arith in
    let there = reach_back p a rank q b (rank + b - a) far here in
    let alike = all rank (rank + b - a) here in
    let same : offset_after a rank ≡ offset_after b (rank + b - a) = omega (arith, ints, here.as_far) in (
      rank + b - a,
      record {
        from_one = there.from_one;
        to_count = there.to_count;
        early = there.early;
        late = omega arith;
        accepted = subst (λ (o : ℤ). Accepts xs o) same is.accepted;
        after = search (rules, placed_moves);
      },
      e ∙ ap (shifted xs) same,
    )

pub same_next : (p q : Problem) (a b : ℕ) → AreAsFar p a q b → AllWaitAlike p a q b → HaveSameNext p a q b
same_next p q a b far all before after valid next x =
    let long : 2 * q.k + 1 ≡ 2 * p.k + 1 = omega (arith, far.k) in (
      λ has. let s : (window : List ℤ) × Contains before window × IsSuccessor p a window x = (next x).0 has in (
        s.0,
        s.1,
        successor_moves p q a b s.0 x ((window_at (2 * q.k + 1) before s.0 valid s.1).len ∙ long) far all s.2,
      ),
      λ s. (next x).1 (
        s.0,
        s.1,
        successor_moves q p b a s.0 x (window_at (2 * q.k + 1) before s.0 valid s.1).len
            (far_back p a q b far) (wait_back p a q b far all) s.2,
      ),
    )

-- where each flight before a rank can have landed by a stage, the places from the first that is not due tell which it
-- waits for
pub waits_by_places : (p q : Problem) (a rank b other : ℕ) → AreAsFar p a q b → AreInReach p a rank q b other
    → WaitsNear p a rank
    → ((place : ℕ) → place < 2 * p.k → WaitsFor p a rank place → WaitsFor q b other place)
    → WaitsForNoMore p a rank q b other
waits_by_places p q a rank b other far is near each first must = elim (cases_lt a (first + p.k)) [
  | inl waits ↦
      let low : first ≤ a + p.k = near first must in
      let there : WaitsFor q b other (first + p.k - a - 1) = grind arith in grind arith
  | inr due ↦ inl due
]

-- the low bits are the numbers below their count
pub low_bits : (count number : ℕ) → count ≤ 63 → HasBit (1 * 2 ^ count % 2 ^ 64 - 1) number ↔ (number < count)
low_bits count number few =
    let whole : 1 * 2 ^ count % 2 ^ 64 ≡ 2 ^ count = one_shl count 64 (omega arith) in
    grind (arith, bit_at_ones, bit_at_ones_above)
