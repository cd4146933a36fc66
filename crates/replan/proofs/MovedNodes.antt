-- Windows of one node are so at each stage behind the first k.
use Rattle.std.proofs.Common.{◌≡◌, ℕ, ◌+◌, ◌-◌, ◌/◌, ◌%◌, ◌≤◌, inl, inr, List, length, sym, ap, ◌∙◌, arith}
use Rattle.std.specs.Prelude.{ℤ, pos, nat_abs, ◌+ℤ◌, ◌-ℤ◌, ◌≤ℤ◌}
use Rattle.std.proofs.lemmas.Int.{ints}
use Rattle.std.proofs.lemmas.Bool.{cases_lt}
use Rattle.cps_nodes.specs.Windows.{IsPlaced, IsWindow, offset_at}
use Rattle.cps_network.specs.Lists.{node_at, AreWindows}
use Rattle.replan.specs.WindowNodes.{told_at, AreOneNode, ArePutTogether}

placed_moved : (s t : ℕ) (xs ys : List ℤ) → length xs ≡ length ys → length xs / 2 ≤ s
    → ((r : ℕ) → 1 ≤ r → IsPlaced xs (pos s) (pos r) → IsPlaced ys (pos s) (pos r))
    → (rank : ℕ) → IsPlaced xs (pos t) (pos rank) → IsPlaced ys (pos t) (pos rank)
placed_moved s t xs ys long le h rank (inl due) = inl (omega (arith, ints, ap (λ n. n / 2) long))
placed_moved s t xs ys long le h rank (inr holds) =
    let e : length xs / 2 ≡ length ys / 2 = ap (λ n. n / 2) long in
    elim (cases_lt t (rank + length xs / 2)) [
      | inl late ↦
          let r : ℕ = rank + s - t in
          let there : pos rank -ℤ pos t ≡ pos r -ℤ pos s = omega (arith, ints) in
          let at = rw there at holds in
          elim (h r (omega arith) (inr at)) [
            | inl due ↦ absurd (omega (arith, ints, due))
            | inr held ↦ inr (rw there held)
          ]
      | inr early ↦ inl (omega (arith, ints))
    ]

same_abs : (a b : ℤ) → pos 0 ≤ℤ a → pos 0 ≤ℤ b → nat_abs a ≡ nat_abs b → a ≡ b
same_abs a b la lb e = grind (arith, ints)

pub one_moved : (w s t : ℕ) (xs ys : List ℤ) → IsWindow w xs → IsWindow w ys → w / 2 ≤ s → w / 2 ≤ t
    → AreOneNode s xs ys → AreOneNode t xs ys
one_moved w s t xs ys x y ls lt o =
    let kx : length xs / 2 ≡ w / 2 = ap (λ n. n / 2) x.len in
    let ky : length ys / 2 ≡ w / 2 = ap (λ n. n / 2) y.len in
    let some : w % 2 ≡ 1 = x.is_width.0 in
    let lx = x.low (length xs - 1) (let l = x.len in omega arith) in
    let ly = y.low (length ys - 1) (let l = y.len in omega arith) in
    let a : ℤ = offset_at xs _ in
    let b : ℤ = offset_at ys _ in
    let same : pos s +ℤ a ≡ pos s +ℤ b = same_abs _ _ (omega (arith, ints)) (omega (arith, ints)) o.last in
    let offset : a ≡ b = omega (arith, ints) in
    record {
      placed = λ rank one. (
        placed_moved s t xs ys (x.len ∙ sym y.len) (omega arith) (λ r some. (o.placed r some).0) rank,
        placed_moved s t ys xs (y.len ∙ sym x.len) (omega arith) (λ r some. (o.placed r some).1) rank,
      );
      last = ap (λ z. nat_abs (pos t +ℤ z)) offset;
    }

-- windows that are put together at the one stage are so at the other
pub together_moved : (w s t : ℕ) (windows : List (List ℤ)) (places firsts : List ℕ) → AreWindows w windows
    → w / 2 ≤ s → w / 2 ≤ t
    → ArePutTogether s windows (length windows) places firsts → ArePutTogether t windows (length windows) places firsts
together_moved w s t windows places firsts valid ls lt g = record {
  long = g.long;
  within = g.within;
  first = g.first;
  own = g.own;
  one = λ i inside. one_moved w s t (node_at windows (told_at firsts (told_at places i))) (node_at windows i)
      (valid (told_at firsts (told_at places i)) (g.first (told_at places i) (g.within i inside)))
      (valid i inside) ls lt (g.one i inside);
  apart = λ i j li lj o. g.apart i j li lj (one_moved w t s (node_at windows (told_at firsts i))
      (node_at windows (told_at firsts j))
      (valid (told_at firsts i) (g.first i li)) (valid (told_at firsts j) (g.first j lj)) lt ls o);
}
