use Rattle.std.proofs.Common.{rules, ◌≡◌, ◌+◌, ◌-◌, ◌*◌, ◌/◌, arith, ◌∙◌, length, inr}
use Rattle.std.specs.Prelude.{pos, ◌+ℤ◌, ◌-ℤ◌, IsTrue, ◌↔◌}
use Rattle.std.proofs.lemmas.Int.{ints}
use Rattle.cps_nodes.specs.Windows.{HoldsRank, IsPlaced}
use Rattle.cps_nodes.specs.Digits.{offsets_of, length-offsets_of}
use Rattle.cps_nodes.specs.Ranks.{window_of}
use Rattle.cps_nodes.proofs.WindowLemmas.{tested}
use Rattle.cps_nodes.proofs.PrefixLemmas.{HasLanded-from_IsPlaced, IsPlaced-from_HasLanded}
use Rattle.cps_nodes.proofs.window.Window.placed.Goals as goal

-- the test says whether the window places the rank
placed_is : (g : _) (c : goal.After-holds_rank g) → IsTrue c.holds_rank.result
    ↔ IsPlaced (offsets_of g.row.W c.self.inside.digits) c.args.stage c.args.rank
placed_is g c =
    let test : IsTrue c.holds_rank.result ↔ HoldsRank (offsets_of g.row.W c.self.inside.digits)
    (c.args.rank -ℤ c.args.stage +ℤ pos (length (offsets_of g.row.W c.self.inside.digits) - 1)) =
    tested _ _ _ _ c.holds_rank.ensures
    (omega (arith, ints, length-offsets_of g.row.W c.self.inside.digits, c.self.invariant.window.is_width)) in (
      λ t. inr (test.0 t),
      λ p. search (rules, length-offsets_of),
    )

pub returns-clause-offsets : goal.returns-clause-offsets
returns-clause-offsets g c = rw (← c.self.view_is) (placed_is g c)

pub returns-clause-ranks : goal.returns-clause-ranks
returns-clause-ranks g c = λ ranks is e at.
    let half : g.row.W ≡ 2 * (g.row.W / 2) + 1 = omega (arith, c.self.invariant.window.is_width) in
    let offsets : offsets_of g.row.W c.self.inside.digits ≡ window_of g.row.W ranks = c.self.view_is ∙ e in
    let p : IsTrue c.holds_rank.result ↔ IsPlaced (window_of g.row.W ranks) (pos (length ranks)) c.args.rank =
    rw (← offsets, ← at) (placed_is g c) in grind (arith, HasLanded-from_IsPlaced, IsPlaced-from_HasLanded)
