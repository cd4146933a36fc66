-- Tests that are made together.
use Rattle.std.proofs.Common.{arith, Bool, true, false}
use Rattle.std.specs.Prelude.{IsTrue, ◌↔◌, ◌&&◌}
use Rattle.std.proofs.lemmas.Bool.{false≢true}

-- three tests hold together where each does
pub all_three : (a b c : Bool) (A B C : Type 0) → (IsTrue a ↔ A) → (IsTrue b ↔ B) → (IsTrue c ↔ C)
    → IsTrue ((a && b) && c) ↔ (A × B × C)
all_three true true true A B C ha hb hc = grind arith
all_three true true false A B C ha hb hc = (λ t. absurd (false≢true t), λ (x, y, z). hc.1 z)
all_three true false c A B C ha hb hc = (λ t. absurd (false≢true t), λ (x, y, z). hb.1 y)
all_three false b c A B C ha hb hc = (λ t. absurd (false≢true t), λ (x, y, z). ha.1 x)
