-- What holds of all pairs of a list holds of its first element with each other, and of all pairs behind it.
use Rattle.std.proofs.Common.{suc, List, ◌∷◌, arith}
use Rattle.std.specs.Prelude.{All, AllPairs}

pub pairs_tail : {X : Type 0} (R : X → X → Type 0) (x : X) (xs : List X) → AllPairs R (x ∷ xs) → AllPairs R xs
pairs_tail R x xs h = λ i j d lt le. h (suc i) (suc j) d (omega arith) (omega arith)

pub pairs_head : {X : Type 0} (R : X → X → Type 0) (x : X) (xs : List X) → AllPairs R (x ∷ xs) → All (R x) xs
pairs_head R x xs h = λ k d l. h 0 (suc k) d (omega arith) (omega arith)
