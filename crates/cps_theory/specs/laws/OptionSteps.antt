-- What a chain of optional steps gives, if it gives anything.
use Rattle.std.proofs.Common.{arith}
use Rattle.std.proofs.Common.{◌≡◌, Option, Some, option_and_then, option_map}
pub use Rattle.std.proofs.lemmas.Option.{same_Some as some_same}

pub bound : {A B : Type 0} (f : A → Option B) (o : Option A) (b : B) → option_and_then f o ≡ Some b
    → (a : A) × (o ≡ Some a) × (f a ≡ Some b)
bound f o b e = grind arith

pub mapped : {A B : Type 0} (f : A → B) (o : Option A) (b : B) → option_map f o ≡ Some b
    → (a : A) × (o ≡ Some a) × (f a ≡ b)
mapped f o b e = grind arith
