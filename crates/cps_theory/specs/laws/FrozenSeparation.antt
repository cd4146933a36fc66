-- All flights keep the separation exactly where the frozen ones do, the waiting ones do, and each waiting one does
-- after the last frozen one.
use Rattle.std.proofs.Common.{ℕ, ◌+◌, ◌<◌, ◌≤◌, ◌⊎◌, inl, inr, List, ◌++◌, arith}
use Rattle.std.proofs.lemmas.Bool.{cases_eq}
use Rattle.cps_theory.specs.RankLists.{In}
use Rattle.cps_theory.specs.NumberedSituation.{AllSeparated}
use Rattle.cps_theory.specs.laws.Members.{append_in, in_append}

-- `x` is the last of the frozen ones, which land before h, and the others at h or later
module _ (s : ℕ → ℕ → ℕ) (triangle : (a b c : ℕ) → s a c ≤ s a b + s b c) (t : ℕ → ℕ) (h x : ℕ)
    (frozen waiting : List ℕ) (there : In x frozen) (latest : (f : ℕ) → In f frozen → t f ≤ t x) (before : (f : ℕ)
    → In f frozen → t f < h) (behind : (g : ℕ) → In g waiting → h ≤ t g) where
  pub joined_apart : AllSeparated s t frozen → AllSeparated s t waiting → ((g : ℕ) → In g waiting → t x + s x g ≤ t g)
      → AllSeparated s t (frozen ++ waiting)
  joined_apart af aw start f g i j ne le = go (in_append f _ _ i) (in_append g _ _ j)
    where
      go : In f frozen ⊎ In f waiting → In g frozen ⊎ In g waiting → t f + s f g ≤ t g
      go (inl a) (inl b) = af f g a b ne le
      go (inr a) h = grind arith
      go (inl a) (inr b) = elim (cases_eq f x) [
        | inl e ↦ rw e (start g b)
        | inr nx ↦ omega (arith, triangle f x g)
      ]

  pub apart_parts : AllSeparated s t (frozen ++ waiting) → AllSeparated s t waiting
      × ((g : ℕ) → In g waiting → t x + s x g ≤ t g)
  apart_parts a = grind (arith, append_in)
