-- The nodes of a stage by number, in the order of a certificate; and the slots in which their pairs are put together.
use Rattle.std.specs.Prelude.{◌≡◌, ℕ, ◌+◌, ◌*◌, ◌/◌, ◌%◌, ◌^◌, ◌<◌, length}
use Rattle.cps_theory.specs.Patterns.{PatternNode}
use Rattle.certificate.specs.Patterns.{bits, number_of}

-- the number of a node among those of its stage: by its digits, then by its last rank
pub record HasNumber (k : ℕ) (d : PatternNode) (number : ℕ) : Type 0 where
  pub digits : length d.1 ≡ 2 * k
  pub pattern : number_of d.1 ≡ number / 8
  pub last : d.2 + k ≡ number % 8 + d.0

-- its slot: the same with digit 1 as the lowest
pub record HasSlot (k : ℕ) (d : PatternNode) (slot : ℕ) : Type 0 where
  pub pattern : d.1 ≡ bits (2 * k) (slot / 8)
  pub last : d.2 + k ≡ slot % 8 + d.0
  pub within : slot < 8 * 2 ^ (2 * k)
