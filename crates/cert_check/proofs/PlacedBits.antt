-- The node of a prefix by the bits of its ranks.
use Rattle.std.proofs.Common.{rules, ◌≡◌, ℕ, zero, suc, ◌+◌, ◌-◌, ◌*◌, ◌<◌, ◌≤◌, ◌^◌, ◌⊎◌, ◌↔◌, Bool, eqb, List, ◌∷◌}
use Rattle.std.proofs.Common.{length, refl, ap, ◌∙◌, arith}
use Rattle.std.proofs.lemmas.Grind.{common_steps}
use Rattle.std.specs.Prelude.{◌/◌}
use Rattle.std.specs.Int.{bit_at}
use Rattle.std.proofs.Math.Nat.{pow-suc, div-div-eq-div-mul}
use Rattle.precedence.specs.Pairs.{HasBit}
use Rattle.cps_theory.specs.RankLists.{In}
use Rattle.cps_theory.specs.LandingTrail.{last_rank}
use Rattle.cps_theory.specs.LegalPrefix.{OrderRules}
use Rattle.cps_theory.specs.Patterns.{is_member, pattern_node, tests_from}
use Rattle.cps_theory.specs.laws.PatternNetwork.{tests_agree, member_in, in_member}
use Rattle.certificate.specs.Patterns.{bits}
use Rattle.cert_check.specs.PlacedBits.{digits_of}

member_bit : (rs : List ℕ) (placed r : ℕ) → HasBit placed r ↔ In r rs → is_member r rs ≡ eqb (bit_at placed r) 1
member_bit rs placed r h = search (rules, member_in, in_member)

pub pattern_of_bits : (g : OrderRules) (rs : List ℕ) (placed : ℕ) → ((r : ℕ) → 1 ≤ r → HasBit placed r ↔ In r rs)
    → pattern_node g rs ≡ (length rs, digits_of g.most (length rs) placed, last_rank rs)
pattern_of_bits g rs placed h = grind (arith, member_bit)

-- ---- as the bits of a number

half_more : (n y : ℕ) → n / 2 ^ y / 2 ≡ n / 2 ^ (suc y)
half_more n y = simp (div-div-eq-div-mul, pow-suc)

bits_are_tests : (n y m : ℕ) → bits m (n / 2 ^ y) ≡ tests_from (λ i. eqb (bit_at n i) 1) y m
bits_are_tests n y zero = refl
bits_are_tests n y (suc m) =
    ap (λ (ds : List Bool). eqb (bit_at n y) 1 ∷ ds) (ap (bits m) (half_more n y) ∙ bits_are_tests n (suc y) m)

pub digits_are_bits : (k stage placed marks : ℕ)
    → ((y : ℕ) → HasBit marks y ↔ ((y ≤ k) ⊎ ((k < y) × HasBit placed (y - k))))
    → digits_of k stage placed ≡ bits (2 * k) (marks / 2 ^ (stage + 1))
digits_are_bits k stage placed marks h = grind (arith, common_steps, tests_agree, bits_are_tests)
