-- Digits as numbers, and nodes by number and by slot.
use Rattle.std.proofs.Common.{rules, ◌≡◌, ℕ, zero, suc, ◌+◌, ◌-◌, ◌*◌, ◌/◌, ◌%◌, ◌^◌, ◌<◌, ◌≤◌, Bool, true, false, cond}
use Rattle.std.proofs.Common.{eqb, List, [], ◌∷◌, length, refl, sym, ap, ap₂, subst, ◌∙◌, arith}
use Rattle.std.proofs.lemmas.Grind.{common_steps}
use Rattle.std.specs.Prelude.{◌↔◌, ◌⊎◌, max, bit_or}
use Rattle.std.specs.Int.{bit_at, reverse_bits, reverse_bits_onto, w8}
use Rattle.std.proofs.Common.{inl, inr, mod-lt, shr-shr}
use Rattle.std.specs.Prelude.{nat_le, nat_eq, ◌||◌}
use Rattle.std.proofs.lemmas.Bool.{cases_lt}
use Rattle.std.proofs.lemmas.Bool.Decides.{nat_tests}
use Rattle.std.proofs.lemmas.Nat.{field_of, one_shl, pow_pos, div-mul-add}
use Rattle.std.proofs.lemmas.Nat.Bits.{bit_at_above, bit_at_or, bit_at_ones, bit_at_ones_above, bit_at-lt, bit_at-suc}
use Rattle.std.proofs.Math.Pow.{mod-mod-pow}
use Rattle.cps_base.specs.Limits.{greatest_k}
use Rattle.cps_theory.specs.Patterns.{tests_from}
use Rattle.cert_check.specs.PlacedBits.{digits_of, is_marked}
use Rattle.precedence.specs.Pairs.{HasBit}
use Rattle.std.specs.Ordering.{bool_cmp}
use Rattle.std.specs.declared.cmp.Ordering.TheVariants.{Less, Equal}
use Rattle.std.specs.Cmp.Lexicographic.{slice_cmp}
use Rattle.std.proofs.Math.Nat.{pow-succ', div-add-mod', pow-le-pow_right}
use Rattle.cps_theory.specs.Patterns.{PatternNode}
use Rattle.cps_theory.specs.CertificateClosure.{node_cmp}
use Rattle.landing_joint.specs.shared.NodePairs.{node_is}
use Rattle.certificate.specs.Patterns.{bits, number_of}
use Rattle.certificate.specs.shared.PartsKept.{number_below}
use Rattle.cert_writer.specs.Slots.{HasNumber, HasSlot}

pub length_bits : (n ones : ℕ) → length (bits n ones) ≡ n
length_bits zero ones = refl
length_bits (suc n) ones = ap suc (length_bits n (ones / 2))

-- digits of one number are one
pub number_one : (xs ys : List Bool) → length xs ≡ length ys → number_of xs ≡ number_of ys → xs ≡ ys
number_one [] [] l e = refl
number_one [] (y ∷ ys) l e = cc
number_one (x ∷ xs) [] l e = cc
number_one (true ∷ xs) (true ∷ ys) l e =
    let long : length xs ≡ length ys = omega (arith, l) in cc
    (number_one xs ys long (omega (arith, e, (ap (λ n. 2 ^ n) long))))
number_one (false ∷ xs) (false ∷ ys) l e = cc (number_one xs ys (omega (arith, l)) (omega (arith, e)))
number_one (true ∷ xs) (false ∷ ys) l e = search (rules, number_below)
number_one (false ∷ xs) (true ∷ ys) l e = search (rules, number_below)

-- digits of a lesser number come before
pub number_less : (xs ys : List Bool) → length xs ≡ length ys → number_of xs < number_of ys
    → slice_cmp bool_cmp xs ys ≡ Less
number_less [] [] l lt = search rules
number_less [] (y ∷ ys) l lt = cc
number_less (x ∷ xs) [] l lt = cc
number_less (true ∷ xs) (true ∷ ys) l lt =
    let long : length xs ≡ length ys = omega (arith, l) in
    number_less xs ys long (omega (arith, lt, (ap (λ n. 2 ^ n) long)))
number_less (false ∷ xs) (false ∷ ys) l lt = number_less xs ys (omega (arith, l)) (omega (arith, lt))
number_less (false ∷ xs) (true ∷ ys) l lt = refl
number_less (true ∷ xs) (false ∷ ys) l lt = search (rules, number_below)

-- ---- turned digits

-- one digit more, as the lowest
odd_digit : (ones b : ℕ) → b < 2 → eqb ((ones * 2 + b) % 2) 1 ≡ eqb b 1
odd_digit ones b lt = search rules

digit_value : (b : ℕ) (n : ℕ) → b < 2 → cond (eqb b 1) n 0 ≡ b * n
digit_value zero n lt = omega arith
digit_value (suc zero) n lt = omega arith
digit_value (suc (suc b)) n lt = absurd (omega arith)

turned_more : (n j rest ones : ℕ) → n ≡ rest * 2 ^ j + number_of (bits j ones)
    → n ≡ rest / 2 * 2 ^ suc j + number_of (bits (suc j) (ones * 2 + rest % 2))
turned_more n j rest ones e =
    let b : rest % 2 < 2 = omega arith in
    let value : number_of (bits (suc j) (ones * 2 + rest % 2)) ≡ rest % 2 * 2 ^ j + number_of (bits j ones) =
    ap₂ (λ (d : Bool) (ds : List Bool). cond d (2 ^ length ds) 0 + number_of ds) (odd_digit ones (rest % 2) b)
    (ap (bits j) (omega arith))
    ∙ ap (λ m. cond (eqb (rest % 2) 1) (2 ^ m) 0 + number_of (bits j ones)) (length_bits j ones)
    ∙ ap (λ v. v + number_of (bits j ones)) (digit_value (rest % 2) (2 ^ j) b) in
    let whole : rest * 2 ^ j ≡ (rest / 2 * 2 + rest % 2) * 2 ^ j = ap (λ r. r * 2 ^ j) (omega arith) in
    let up : rest / 2 * 2 ^ suc j ≡ rest / 2 * (2 * 2 ^ j) = ap (λ m. rest / 2 * m) (pow-succ' 2 j) in omega arith

turned_step : (n j rest ones : ℕ) → (n ≡ rest * 2 ^ j + number_of (bits j ones)) × (ones < 2 ^ j) →
    (n ≡ rest / 2 * 2 ^ (j + 1) + number_of (bits (j + 1) (ones * 2 + rest % 2))) × (ones * 2 + rest % 2 < 2 ^ (j + 1))
turned_step n j rest ones h = grind (arith, common_steps, turned_more)

-- with nothing left, only zeros come behind
zeros_behind : (d ones : ℕ) → reverse_bits_onto d 0 ones ≡ ones * 2 ^ d
unfolding reverse_bits_onto
zeros_behind zero ones = omega arith
zeros_behind (suc d) ones = zeros_behind d (ones * 2 + 0) ∙ (omega (arith, (ap (λ m. ones * m) (pow-succ' 2 d))))

-- the turned digits of a number are the high ones of its reversed bits
turned_onto : (m d n j rest ones : ℕ) → (n ≡ rest * 2 ^ j + number_of (bits j ones)) × (ones < 2 ^ j) → rest < 2 ^ m
    → (turned : ℕ) × (reverse_bits_onto (m + d) rest ones ≡ turned * 2 ^ d) × (n ≡ number_of (bits (j + m) turned))
    × (turned < 2 ^ (j + m))
unfolding reverse_bits_onto
turned_onto zero d n j (suc rest) ones h low = search rules
turned_onto zero d n j zero ones h low =
    let e : j ≡ j + 0 = omega arith in search (rules, zeros_behind)
turned_onto (suc m) d n j rest ones h low =
    let e : j + 1 + m ≡ j + suc m = omega arith in
    let t = turned_onto m d n (j + 1) (rest / 2) (ones * 2 + rest % 2) (turned_step n j rest ones h) (let e =
    pow-succ' 2 m in omega (arith, low, e)) in (
      t.0,
      ap (λ i. reverse_bits_onto i rest ones) (let one : suc m + d ≡ suc (m + d) = omega arith in one) ∙ t.1,
      t.2 ∙ ap (λ i. number_of (bits i t.0)) e,
      subst (λ i. t.0 < 2 ^ i) e t.3,
    )

pub turned_bits : (k n r : ℕ) → k ≤ greatest_k → n < 2 ^ (2 * k) → r ≡ reverse_bits w8 (n * 2 ^ 1 % 256)
    → (number_of (bits (2 * k) (r / 2 ^ (7 - 2 * k))) ≡ n) × (r / 2 ^ (7 - 2 * k) < 2 ^ (2 * k))
unfolding reverse_bits_onto
turned_bits k n r near low is =
    let small : 2 ^ (2 * k) ≤ 2 ^ 6 = pow-le-pow_right {n = 2} (omega arith) {j = 6} (omega (arith, near)) in
    let t = turned_onto (2 * k) (7 - 2 * k) n 0 n 0 (omega arith, omega arith) low in
    let all : 7 ≡ 2 * k + (7 - 2 * k) = omega (arith, near) in
    let high : r / 2 ^ (7 - 2 * k) ≡ t.0 = ap (λ m. m / 2 ^ (7 - 2 * k))
    (is ∙ ap (λ m. reverse_bits_onto 8 m 0) (omega (arith, low, small)) ∙
    (ap₂ (reverse_bits_onto 7) (let e : n * 2 / 2 ≡ n = omega arith in e) (let e : 0 * 2 + n * 2 % 2 ≡ 0 =
    omega arith in e)) ∙ ap (λ m. reverse_bits_onto m n 0) all
    ∙ t.1 ∙ (let e : t.0 * 2 ^ (7 - 2 * k) ≡ t.0 * 2 ^ (7 - 2 * k) + 0 = omega arith in e))
    ∙ div-mul-add t.0 (2 ^ (7 - 2 * k)) 0 (pow_pos (7 - 2 * k)) in search rules

-- ---- bits

bits_add : (n q y : ℕ) → bits n (q * 2 ^ n + y) ≡ bits n y
bits_add zero q y = refl
bits_add (suc n) q y =
    let up : q * 2 ^ suc n ≡ q * (2 * 2 ^ n) = ap (λ m. q * m) (pow-succ' 2 n) in
    ap₂ (λ (b : Bool) (bs : List Bool). b ∷ bs) (ap (λ m. eqb m 1) (omega (arith, up)))
    (ap (bits n) (omega (arith, up)) ∙ bits_add n q (y / 2))

bits_one : (n a b : ℕ) → a < 2 ^ n → b < 2 ^ n → bits n a ≡ bits n b → a ≡ b
bits_one zero a b x y e = omega (arith, x, y)
bits_one (suc n) a b x y e =
    let d = pow-succ' 2 n in
    omega (
      arith,
      (same_digit (a % 2) (b % 2) (omega arith) (omega arith) (head_same e)),
      (bits_one n (a / 2) (b / 2) (omega (arith, x, d)) (omega (arith, y, d)) (tail_same e)),
    )
  where
    head_same : {c c' : Bool} {cs cs' : List Bool} → c ∷ cs ≡ c' ∷ cs' → c ≡ c'
    head_same e = cc

    tail_same : {c c' : Bool} {cs cs' : List Bool} → c ∷ cs ≡ c' ∷ cs' → cs ≡ cs'
    tail_same e = cc

    never : true ≡ false → ⊥
    never e = cc

    same_digit : (a b : ℕ) → a < 2 → b < 2 → eqb a 1 ≡ eqb b 1 → a ≡ b
    same_digit zero zero x y e = refl
    same_digit (suc zero) (suc zero) x y e = refl
    same_digit zero (suc zero) x y e = cc
    same_digit (suc zero) zero x y e = cc
    same_digit (suc (suc a)) b x y e = omega arith
    same_digit a (suc (suc b)) x y e = omega arith

-- ---- slots

pub one_slot : (k : ℕ) (d : PatternNode) (s t : ℕ) → HasSlot k d s → HasSlot k d t → s ≡ t
one_slot k d s t a b = search (rules, bits_one)

pub slot_node : (k : ℕ) (d e : PatternNode) (s : ℕ) → d.0 ≡ e.0 → HasSlot k d s → HasSlot k e s → d ≡ e
slot_node k d e s at a b = search rules

-- the slot of a node from its bits
pub slot_from : (k stage last m : ℕ) (ds : List Bool) (o off : ℕ) → ds ≡ bits (2 * k) m → o ≡ m % 2 ^ (2 * k)
    → o < 2 ^ (2 * k) → last + k ≡ off + stage → off < 8 → HasSlot k (stage, ds, last) (o * 8 + off)
slot_from k stage last m ds o off e is low at few = record {
  pattern =
      let split : m ≡ m / 2 ^ (2 * k) * 2 ^ (2 * k) + o =
      sym (div-add-mod' m (2 ^ (2 * k))) ∙ ap (λ r. m / 2 ^ (2 * k) * 2 ^ (2 * k) + r) (sym is) in
      let high : (o * 8 + off) / 8 ≡ o = omega arith in
      e ∙ ap (bits (2 * k)) split ∙ bits_add (2 * k) (m / 2 ^ (2 * k)) o ∙ ap (bits (2 * k)) (sym high);
  last = let rest : (o * 8 + off) % 8 ≡ off = omega arith in omega (arith, rest, at);
  within = omega arith;
}

-- ---- numbers

pub one_node : (k : ℕ) (d e : PatternNode) (n : ℕ) → d.0 ≡ e.0 → HasNumber k d n → HasNumber k e n → d ≡ e
one_node k d e n at a b = node_is d.0 e.0 d.1 e.1 d.2 e.2 at (number_one d.1 e.1
    (a.digits ∙ sym b.digits) (a.pattern ∙ sym b.pattern)) (let x = a.last in let y = b.last in omega (arith, at, x, y))

-- the slot of a number whose digits are turned
pub number_slot : (k : ℕ) (d : PatternNode) (n ones : ℕ) → HasNumber k d n → number_of (bits (2 * k) ones) ≡ n / 8
    → ones < 2 ^ (2 * k) → HasSlot k d (ones * 8 + n % 8)
number_slot k d n ones h turned low = search (rules, number_one, length_bits)

-- a node near its stage has a number
pub number_near : (k : ℕ) (d : PatternNode) → k ≤ greatest_k → length d.1 ≡ 2 * k → d.0 ≤ d.2 + k → d.2 ≤ d.0 + k
    → (n : ℕ) × (n < 8 * 2 ^ (2 * k)) × HasNumber k d n
number_near k d few long low high =
    let v = number_of d.1 in
    let off = d.2 + k - d.0 in
    let small : off < 8 = omega arith in
    let a : v < 2 ^ length d.1 = number_below d.1 in
    let div : (v * 8 + off) / 8 ≡ v = omega (arith, small) in search rules

-- ---- the order of nodes

digits_equal : (xs ys : List Bool) → xs ≡ ys → slice_cmp bool_cmp xs ys ≡ Equal
digits_equal xs ys e = ap (slice_cmp bool_cmp xs) (sym e) ∙ itself xs
  where
    itself : (xs : List Bool) → slice_cmp bool_cmp xs xs ≡ Equal
    itself [] = refl
    itself (true ∷ xs) = itself xs
    itself (false ∷ xs) = itself xs

pub lesser_less : (k : ℕ) (d e : PatternNode) (m n : ℕ) → d.0 ≡ e.0 → HasNumber k d m → HasNumber k e n
    → m < n → node_cmp d e ≡ Less
lesser_less k d e m n at a b lt = search (rules, number_less, digits_equal, number_one)

-- ---- the bits of marks

double_at : (a k : ℕ) → a * 2 ^ suc k / 2 ≡ a * 2 ^ k
double_at a k = grind arith

shifted_bit : (a k y : ℕ) → k ≤ y → bit_at (a * 2 ^ k) y ≡ bit_at a (y - k)
shifted_bit a zero y le = search rules
shifted_bit a (suc k) zero le = omega arith
shifted_bit a (suc k) (suc y) le = search (rules, bit_at-suc, double_at, shifted_bit a k y (omega (arith, le)))

kept_below : (n more i : ℕ) → bit_at (n % 2 ^ (more + 1 + i)) i ≡ bit_at n i
kept_below n more i = grind (arith, field_of, mod-mod-pow)

-- a bit below a cut is kept
kept_bit : (n cut i : ℕ) → i < cut → bit_at (n % 2 ^ cut) i ≡ bit_at n i
kept_bit n cut i low =
    let far : cut ≡ cut - 1 - i + 1 + i = omega arith in
    ap (λ (e : ℕ). bit_at (n % 2 ^ e) i) far ∙ kept_below n (cut - 1 - i) i

-- and the others are not set
low_bit : (n cut i : ℕ) → HasBit (n % 2 ^ cut) i ↔ ((i < cut) × HasBit n i)
low_bit n cut i = elim (cases_lt i cut) [
  | inl low ↦ let same = kept_bit n cut i low in grind arith
  | inr above ↦
      let none : bit_at (n % 2 ^ cut) i ≡ 0 = bit_at_above (n % 2 ^ cut) cut i (mod-lt n (pow_pos cut)) above in
      (λ has. absurd (omega (arith, has, none)), λ h. absurd (omega (arith, h.0, above)))
]

pub marks_bits : (k placed : ℕ) → k ≤ greatest_k → (y : ℕ)
    → HasBit (bit_or (placed * 2 ^ k % 2 ^ 64) (1 * 2 ^ (k + 1) % 2 ^ 64 - 1)) y
    ↔ ((y ≤ k) ⊎ ((k < y) × (y < 64) × HasBit placed (y - k)))
marks_bits k placed near y =
    let bit = bit_at_or (placed * 2 ^ k % 2 ^ 64) (1 * 2 ^ (k + 1) % 2 ^ 64 - 1) y
    ∙ ap (λ (b : ℕ). max (bit_at (placed * 2 ^ k % 2 ^ 64) y) (bit_at (b - 1) y))
    (one_shl (k + 1) 64 (omega (arith, near))) in
    elim (cases_lt k y) [
      | inl above ↦
          let zero : bit_at (2 ^ (k + 1) - 1) y ≡ 0 = bit_at_ones_above (k + 1) y (omega (arith, above)) in
          let up : bit_at (placed * 2 ^ k) y ≡ bit_at placed (y - k) = shifted_bit placed k y (omega (arith, above)) in
          let low = low_bit (placed * 2 ^ k) 64 y in grind arith
      | inr below ↦
          let one : bit_at (2 ^ (k + 1) - 1) y ≡ 1 = bit_at_ones (k + 1) y (omega (arith, below)) in
          let two = bit_at-lt (placed * 2 ^ k % 2 ^ 64) y in
          (λ _. inl below, λ _. omega (arith, bit, one, two))
    ]

-- ---- the digits of a stage

tests_same : (s t : ℕ → Bool) (y m : ℕ) → ((z : ℕ) → y ≤ z → z < y + m → s z ≡ t z) → tests_from s y m ≡ tests_from t y m
tests_same s t y zero same = refl
tests_same s t y (suc m) same = ap₂ (λ (b : Bool) (bs : List Bool). b ∷ bs) (same y (omega arith) (omega arith))
    (tests_same s t (suc y) m (λ z from to. same z (omega (arith, from)) (omega (arith, to))))

-- the bits from 64 - k on are not looked at at a stage below k
pub digits_low : (k stage placed : ℕ) → k ≤ greatest_k → stage < k
    → digits_of k stage (placed % 2 ^ (64 - k)) ≡ digits_of k stage placed
digits_low k stage placed near early = tests_same (is_marked k (placed % 2 ^ (64 - k))) (is_marked k placed) (suc stage)
    (2 * k) (λ y from to. ap (λ (b : ℕ). nat_le y k || nat_eq b 1)
    (kept_bit placed (64 - k) (y - k) (omega (arith, near, early, to))))

-- and from stage k on they are the bits from one place on
pub tests_high : (k placed y m : ℕ) → k < y → tests_from (is_marked k placed) y m ≡ bits m (placed / 2 ^ (y - k))
tests_high k placed y zero above = refl
tests_high k placed y (suc m) above =
    let none : nat_le y k ≡ false = grind (arith, nat_tests) in
    let up : placed / 2 ^ (suc y - k) ≡ placed / 2 ^ (y - k) / 2 =
    ap (λ (e : ℕ). placed / 2 ^ e) (omega (arith, above)) ∙ sym (shr-shr placed (y - k) 1) in
    ap₂ (λ (b : Bool) (bs : List Bool). b ∷ bs) (ap (λ (b : Bool). b || nat_eq (bit_at placed (y - k)) 1) none)
    (tests_high k placed (suc y) m (omega (arith, above)) ∙ ap (bits m) up)

-- and so the marks of the others give the digits
pub marks_cut : (k placed marks : ℕ) → k ≤ greatest_k
    → ((y : ℕ) → HasBit marks y ↔ ((y ≤ k) ⊎ ((k < y) × (y < 64) × HasBit placed (y - k))))
    → (y : ℕ) → HasBit marks y ↔ ((y ≤ k) ⊎ ((k < y) × HasBit (placed % 2 ^ (64 - k)) (y - k)))
marks_cut k placed marks near are y =
    let low = low_bit placed (64 - k) (y - k) in (
      λ has. elim ((are y).0 has) [
        | inl first ↦ inl first
        | inr h ↦ inr (h.0, low.1 (omega (arith, h.0, h.1, near), h.2))
      ],
      λ is. (are y).1 (elim is [
        | inl first ↦ inl first
        | inr h ↦ let l = low.0 h.1 in inr (h.0, omega (arith, l.0, h.0, near), l.1)
      ]),
    )
