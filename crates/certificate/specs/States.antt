-- What a certificate holds, and in which order.
use Rattle.std.specs.Prelude.{◌≡◌, ℕ, ◌≤◌, ◌-◌, ◌&&◌, List, [], ◌∷◌, Bool, true, length, nat_le, nat_lt, Option, Some}
use Rattle.std.specs.Prelude.{None, slice_get}
use Rattle.std.specs.List.{list_all}
use Rattle.std.specs.Ordering.{nat_cmp, bool_cmp, ordering_then, is_lt}
use Rattle.std.specs.declared.cmp.Ordering.{Ordering}
use Rattle.std.specs.Cmp.Lexicographic.{slice_cmp}
use Rattle.cps_base.specs.Limits.{greatest_word, most_waiting}
use Rattle.landing_rules.specs.Rules.{last_second}
use Rattle.certificate.specs.Patterns.{is_pattern_length}

-- a second and a cost
abbrev pub Pair : Type 0
Pair = ℕ × ℕ

-- a stage, the digits of the placed ranks round it, the rank at it, and its pairs
pub record State : Type 0 where
  pub stage : ℕ
  pub pattern : List Bool
  pub last : ℕ
  pub pairs : List Pair

abbrev pub is_second : ℕ → Bool
is_second t = nat_le t last_second

abbrev pub is_pair : Pair → Bool
is_pair p = is_second p.0 && nat_le p.1 greatest_word

-- the seconds rise and the costs fall
abbrev pub rises : List Pair → Bool
rises [] = true
rises (p ∷ []) = true
rises (p ∷ q ∷ rest) = (nat_lt p.0 q.0 && nat_lt q.1 p.1) && rises (q ∷ rest)

pub record IsState (s : State) : Type 0 where
  pub stage : (1 ≤ s.stage) × (s.stage ≤ most_waiting)
  pub pattern : is_pattern_length (length s.pattern) ≡ true
  pub last : (1 ≤ s.last) × (s.last ≤ most_waiting)
  pub some_pairs : 1 ≤ length s.pairs
  pub pairs : list_all is_pair s.pairs ≡ true
  pub rising : rises s.pairs ≡ true

-- by stage, then by pattern, then by last rank
abbrev pub state_cmp : State → State → Ordering
state_cmp a b = ordering_then (nat_cmp a.stage b.stage)
    (ordering_then (slice_cmp bool_cmp a.pattern b.pattern) (nat_cmp a.last b.last))

abbrev pub comes_before : State → State → Bool
comes_before a b = is_lt (state_cmp a b)

abbrev pub comes_behind : Option State → State → Bool
comes_behind None s = true
comes_behind (Some a) s = comes_before a s

-- the state comes after the last of these
abbrev pub follows : List State → State → Bool
follows ss s = comes_behind (slice_get ss (length ss - 1)) s

-- each comes after the one before it
abbrev pub AreAscending : List State → Type 0
AreAscending [] = Unit {0}
AreAscending (a ∷ []) = Unit {0}
AreAscending (a ∷ b ∷ rest) = (comes_before a b ≡ true) × AreAscending (b ∷ rest)

abbrev pub AreStates : List State → Type 0
AreStates [] = Unit {0}
AreStates (s ∷ ss) = IsState s × AreStates ss
