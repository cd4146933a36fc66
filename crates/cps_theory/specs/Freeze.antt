-- The shift rule over the waiting flights, and a freeze of those that land before a second.
use Rattle.std.specs.Prelude.{◌≡◌, ◌≢◌, ℕ, suc, ◌+◌, ◌≤◌, List, count_by, filter, nat_lt, not, Bool, true, false}

-- one more than how many of the waiting come before it
abbrev pub rank_in : (ℕ → ℕ → Bool) → List ℕ → ℕ → ℕ
rank_in comes_before waiting f = suc (count_by (λ g. comes_before g f) waiting)

-- one more than how many of the waiting land before it
abbrev pub place_in : (ℕ → ℕ) → List ℕ → ℕ → ℕ
place_in t waiting f = suc (count_by (λ g. nat_lt (t g) (t f)) waiting)

-- the rule for one flight, which may go forward by k places and back by `back f`
abbrev pub KeepsCountedShift : ℕ → (ℕ → ℕ) → (ℕ → ℕ → Bool) → (ℕ → ℕ) → List ℕ → ℕ → Type 0
KeepsCountedShift k back comes_before t waiting f = (rank_in comes_before waiting f ≤ place_in t waiting f + k)
    × (place_in t waiting f ≤ rank_in comes_before waiting f + back f)

-- those that land before h
abbrev pub frozen_of : (ℕ → ℕ) → ℕ → List ℕ → List ℕ
frozen_of t h waiting = filter (λ f. nat_lt (t f) h) waiting

-- those that land at h or later
abbrev pub staying_of : (ℕ → ℕ) → ℕ → List ℕ → List ℕ
staying_of t h waiting = filter (λ f. not (nat_lt (t f) h)) waiting

-- how many of the frozen were to come after it
abbrev pub overtook : (ℕ → ℕ → Bool) → (ℕ → ℕ) → ℕ → List ℕ → ℕ → ℕ
overtook comes_before t h waiting f = count_by (λ g. comes_before f g) (frozen_of t h waiting)

-- an order of first come, first served
pub record FirstCome (comes_before : ℕ → ℕ → Bool) : Type 0 where
  pub one_way : (a b : ℕ) → comes_before a b ≡ true → comes_before b a ≡ false
  pub chain : (a b c : ℕ) → comes_before a b ≡ true → comes_before b c ≡ true → comes_before a c ≡ true
  pub total : (a b : ℕ) → a ≢ b → comes_before a b ≡ false → comes_before b a ≡ true
