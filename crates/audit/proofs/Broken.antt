-- A finding is listed exactly where a rule is broken.
use Rattle.std.proofs.Common.{◌≡◌, ℕ, zero, suc, ◌<◌, Bool, true, false, cond, ◌⊎◌, inl, inr, List, [], ◌∷◌, Some}
use Rattle.std.proofs.Common.{refl, sym, ap, ◌∙◌, arith}
use Rattle.std.specs.Prelude.{slice_get}
use Rattle.std.specs.List.{Contains}
use Rattle.std.proofs.lemmas.Bool.{false≢true}
use Rattle.std.proofs.lemmas.List.Elements.{Contains-append_left, Contains-append_right, Contains-append_cases}
use Rattle.landing_rules.specs.Audit.{Finding, for_failing, for_failing_pairs}
use Rattle.audit.specs.Members.{Breaks, BreakTogether, EachBreakLaw, EachPairLaw}

here : {X : Type 0} (y x : X) (ys : List X) → y ≡ x → Contains (y ∷ ys) x
here y x ys e = (0, omega arith, e)

there : {X : Type 0} (y x : X) (ys : List X) → Contains ys x → Contains (y ∷ ys) x
there y x ys c = (suc c.0, let lt = c.1 in omega arith, c.2)

split : {X : Type 0} (y x : X) (ys : List X) → Contains (y ∷ ys) x → (y ≡ x) ⊎ Contains ys x
split y x ys (zero, lt, e) = inl e
split y x ys (suc k, lt, e) = inr (k, omega arith, e)

none : {X : Type 0} (x : X) → Contains [] x → ⊥
none x c = let lt = c.1 in absurd (omega arith)

module _ {X : Type 0} (passes : X → Bool) (finding : X → Finding) (found : Finding) where
  wider : (y : X) (xs : List X) → Breaks passes finding xs found → Breaks passes finding (y ∷ xs) found
  wider y xs b = record { element = b.element; there = there y b.element xs b.there; fails = b.fails; gives = b.gives }

  pub listed_breaks : (xs : List X) → Contains (for_failing passes finding xs) found → Breaks passes finding xs found
  listed_breaks [] c = absurd (none found c)
  listed_breaks (y ∷ xs) c = go (passes y) refl (listed_breaks xs) c
    where
      go : (b : Bool) → passes y ≡ b → (Contains (for_failing passes finding xs) found → Breaks passes finding xs found)
          → Contains (cond b (for_failing passes finding xs) (finding y ∷ for_failing passes finding xs)) found
          → Breaks passes finding (y ∷ xs) found
      go true p below c = wider y xs (below c)
      go false p below c = elim (split (finding y) found (for_failing passes finding xs) c) [
        | inl e ↦ record { element = y; there = here y y xs refl; fails = p; gives = e }
        | inr more ↦ wider y xs (below more)
      ]

  breaks_at : (xs : List X) (x : X) → Contains xs x → passes x ≡ false → finding x ≡ found
      → Contains (for_failing passes finding xs) found
  breaks_at [] x c f g = absurd (none x c)
  breaks_at (y ∷ xs) x c f g = elim (split y x xs c) [
    | inl e ↦ first (passes y) (ap passes e ∙ f) (ap finding e ∙ g)
    | inr more ↦ later (passes y) (breaks_at xs x more f g)
  ]
    where
      first : (b : Bool) → b ≡ false → finding y ≡ found
          → Contains (cond b (for_failing passes finding xs) (finding y ∷ for_failing passes finding xs)) found
      first true p e = absurd (false≢true (sym p))
      first false p e = here (finding y) found (for_failing passes finding xs) e

      later : (b : Bool) → Contains (for_failing passes finding xs) found
          → Contains (cond b (for_failing passes finding xs) (finding y ∷ for_failing passes finding xs)) found
      later true c = c
      later false c = there (finding y) found (for_failing passes finding xs) c

pub each_break : (X : Type 0) → EachBreakLaw X
each_break X passes finding xs found =
    (listed_breaks passes finding found xs, λ b. breaks_at passes finding found xs b.element b.there b.fails b.gives)

module _ {X : Type 0} (pass : X → X → Bool) (finding : X → X → Finding) (found : Finding) where
  lower : (y : X) (xs : List X) → BreakTogether pass finding xs found → BreakTogether pass finding (y ∷ xs) found
  lower y xs b = record {
    above = suc b.above;
    below = suc b.below;
    order = let lt = b.order in omega arith;
    first = b.first;
    second = b.second;
    first_there = b.first_there;
    second_there = b.second_there;
    fails = b.fails;
    gives = b.gives;
  }

  place : (xs : List X) (x : X) → Contains xs x → (k : ℕ) × (slice_get xs k ≡ Some x)
  place [] x c = absurd (none x c)
  place (y ∷ xs) x c = elim (split y x xs c) [
    | inl e ↦ (0, ap Some e)
    | inr more ↦ let p = place xs x more in (suc p.0, p.1)
  ]

  at_place : (xs : List X) (x : X) (k : ℕ) → slice_get xs k ≡ Some x → Contains xs x
  at_place [] x k e = absurd (cc)
  at_place (y ∷ xs) x zero e = let same : y ≡ x = cc in here y x xs same
  at_place (y ∷ xs) x (suc k) e = there y x xs (at_place xs x k e)

  pub listed_together : (xs : List X) → Contains (for_failing_pairs pass finding xs) found
      → BreakTogether pass finding xs found
  listed_together [] c = absurd (none found c)
  listed_together (y ∷ xs) c =
      elim (Contains-append_cases (for_failing (pass y) (finding y) xs) (for_failing_pairs pass finding xs) found c) [
        | inl mine ↦
            let b = listed_breaks (pass y) (finding y) found xs mine in
            let p = place xs b.element b.there in
            record {
              above = 0;
              below = suc p.0;
              order = omega arith;
              first = y;
              second = b.element;
              first_there = refl;
              second_there = p.1;
              fails = b.fails;
              gives = b.gives;
            }
        | inr others ↦ lower y xs (listed_together xs others)
      ]

  together_at : (xs : List X) (i j : ℕ) (x z : X) → i < j → slice_get xs i ≡ Some x → slice_get xs j ≡ Some z
      → pass x z ≡ false → finding x z ≡ found → Contains (for_failing_pairs pass finding xs) found
  together_at [] i j x z lt a b f g = absurd (cc)
  together_at (y ∷ xs) zero zero x z lt a b f g = absurd (omega arith)
  together_at (y ∷ xs) zero (suc j) x z lt a b f g =
      let same : y ≡ x = cc in
      Contains-append_left (for_failing (pass y) (finding y) xs) (for_failing_pairs pass finding xs) found
      (breaks_at (pass y) (finding y) found xs z (at_place xs z j b) (ap (λ w. pass w z) same ∙ f)
      (ap (λ w. finding w z) same ∙ g))
  together_at (y ∷ xs) (suc i) zero x z lt a b f g = absurd (omega arith)
  together_at (y ∷ xs) (suc i) (suc j) x z lt a b f g = Contains-append_right (for_failing (pass y) (finding y) xs)
      (for_failing_pairs pass finding xs) found (together_at xs i j x z (omega arith) a b f g)

pub each_pair : (X : Type 0) → EachPairLaw X
each_pair X pass finding xs found = (
  listed_together pass finding found xs,
  λ b. together_at pass finding found xs b.above b.below b.first b.second b.order b.first_there
      b.second_there b.fails b.gives,
)
