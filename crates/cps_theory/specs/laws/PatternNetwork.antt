-- The pattern of the placed ranks round a stage, with the latest rank, is a node of a network.
use Rattle.std.proofs.Common.{◌≡◌, ℕ, zero, suc, ◌+◌, ◌-◌, ◌*◌, ◌<◌, ◌≤◌, ◌↔◌, inl, inr, List, [], ◌∷◌, length}
use Rattle.std.proofs.Common.{get_or, arith, refl, ap, ap₂, ◌∙◌, Bool, true, false, ◌||◌, eqb}
use Rattle.std.proofs.lemmas.Bool.{cases_lt, cases_Bool, cases_eq, eqb-true, eq-eqb, ne_eqb, le-leb, lt-leb, or_cases}
use Rattle.std.proofs.lemmas.Bool.{or_left, or_right, false≢true}
use Rattle.cps_theory.specs.RankLists.{In}
use Rattle.cps_theory.specs.LegalPrefix.{Legal, MayCome, MayFollow, OrderRules}
use Rattle.cps_theory.specs.Network.{Network}
use Rattle.cps_theory.specs.Patterns.{IsPlacedByPattern, PatternNode, PatternPermits, is_member, pattern_digit}
use Rattle.cps_theory.specs.Patterns.{pattern_newest, pattern_node, pattern_push, tests_from}
use Rattle.cps_theory.specs.laws.LegalPrefix.{legal_each_fits, legal_none_due, in_below}

pub get_or-tests : (t : ℕ → Bool) (y m i : ℕ) → i < m → get_or (tests_from t y m) i false ≡ t (y + i)
get_or-tests t y (suc m) (suc i) lt = let e : suc y + i ≡ y + suc i =
    omega arith in get_or-tests t _ m i (omega arith) ∙ ap t e
get_or-tests t y m i lt = grind arith

pub get_or-tests_past : (t : ℕ → Bool) (y m i : ℕ) → m ≤ i → get_or (tests_from t y m) i false ≡ false
get_or-tests_past t y (suc m) (suc i) le = get_or-tests_past t _ m i (omega arith)
get_or-tests_past t y m i le = grind arith

pub tests_agree : (t t' : ℕ → Bool) (y m : ℕ) → ((x : ℕ) → y ≤ x → x < y + m → t x ≡ t' x)
    → tests_from t y m ≡ tests_from t' y m
tests_agree t t' y zero h = refl
tests_agree t t' y (suc m) h =
    ap₂ ◌∷◌ (h y (omega arith) (omega arith)) (tests_agree t t' _ m (λ x le lt. h x (omega arith) (omega arith)))

pub member_in : (x : ℕ) (rs : List ℕ) → is_member x rs ≡ true → In x rs
member_in x [] e = cc
member_in x (r ∷ rs) e = grind (arith, or_cases, eqb-true, member_in x rs)

pub in_member : (x : ℕ) (rs : List ℕ) → In x rs → is_member x rs ≡ true
in_member x [] i = absurd i
in_member x (r ∷ rs) i = grind (arith, or_left, eq-eqb, or_right, in_member x rs)

pub not_member : (x : ℕ) (rs : List ℕ) → (In x rs → ⊥) → is_member x rs ≡ false
not_member x rs h = elim (cases_Bool _) [ inl t ↦ absurd (h (member_in x rs t)) | inr f ↦ f ]

-- above the ranks below 1 a digit is membership
pub digit_member : (k x : ℕ) (rs : List ℕ) → 1 ≤ x → pattern_digit k rs (x + k) ≡ is_member x rs
digit_member k x rs one = grind (arith, lt-leb)

-- what may come next by the prefix, and by any account of what is placed that is right from rank 1 on
may_come : (g : OrderRules) (rs : List ℕ) (Here : ℕ → Type 0) → ((x : ℕ) → 1 ≤ x → In x rs ↔ Here x)
    → (r : ℕ) → MayFollow g rs r → MayCome g (length rs) Here r
may_come g rs Here same r n = grind (arith, same)

is_next : (g : OrderRules) → ((a r : ℕ) → g.before a r ≡ true → 1 ≤ a) → (rs : List ℕ) (Here : ℕ → Type 0)
    → ((x : ℕ) → 1 ≤ x → In x rs ↔ Here x) → (r : ℕ) → MayCome g (length rs) Here r → MayFollow g rs r
is_next g ones rs Here same r m = grind (arith, same)

module _ (g : OrderRules) (ones : (a r : ℕ) → g.before a r ≡ true → 1 ≤ a) where
  pub same : (rs : List ℕ) → Legal g rs → (x : ℕ) → 1 ≤ x → In x rs ↔ IsPlacedByPattern g (pattern_node g rs) x
  same rs l x one =
      grind (
        arith,
        get_or-tests,
        digit_member,
        cases_lt,
        in_below,
        legal_each_fits,
        in_member,
        legal_none_due,
        member_in,
        false≢true,
        get_or-tests_past,
      )

  pushed : (rs : List ℕ) (r : ℕ) → Legal g rs → (y : ℕ) → suc (suc (length rs)) ≤ y
      → y < suc (suc (length rs)) + 2 * g.most → pattern_digit g.most (r ∷ rs) y ≡ eqb y (r + g.most)
      || get_or (pattern_node g rs).1 (y - suc (length rs)) false
  pushed rs r l y from to =
      grind (
        arith,
        cases_lt,
        get_or-tests,
        in_below,
        legal_each_fits,
        lt-leb,
        not_member,
        get_or-tests_past,
        cases_eq,
        eq-eqb,
        ne_eqb,
        le-leb,
        or_left,
        or_right,
      )

  pub pattern_network : Network PatternNode (Legal g) (pattern_node g) (PatternPermits g)
      (pattern_push g) pattern_newest
  pattern_network = record {
    empty = tt;
    grows = λ r rs l m. (is_next g ones rs _ (same rs l) r m, l);
    shrinks = λ r rs l. (l.1, may_come g rs _ (same rs l.1) r l.0);
    pushes = grind (arith, tests_agree, pushed);
    newest_is = λ rs l. refl;
  }
