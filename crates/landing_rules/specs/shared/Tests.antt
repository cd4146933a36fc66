-- Each test answers whether its fact holds.
use Rattle.std.proofs.Common.{◌≡◌, ℕ, ◌≤◌, Bool, ◌||◌, not, List, length, refl, arith, leb}
use Rattle.std.proofs.Common.{Option}
use Rattle.std.specs.Prelude.{All, MatchOption, filter, IsTrue}
use Rattle.std.specs.Bool.{Decides}
use Rattle.std.specs.List.{list_all}
use Rattle.std.proofs.lemmas.Bool.{leb-true, le-leb, true≢false}
use Rattle.std.proofs.lemmas.Bool.Decides.{Decides-eqb, Decides-and, Decides-like, Decides-by_and, Decides-ltb}
use Rattle.std.proofs.lemmas.Slice.Eq.{bytes_eq-Decides}
use Rattle.landing_rules.specs.Flights.{Situation, Schedule, Landing, horizon}
use Rattle.landing_rules.specs.Rules.{ArePairSeparated, IsPairInPrecedence, IsShiftKept}
use Rattle.landing_rules.specs.Rules.{IsFrozenKept, KeepsRules, IsFeasible}
use Rattle.landing_rules.specs.Testing.{is_pair_separated, is_pair_in_precedence, is_shift_kept, keeps_frozen}
use Rattle.landing_rules.specs.Testing.{for_each_pair, keeps_rules, is_feasible}

leb-Decides : (a b : ℕ) → Decides (leb a b) (a ≤ b)
leb-Decides a b = (leb-true a b, le-leb a b)

list_all-Decides : (p : Landing → Bool) (P : Landing → Type 0) → ((f : Landing) → Decides (p f) (P f))
    → (all : List Landing) → Decides (list_all p all) (All P all)
list_all-Decides p P each all = Decides-by_and p P (list_all p) each refl (λ _ _. refl) all

for_each_pair-Decides : (p : Landing → Landing → Bool) (P : Landing → Landing → Type 0)
    → ((f g : Landing) → Decides (p f g) (P f g)) → (all : List Landing)
    → Decides (for_each_pair p all) (All (λ f. All (P f) all) all)
for_each_pair-Decides p P each all = list_all-Decides _ _ (λ f. list_all-Decides _ _ (each f) all) all

itself : (b : Bool) → Decides b (IsTrue b)
itself b = (λ e. e, λ e. e)

-- a test of a premise's failure or of the conclusion decides the implication
Decides-implies : (x y : Bool) (P Q : Type 0) → Decides x P → Decides y Q → Decides (not x || y) (P → Q)
Decides-implies x y P Q d e = grind (arith, true≢false)

pub is_pair_separated-Decides : (table : List (List ℕ)) (f g : Landing)
    → Decides (is_pair_separated table f g) (ArePairSeparated table f g)
is_pair_separated-Decides table f g = grind (arith, bytes_eq-Decides, Decides-ltb, leb-Decides, true≢false)

is_pair_in_precedence-Decides : (f g : Landing) → Decides (is_pair_in_precedence f g) (IsPairInPrecedence f g)
is_pair_in_precedence-Decides f g = Decides-implies _ _ _ _ (itself _) (Decides-ltb _ _)

pub is_shift_kept-Decides : (k : ℕ) (all : List Landing) (f : Landing)
    → Decides (is_shift_kept k all f) (IsShiftKept k all f)
is_shift_kept-Decides k all f = search (Decides-and, leb-Decides)

keeps_frozen-Decides : (h second : ℕ) (frozen : Option ℕ)
    → Decides (keeps_frozen h second frozen) (MatchOption frozen (h ≤ second) (λ t. second ≡ t))
keeps_frozen-Decides h second frozen = grind (arith, leb-Decides, Decides-eqb)

pub keeps_rules-Decides : (s : Situation) (all : List Landing) → Decides (keeps_rules s all) (KeepsRules s all)
keeps_rules-Decides s all =
    Decides-like _
    (λ h. record {
      in_days = h.0;
      open_seconds = h.1.0;
      separated = h.1.1.0;
      in_precedence = h.1.1.1.0;
      shift = h.1.1.1.1.0;
      frozen_kept = h.1.1.1.1.1;
    }) (λ h. (h.in_days, (h.open_seconds, (h.separated, (h.in_precedence, (h.shift, h.frozen_kept))))))
    (Decides-and _ _ (list_all-Decides _ _ (λ f. leb-Decides _ _) all) (Decides-and _ _ (list_all-Decides _ _
    (λ f. itself _) all) (Decides-and _ _ (for_each_pair-Decides _ _ (is_pair_separated-Decides _) all)
    (Decides-and _ _ (for_each_pair-Decides _ _ is_pair_in_precedence-Decides all)
    (Decides-and _ _ (list_all-Decides _ _ (is_shift_kept-Decides _ (filter _ all)) _)
    (list_all-Decides _ (IsFrozenKept (horizon s)) (λ f. keeps_frozen-Decides _ _ _) all))))))

pub is_feasible-Decides : (s : Situation) (t : Schedule) → Decides (is_feasible s t) (IsFeasible s t)
is_feasible-Decides s t = Decides-and _ _ (Decides-eqb (length t) (length s.active)) (keeps_rules-Decides s _)
