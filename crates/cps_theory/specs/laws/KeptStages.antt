-- Early prefixes stay legal, and land at the same seconds, where two problems agree on the low ranks; stages that do
-- not count.
use Rattle.std.proofs.Common.{◌≡◌, ℕ, ◌+◌, ◌<◌, ◌≤◌, false, inl, inr, List, [], ◌∷◌, length, arith}
use Rattle.std.specs.List.{AllByRecursion}
use Rattle.std.proofs.lemmas.Bool.{cases_lt, leb-false, ltb-false, or_parts}
use Rattle.cps_theory.specs.RankLists.{In}
use Rattle.cps_theory.specs.Separation.{Landing}
use Rattle.cps_theory.specs.LandingTrail.{Landed, pair_of, ranks}
use Rattle.cps_theory.specs.LegalPrefix.{EachFits, Legal, OrderRules}
use Rattle.cps_theory.specs.Agreement.{AgreeBelow, SameLandings, counts}
use Rattle.cps_theory.specs.laws.LegalPrefix.{legal_each_fits}

-- a prefix of p places holds no rank above p + k
pub low_ranks : (g : OrderRules) (d : ℕ) (rs : List ℕ) → EachFits g rs → length rs + g.most < d
    → AllByRecursion (λ r. r < d) rs
low_ranks g d [] p lt = tt
low_ranks g d (r ∷ rs) p lt = (omega arith, low_ranks g d rs p.1 (omega arith))

in_low : (d x : ℕ) (rs : List ℕ) → AllByRecursion (λ r. r < d) rs → In x rs → x < d
in_low d x [] a i = absurd i
in_low d x (r ∷ rs) a i = grind (arith, in_low d x rs)

-- agreement up to d carries the legal prefixes of fewer than d - k places over
pub agree_legal : (d : ℕ) (g g' : OrderRules) → AgreeBelow d g g' → (rs : List ℕ) → Legal g rs
    → length rs + g.most < d → Legal g' rs
agree_legal d g g' agree [] l lt = tt
agree_legal d g g' agree (r ∷ rs) l lt =
    let f = l.0.fits in
    let low : r < d = omega arith in (
      record {
        fits = record {
          from_one = f.from_one;
          to_count = omega (arith, agree.there);
          is_new = f.is_new;
          not_early = omega (arith, f.not_early);
          not_late = let a = f.not_late in omega arith;
          after = λ a b. elim (cases_lt a d) [
            | inl a_low ↦ grind arith
            | inr high ↦ let h = agree.same_above a r high low b in absurd (let i =
                in_low d h.0 rs (low_ranks g d rs (legal_each_fits g rs l.1) (omega arith)) (f.after h.0 h.2) in omega
                arith)
          ];
        };
        due = λ x one e. l.0.due x one (omega arith);
      },
      agree_legal d g g' agree rs l.1 (omega arith),
    )

-- and what lands there, with its second and its cost
pub agree_landed : (d : ℕ) (Open Open' : ℕ → ℕ → Type 0) (after after' : ℕ → ℕ → ℕ → ℕ) (cost cost' : ℕ → ℕ → ℕ)
    → SameLandings d Open Open' after after' cost cost' → 0 < d → (xs : List Landing)
    → AllByRecursion (λ r. r < d) (ranks xs) → Landed Open after xs → Landed Open' after' xs
    × (pair_of cost xs ≡ pair_of cost' xs)
agree_landed d Open Open' after after' cost cost' same pos [] low l = grind arith
agree_landed d Open Open' after after' cost cost' same pos (x ∷ xs) low l =
    grind (arith, agree_landed d Open Open' after after' cost cost' same pos xs)

-- a stage that does not count was held, and lies below d - k
pub uncounted : (d k m p : ℕ) → counts d k m p ≡ false → (p + k < d) × (p ≤ m)
uncounted d k m p e = grind (arith, or_parts, leb-false, ltb-false)
