-- Whether an order is legal can be decided.
use Rattle.std.proofs.Common.{◌≡◌, ℕ, zero, suc, ◌≤◌, inl, inr, Bool, true, List, [], ◌∷◌, length, arith}
use Rattle.std.proofs.lemmas.Bool.{cases_lt, cases_eq, false≢true}
use Rattle.cps_theory.specs.RankLists.{IsRank}
use Rattle.cps_theory.specs.LegalPrefix.{FitsBehind, Legal, MayFollow, OrderRules}
use Rattle.cps_theory.specs.laws.LeastOrder.{Decided}
use Rattle.cps_theory.specs.laws.Members.{cases_in}

-- Q is decided where P must hold for it, and where P decides it
pub with_decided : {P Q : Type 0} → Decided P → (P → Decided Q) → (Q → P) → Decided Q
with_decided (inl p) go back = go p
with_decided (inr never) go back = inr (λ q. never (back q))

pub decide_le : (m n : ℕ) → Decided (m ≤ n)
decide_le m n = elim (cases_lt n m) [ inl lt ↦ inr (λ le. omega arith) | inr le ↦ inl le ]

decide_true : (b : Bool) → Decided (b ≡ true)
decide_true b = grind (arith, false≢true)

decide_not : {P : Type 0} → Decided P → Decided (P → ⊥)
decide_not x = grind arith

decide_if : {P Q : Type 0} → Decided P → Decided Q → Decided (P → Q)
decide_if x q = grind arith

-- of all ranks up to n
pub decide_ranks : (n : ℕ) (Q : ℕ → Type 0) → ((x : ℕ) → Decided (Q x)) → Decided ((x : ℕ) → IsRank n x → Q x)
decide_ranks zero Q d = inl (λ x r. absurd (omega arith))
decide_ranks (suc n) Q d =
    with_decided (decide_ranks n Q d) (λ low. with_decided (d (suc n))
    (grind arith) (λ all. all (suc n) (omega arith, omega arith))) (λ all x r. all x (r.0, omega arith))

module _ (g : OrderRules) (ranked : (a r : ℕ) → g.before a r ≡ true → IsRank g.count a) where
  decide_fits : (rs : List ℕ) (r : ℕ) → Decided (FitsBehind g rs r)
  decide_fits rs r =
      with_decided (decide_le 1 r) (λ a. with_decided (decide_le r _) (λ b.
      with_decided (decide_not (cases_in r rs)) (λ c. with_decided (decide_le r _) (λ d.
      with_decided (decide_le _ _) (λ e. with_decided (decide_ranks _ _
      (λ x. decide_if (decide_true _) (cases_in x rs))) (λ f.
      inl (record {
        from_one = a;
        to_count = b;
        is_new = c;
        not_early = d;
        not_late = e;
        after = λ x h. f x (ranked x r h) h;
      }))
      (λ h x q. h.after x)) (λ h. h.not_late)) (λ h. h.not_early)) (λ h. h.is_new)) (λ h. h.to_count)) (λ h. h.from_one)

  decide_follow : (rs : List ℕ) (r : ℕ) → Decided (MayFollow g rs r)
  decide_follow rs r =
      with_decided (decide_fits rs r) (λ f.
      with_decided (decide_ranks (suc (length rs)) _ (λ x. decide_if (cases_eq _ _) (cases_in x (r ∷ rs)))) (λ d.
      inl (record { fits = f; due = λ x one e. d x (one, omega arith) e })) (λ h x q e. h.due x q.0 e)) (λ h. h.fits)

  pub decide_legal : (rs : List ℕ) → Decided (Legal g rs)
  decide_legal [] = inl tt
  decide_legal (r ∷ rs) = grind (arith, with_decided, decide_follow, decide_legal rs)
