-- What is due is one number, whoever counts it.
use Rattle.std.proofs.Common.{◌≡◌, ℕ, zero, suc, List, ◌∷◌, length, Bool, true, false, Option, Some, None, refl, sym}
use Rattle.std.proofs.Common.{[], ap, subst, ◌∙◌, arith}
use Rattle.std.specs.Prelude.{ℤ, Contains}
use Rattle.std.proofs.lemmas.List.{get_or_default}
use Rattle.std.specs.declared.cmp.Ordering.TheVariants.{Less}
use Rattle.landing_rules.specs.Problem.{Problem}
use Rattle.cps_nodes.specs.WindowOrder.{window_cmp, window_cmp_total}
use Rattle.cps_problem.specs.shared.OneDifference.{one_first_difference}
use Rattle.cps_network.specs.Due.{HasCandidates, HasCandidatesIf, HasCandidatesWhere, IsDue}
use Rattle.cps_network.specs.Lists.{IsAscending}

pub never_both : (x y : List ℤ) → window_cmp x y ≡ Less → window_cmp y x ≡ Less → ⊥
never_both x y a b = grind (arith, window_cmp_total.antisymm)

-- without its first an ascending list ascends
pub tail_ascends : (x : List ℤ) (xs : List (List ℤ)) → IsAscending (x ∷ xs) → IsAscending xs
tail_ascends x xs up i j lt within = up (suc i) (suc j) (omega arith) (omega arith)

-- an element behind the first is greater than it
pub behind_first : (x : List ℤ) (xs : List (List ℤ)) → IsAscending (x ∷ xs) → (z : List ℤ)
    → Contains xs z → window_cmp x z ≡ Less
behind_first x xs up z (i, lt, at) =
    subst (λ (w : List ℤ). window_cmp x w ≡ Less) (get_or_default xs i [] z lt ∙ at)
    (up 0 (suc i) (omega arith) (omega arith))

-- an element is the first, or behind it
first_or : (x : List ℤ) (xs : List (List ℤ)) (z : List ℤ) (P : Type 0) → Contains (x ∷ xs) z
    → (x ≡ z → P) → (Contains xs z → P) → P
first_or x xs z P (zero, lt, at) here later = here at
first_or x xs z P (suc i, lt, at) here later = later (i, omega arith, at)

same_first : (x y : List ℤ) (xs ys : List (List ℤ)) → IsAscending (x ∷ xs) → IsAscending (y ∷ ys)
    → Contains (y ∷ ys) x → Contains (x ∷ xs) y → x ≡ y
same_first x y xs ys up vp a b =
    first_or y ys x (x ≡ y) a (λ e. sym e) (λ c.
    first_or x xs y (x ≡ y) b (λ e. e)
    (λ d. absurd (never_both x y (behind_first x xs up y d) (behind_first y ys vp x c))))

in_tail : (x y : List ℤ) (xs ys : List (List ℤ)) → IsAscending (x ∷ xs) → x ≡ y → (z : List ℤ)
    → Contains xs z → Contains (y ∷ ys) z → Contains ys z
in_tail x y xs ys up same z c h =
    first_or y ys z (Contains ys z) h (λ e.
    let less : window_cmp x x ≡ Less =
    subst (λ (w : List ℤ). window_cmp x w ≡ Less) (sym (same ∙ e)) (behind_first x xs up z c) in
    absurd (never_both x x less less)) (λ t. t)

pub same_length : (xs ys : List (List ℤ)) → IsAscending xs → IsAscending ys
    → ((z : List ℤ) → Contains xs z → Contains ys z) → ((z : List ℤ) → Contains ys z → Contains xs z)
    → length xs ≡ length ys
same_length [] [] up vp f g = refl
same_length [] (y ∷ ys) up vp f g = absurd (let c = g y (0, omega arith, refl) in let l = c.1 in omega arith)
same_length (x ∷ xs) [] up vp f g = absurd (let c = f x (0, omega arith, refl) in let l = c.1 in omega arith)
same_length (x ∷ xs) (y ∷ ys) up vp f g =
    let same : x ≡ y = same_first x y xs ys up vp (f x (0, omega arith, refl)) (g y (0, omega arith, refl)) in
    ap suc (same_length xs ys (tail_ascends x xs up) (tail_ascends y ys vp)
    (λ z c. in_tail x y xs ys up same z c (f z (later x xs z c)))
    (λ z c. in_tail y x ys xs vp (sym same) z c (g z (later y ys z c))))
  where
    later : (x : List ℤ) (xs : List (List ℤ)) (z : List ℤ) → Contains xs z → Contains (x ∷ xs) z
    later x xs z (i, lt, at) = (suc i, omega arith, at)

one_count : (p : Problem) (s a b : ℕ) → HasCandidates p s a → HasCandidates p s b → a ≡ b
one_count p s a b x y =
    sym x.counted ∙ same_length x.candidates y.candidates x.ascending y.ascending (λ z c. (y.each z).1 ((x.each z).0 c))
    (λ z c. (x.each z).1 ((y.each z).0 c)) ∙ y.counted

one_if : (b : Bool) (p : Problem) (s x y : ℕ) → HasCandidatesIf b p s x → HasCandidatesIf b p s y → x ≡ y
one_if true p s x y a b = one_count p s x y a b
one_if false p s x y a b = a ∙ sym b

pub one_where : (test : ℕ → Bool) (p : Problem) (n a b : ℕ) → HasCandidatesWhere test p n a
    → HasCandidatesWhere test p n b → a ≡ b
one_where test p zero a b x y = x ∙ sym y
one_where test p (suc n) a b (c, d, h, r, e) (c', d', h', r', e') =
    grind (arith, one_if, (one_where test p n d d' r r'))

pub one_due : (held : Option Problem) (p : Problem) (a b : ℕ) → IsDue held p a → IsDue held p b → a ≡ b
one_due None p a b x y = grind (arith, one_where)
one_due (Some held) p a b (d, is, x) (e, is', y) =
    let same : d ≡ e = one_first_difference held p d e is is' in grind (arith, one_where)
