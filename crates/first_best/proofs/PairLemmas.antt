-- Lists of pairs that rise or fall, and least costs.
use Rattle.std.proofs.Common.{◌≡◌, ℕ, suc, ◌-◌, ◌<◌, ◌≤◌, ◌⊎◌, inl, inr, zero, List, [], ◌∷◌, ◌++◌, length, reverse}
use Rattle.std.proofs.Common.{refl, sym, ap, subst, ◌∙◌, ltb, arith}
use Rattle.std.specs.Prelude.{◌↔◌, Option, Some, None, filter_map, fold, min, slice_index_or}
use Rattle.std.specs.List.{cons_option, reduce}
use Rattle.std.specs.List.Sorted.{IsPartitionedBy}
use Rattle.std.proofs.lemmas.Bool.{cases_eq, cases_lt, lt-ltb, ltb-true}
use Rattle.std.proofs.lemmas.List.{get_or_default, reverse-append}
use Rattle.cps_theory.specs.Labels.{InPairs, Pair}
use Rattle.cps_theory.specs.CompletingPairs.{KeptCompleting, NoEarlierNoDearer, UndominatedCompleting}
use Rattle.cps_theory.specs.laws.CompletingPairs.{completing_undominated, undominated_completing}
use Rattle.landing_joint.specs.RankedProblem.{earlier_of}
use Rattle.cps_network.specs.Pairs.{pair_at}
use Rattle.cps_network.specs.shared.PairLists.{in_append, in_left, in_right}
use Rattle.cps_network.specs.shared.PairSteps.{at_in, in_at}
use Rattle.first_best.specs.Completing.{Falls, IsCostFrom, IsLeastOf, Rises}

-- of pairs that rise none is at least as late and at most as dear as another
pub rises_apart : (xs : List Pair) → Rises xs → (q o : Pair) → InPairs q xs → InPairs o xs
    → NoEarlierNoDearer q o → q ≡ o
rises_apart [] r q o i j n = absurd i
rises_apart (x ∷ xs) r q o (inl e) (inl f) n = e ∙ sym f
rises_apart (x ∷ xs) r q o (inl e) (inr j) n =
    let a = (r.0 o j).0 in
    let b = n.0 in
    let c : q.0 ≡ x.0 = ap (λ z. z.0) e in
    absurd (omega arith)
rises_apart (x ∷ xs) r q o (inr i) (inl f) n =
    let a = (r.0 q i).1 in
    let b = n.1 in
    let c : o.1 ≡ x.1 = ap (λ z. z.1) f in
    absurd (omega arith)
rises_apart (x ∷ xs) r q o (inr i) (inr j) n = rises_apart xs r.1 q o i j n

-- completing pairs that rise are the undominated ones
pub rises_undominated : (C : Pair → Type 0) (xs : List Pair) → Rises xs → KeptCompleting C (λ q. InPairs q xs)
    → (q : Pair) → InPairs q xs ↔ UndominatedCompleting C q
rises_undominated C xs r k q = (
  λ i. completing_undominated C (λ o. InPairs o xs) k (rises_apart xs r) q i,
  λ u. undominated_completing C (λ o. InPairs o xs) k q u,
)

-- ---- one more, and the other way round

-- what holds of each pair and of one more holds of each once that is pushed
pub each_pair : (P : Pair → Type 0) (xs : List Pair) (x : Pair) → ((q : Pair) → InPairs q xs → P q) → P x
    → (q : Pair) → InPairs q (xs ++ x ∷ []) → P q
each_pair P xs x old new q i = elim (in_append q xs (x ∷ []) i) [
  | inl a ↦ old q a
  | inr b ↦ elim b [ inl e ↦ rw e new | inr none ↦ absurd none ]
]

pub falls_more : (xs : List Pair) (q : Pair) → Falls xs → ((o : Pair) → InPairs o xs → (q.0 < o.0) × (q.1 < o.1))
    → Falls (xs ++ q ∷ [])
falls_more [] q f h = (λ o i. absurd i, tt)
falls_more (x ∷ xs) q f h =
    (each_pair (λ o. (o.0 < x.0) × (o.1 < x.1)) xs q f.0 (h x (inl refl)), falls_more xs q f.1 (λ o i. h o (inr i)))

pub rises_more : (xs : List Pair) (q : Pair) → Rises xs → ((o : Pair) → InPairs o xs → (o.0 < q.0) × (o.1 < q.1))
    → Rises (xs ++ q ∷ [])
rises_more [] q f h = (λ o i. absurd i, tt)
rises_more (x ∷ xs) q f h =
    (each_pair (λ o. (x.0 < o.0) × (x.1 < o.1)) xs q f.0 (h x (inl refl)), rises_more xs q f.1 (λ o i. h o (inr i)))

reverse_front : (x : Pair) (xs : List Pair) → reverse (x ∷ xs) ≡ reverse xs ++ x ∷ []
reverse_front x xs = reverse-append (x ∷ []) xs

pub in_reversed : (xs : List Pair) (q : Pair) → InPairs q (reverse xs) → InPairs q xs
in_reversed [] q i = i
in_reversed (x ∷ xs) q i = elim (in_append q (reverse xs) (x ∷ []) (subst (InPairs q) (reverse_front x xs) i)) [
  | inl a ↦ inr (in_reversed xs q a)
  | inr b ↦ elim b [ inl e ↦ inl e | inr none ↦ absurd none ]
]

pub reversed_in : (xs : List Pair) (q : Pair) → InPairs q xs → InPairs q (reverse xs)
reversed_in [] q i = i
reversed_in (x ∷ xs) q (inl e) = rw (reverse_front x xs) (in_right q _ (x ∷ []) (inl e))
reversed_in (x ∷ xs) q (inr i) = rw (reverse_front x xs) (in_left q _ (x ∷ []) (reversed_in xs q i))

pub falls_rises : (xs : List Pair) → Falls xs → Rises (reverse xs)
falls_rises [] f = tt
falls_rises (x ∷ xs) f = rw (reverse_front x xs) (rises_more _ x (falls_rises xs f.1)
    (λ o i. f.0 o (in_reversed xs o i)))

-- ---- least costs

pub least_same : (P Q : ℕ → Type 0) (o : Option ℕ) → ((c : ℕ) → P c ↔ Q c) → IsLeastOf P o → IsLeastOf Q o
least_same P Q None h l = λ c q. l c ((h c).1 q)
least_same P Q (Some x) h l = ((h x).0 l.0, λ d q. l.1 d ((h d).1 q))

pub least_either : (P Q : ℕ → Type 0) (a b : Option ℕ) → IsLeastOf P a → IsLeastOf Q b
    → IsLeastOf (λ c. P c ⊎ Q c) (earlier_of a b)
least_either P Q None None l m = λ c h. elim h [ inl x ↦ l c x | inr y ↦ m c y ]
least_either P Q None (Some y) l m = (inr m.0, λ d h. elim h [ inl x ↦ absurd (l d x) | inr z ↦ m.1 d z ])
least_either P Q (Some x) None l m = (inl l.0, λ d h. elim h [ inl z ↦ l.1 d z | inr z ↦ absurd (m d z) ])
least_either P Q (Some x) (Some y) l m = (
  elim (cases_lt x y) [
    | inl lt ↦ inl (subst P (let e : x ≡ min x y = omega (arith, lt) in e) l.0)
    | inr le ↦ inr (subst Q (let e : y ≡ min x y = omega (arith, le) in e) m.0)
  ],
  λ d h. elim h [ inl z ↦ (let a = l.1 d z in omega (arith, a)) | inr z ↦ (let a = m.1 d z in omega (arith, a)) ],
)

-- there is one at most
pub least_unique : (P : ℕ → Type 0) (a b : Option ℕ) → IsLeastOf P a → IsLeastOf P b → a ≡ b
least_unique P None None l m = refl
least_unique P None (Some y) l m = absurd (l y m.0)
least_unique P (Some x) None l m = absurd (m x l.0)
least_unique P (Some x) (Some y) l m = (let a = l.1 y m.0 in let b = m.1 x l.0 in ap Some (omega arith))

fold_min : (a b : ℕ) (xs : List ℕ) → fold min (min a b) xs ≡ min a (fold min b xs)
fold_min a b [] = refl
fold_min a b (x ∷ xs) = ap (λ n. fold min n xs) (omega arith) ∙ fold_min a (min b x) xs

reduce_min : (o : Option ℕ) (xs : List ℕ) → reduce min (cons_option o xs) ≡ earlier_of o (reduce min xs)
reduce_min None xs = refl
reduce_min (Some x) [] = refl
reduce_min (Some x) (y ∷ ys) = ap Some (fold_min x y ys)

-- the least over a list, where each element has one or none
module _ {A : Type 0} (d : A) (W : A → ℕ → Type 0) (each : (x : A) → (o : Option ℕ) × IsLeastOf (W x) o) where
  abbrev pub IsAtSome : List A → ℕ → Type 0
  IsAtSome xs c = (i : ℕ) × (i < length xs) × W (slice_index_or xs i d) c

  abbrev pub least_at : List A → Option ℕ
  least_at xs = reduce min (filter_map (λ x. (each x).0) xs)

  pub least_of_list : (xs : List A) → IsLeastOf (IsAtSome xs) (least_at xs)
  least_of_list [] = λ c n. (let lt = n.1 in absurd (omega arith))
  least_of_list (x ∷ xs) = rw (reduce_min (each x).0 (filter_map (λ y. (each y).0) xs))
      (least_same (λ c. W x c ⊎ IsAtSome xs c) (IsAtSome (x ∷ xs)) (earlier_of (each x).0 (least_at xs))
      (λ c. (to c, from c)) (least_either (W x) (IsAtSome xs) (each x).0 (least_at xs) (each x).1 (least_of_list xs)))
    where
      to : (c : ℕ) → W x c ⊎ IsAtSome xs c → IsAtSome (x ∷ xs) c
      to c (inl w) = (0, omega arith, w)
      to c (inr (i, lt, w)) = (suc i, omega arith, w)

      from : (c : ℕ) → IsAtSome (x ∷ xs) c → W x c ⊎ IsAtSome xs c
      from c (zero, lt, w) = inl w
      from c (suc i, lt, w) = inr (i, omega arith, w)

-- pairs have a least cost from a second on, or none
module _ (second : ℕ) where
  abbrev IsCostOf : Pair → ℕ → Type 0
  IsCostOf q c = (second ≤ q.0) × (q.1 ≡ c)

  least_of_pair : (q : Pair) → (o : Option ℕ) × IsLeastOf (IsCostOf q) o
  least_of_pair q = elim (cases_lt q.0 second) [
    | inl lt ↦ (None, λ c h. (let le = h.0 in absurd (omega (arith, lt, le))))
    | inr le ↦ (Some q.1, ((le, refl), λ c h. (let e = h.1 in omega (arith, e))))
  ]

  pub least_from : (xs : List Pair) → (o : Option ℕ) × IsLeastOf (IsCostFrom xs second) o
  least_from xs = (
    least,
    least_same IsAt (IsCostFrom xs second) least (λ c. (to c, from c)) (least_of_list (0, 0) IsCostOf least_of_pair xs),
  )
    where
      least : Option ℕ
      least = least_at (0, 0) IsCostOf least_of_pair xs

      IsAt : ℕ → Type 0
      IsAt = IsAtSome (0, 0) IsCostOf least_of_pair xs

      to : (c : ℕ) → IsAt c → IsCostFrom xs second c
      to c (i, lt, h) = (pair_at xs i, at_in xs i _ lt refl, h.0, h.1)

      from : (c : ℕ) → IsCostFrom xs second c → IsAt c
      from c (q, listed, late, is) = (let a = in_at q xs listed in (a.0, a.1, rw a.2 (late, is)))

-- ---- by places

pub rises_at : (xs : List Pair) → Rises xs → (i j : ℕ) → i < j → j < length xs → ((pair_at xs i).0 < (pair_at xs j).0)
    × ((pair_at xs i).1 < (pair_at xs j).1)
rises_at [] r i j lt l = absurd (omega arith)
rises_at (x ∷ xs) r i zero lt l = absurd (omega arith)
rises_at (x ∷ xs) r zero (suc j) lt l = r.0 (pair_at xs j) (at_in xs j _ (omega arith) refl)
rises_at (x ∷ xs) r (suc i) (suc j) lt l = rises_at xs r.1 i j (omega arith) (omega arith)

pub last_most : (xs : List Pair) → Rises xs → (q : Pair) → InPairs q xs → q.0 ≤ (pair_at xs (length xs - 1)).0
last_most xs r q i =
    let a = in_at q xs i in
    let at : (pair_at xs a.0).0 ≡ q.0 = ap (λ z. z.0) a.2 in
    let within = a.1 in
    elim (cases_eq a.0 _) [
      | inl e ↦ (let same : (pair_at xs a.0).0 ≡ (pair_at xs (length xs - 1)).0 =
          ap (λ n. (pair_at xs n).0) e in omega arith)
      | inr ne ↦ (let less = (rises_at xs r a.0 (length xs - 1) (omega arith) (omega arith)).0 in omega arith)
    ]

-- the first pair at or after a second is the cheapest of those
pub cost_found : (xs : List Pair) → Rises xs → (second j : ℕ) → j < length xs → second ≤ (pair_at xs j).0
    → ((i : ℕ) → i < j → (pair_at xs i).0 < second) → IsLeastOf (IsCostFrom xs second) (Some (pair_at xs j).1)
cost_found xs r second j lt late below = (
  (pair_at xs j, at_in xs j (pair_at xs j) lt refl, late, refl),
  λ d h.
      let a = in_at h.0 xs h.1 in
      let at : (pair_at xs a.0).0 ≡ h.0.0 = ap (λ (z : Pair). z.0) a.2 in
      let is : (pair_at xs a.0).1 ≡ h.0.1 = ap (λ (z : Pair). z.1) a.2 in
      let le = h.2 in
      let cost = h.3 in
      elim (cases_lt a.0 j) [
        | inl less ↦ (let b = below a.0 less in absurd (omega (arith, b, at, le)))
        | inr more ↦ elim (cases_eq a.0 j) [
          | inl e ↦ (let same : (pair_at xs a.0).1 ≡ (pair_at xs j).1 =
              ap (λ (n : ℕ). (pair_at xs n).1) e in omega (arith, same, is, cost))
          | inr ne ↦ (let b = (rises_at xs r j a.0 (omega (arith, more, ne)) a.1).1 in omega (arith, b, is, cost))
        ]
      ],
)

pub none_found : (xs : List Pair) (second j : ℕ) → length xs ≤ j → ((i : ℕ) → i < j → (pair_at xs i).0 < second)
    → IsLeastOf (IsCostFrom xs second) None
none_found xs second j le below = λ c h.
    let a = in_at h.0 xs h.1 in
    let at : (pair_at xs a.0).0 ≡ h.0.0 = ap (λ z. z.0) a.2 in
    let within = a.1 in
    let b = below a.0 (omega arith) in
    let late = h.2 in
    absurd (omega arith)

-- those before a second stand ahead of the others
pub rises_split : (xs : List Pair) → Rises xs → (second : ℕ) → IsPartitionedBy (λ q. ltb q.0 second) xs
rises_split xs r second i j d le lt up = elim (cases_eq i j) [
  | inl e ↦ rw e up
  | inr ne ↦
      let less = (rises_at xs r i j (omega (arith, le, ne)) lt).0 in
      let below = ltb-true (pair_at xs j).0 second (rw (get_or_default xs j d (0, 0) lt) at up) in
      rw (get_or_default xs i d (0, 0) (omega (arith, le, lt)))
      (lt-ltb (pair_at xs i).0 second (omega (arith, less, below)))
]
