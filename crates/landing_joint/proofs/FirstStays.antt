-- Of the flights that stay when the front of a plan freezes, the first in first-come order: whoever comes before it
-- freezes, so its own leave to go back bounds how many behind it freeze, and so behind each that stays.
use Rattle.std.proofs.Common.{◌≡◌, ◌≢◌, ℕ, ◌<◌, ◌≤◌, ◌&&◌, ◌∙◌, inl, inr, List, [], ◌∷◌, Bool, true, false, not, nat_lt}
use Rattle.std.proofs.Common.{arith, refl, sym, ap}
use Rattle.std.proofs.lemmas.Bool.{cases_Bool, cases_eq, cases_lt, ltb-true, lt-ltb, le-ltb, and_parts, and_from}
use Rattle.std.proofs.lemmas.Bool.{false≢true}
use Rattle.cps_theory.specs.RankLists.{In}
use Rattle.cps_theory.specs.Freeze.{FirstCome, KeepsCountedShift, frozen_of, overtook, staying_of}
use Rattle.cps_theory.specs.laws.ShiftAfterFreeze.{not_before_itself}
use Rattle.cps_theory.specs.laws.Members.{filter_in, in_filter}
use Rattle.cps_theory.specs.laws.RankCounts.{count, count_filter, count_stricter, count_is, count_none, count_parts}
use Rattle.cps_theory.specs.laws.RankCounts.{count_split, count_weaker}

module _ (comes_before : ℕ → ℕ → Bool) (order : FirstCome comes_before) where
  -- if f does not come before x, whoever comes after f comes after x
  behind_both : (f x y : ℕ) → comes_before f x ≡ false → comes_before f y ≡ true → comes_before x y ≡ true
  behind_both f x y ahead after = grind (arith, cases_eq)

  -- one of the list before which no other of it comes
  abbrev First : List ℕ → Type 0
  First xs = (m : ℕ) × In m xs × ((y : ℕ) → In y xs → comes_before y m ≡ false)

  earlier_first : (x : ℕ) (xs : List ℕ) → First xs → First (x ∷ xs)
  earlier_first x xs r = elim (cases_Bool _) [
    | inl b ↦ (
      x,
      inl refl,
      λ y i. elim i [
        | inl e ↦ rw e (not_before_itself _ order x)
        | inr j ↦ elim (cases_Bool _) [
          | inl q ↦ absurd (false≢true (sym (r.2 y j) ∙ order.chain y x r.0 q b))
          | inr q ↦ q
        ]
      ],
    )
    | inr b ↦ grind arith
  ]

  first_of : (x : ℕ) (xs : List ℕ) → First (x ∷ xs)
  first_of x [] = (
    x,
    inl refl,
    λ y i. grind (arith, not_before_itself),
  )
  first_of x (z ∷ zs) = earlier_first x (z ∷ zs) (first_of z zs)

  first_in : (x : ℕ) (xs : List ℕ) → In x xs → First xs
  first_in x [] i = absurd i
  first_in x (z ∷ zs) i = first_of z zs

  module _ (t : ℕ → ℕ) (waiting : List ℕ) (k h : ℕ) (back : ℕ → ℕ) (shift : (f : ℕ) → In f waiting
      → KeepsCountedShift k back comes_before t waiting f) where
    stays : (f : ℕ) → In f (staying_of t h waiting) → In f waiting × (h ≤ t f)
    stays f i = grind (arith, in_filter, cases_lt, false≢true, not, lt-ltb)

    -- as many freeze behind f as behind one that stands no further back, or fewer
    pub fewer_overtook : (f x : ℕ) → comes_before f x ≡ false
        → overtook comes_before t h waiting f ≤ overtook comes_before t h waiting x
    fewer_overtook f x ahead = search (count_is, count_weaker, behind_both)

    -- those behind the first that stays are no more than it may go back
    few_overtook_first : (m : ℕ) → In m (staying_of t h waiting)
        → ((y : ℕ) → In y (staying_of t h waiting) → comes_before y m ≡ false)
        → overtook comes_before t h waiting m ≤ back m
    few_overtook_first m i first =
        let early = λ (g : ℕ). nat_lt (t g) h in
        let froze = frozen_of t h waiting in
        let at = stays m i in
        let s = shift m at.0 in
        let a = count_is (λ g. comes_before g m) waiting in
        let b = count_is (λ g. nat_lt (t g) (t m)) waiting in
        let c = count_is (λ g. comes_before m g) froze in
        let ranks = count_parts (λ g. comes_before g m) early waiting in
        let places = count_parts (λ g. nat_lt (t g) (t m)) early waiting in
        let none = count_none _ (staying_of t h waiting) (λ g j e. false≢true (sym (first g j) ∙ e)) in
        let split = count_split _ _ _ froze (λ g j.
        let lt = ltb-true (t g) h (in_filter early g _ j).1 in
        let yes' = lt-ltb (t g) (t m) (omega arith) in
        elim (cases_Bool _) [
          | inl q ↦ inr (inl (yes', order.one_way m g q, q))
          | inr q ↦ inl (yes', order.total m g (λ e. omega (arith, ap t e)) q, q)
        ]) in
        omega (arith, s.1)

    -- so for each that stays there is one that stands no further back and bounds those that freeze behind it
    pub bound_overtook : (f : ℕ) → In f (staying_of t h waiting) → (m : ℕ) × In m (staying_of t h waiting)
        × (comes_before f m ≡ false) × (overtook comes_before t h waiting f ≤ back m)
    bound_overtook f i = grind (arith, first_in, fewer_overtook, few_overtook_first)

  -- ---- where none may go back by more than one place

  module _ (t : ℕ → ℕ) (waiting : List ℕ) (k : ℕ) (back : ℕ → ℕ) (shift : (f : ℕ) → In f waiting
      → KeepsCountedShift k back comes_before t waiting f) (one : (f : ℕ) → In f waiting
      → back f ≤ 1) (apart : (f g : ℕ)
      → In f waiting → In g waiting → f ≢ g → t f ≢ t g) where
    staying : (h f : ℕ) → In f waiting → h ≤ t f → In f (staying_of t h waiting)
    staying h f i le = filter_in _ f _ i (ap not (le-ltb _ h le))

    overtook_is : (h f : ℕ) → overtook comes_before t h waiting f ≡ count (λ g. nat_lt (t g) h
        && comes_before f g) waiting
    overtook_is h f = count_is _ _ ∙ count_filter _ _ _

    -- those behind f that land before h land before m too, behind m; and so does f, if it is another
    module _ (h f m : ℕ) (i : In f waiting) (j : In m waiting) (stays_f : h ≤ t f) (later : t f ≤ t m)
        (ahead : comes_before f m ≡ false) where
      among : (g : ℕ) → (nat_lt (t g) h && comes_before f g) ≡ true → (nat_lt (t g) (t m) && comes_before m g) ≡ true
      among g e = grind (arith, and_parts, ltb-true, and_from, lt-ltb, behind_both)

      as_many : overtook comes_before t h waiting f ≤ overtook comes_before t (t m) waiting m
      as_many = search (count_weaker, among, overtook_is)

      more : f ≢ m → overtook comes_before t h waiting f < overtook comes_before t (t m) waiting m
      more ne =
          let apart' = apart f m i j ne in
          let within = and_from _ _ (lt-ltb _ _ (omega arith)) (order.total f m ne ahead) in
          let w = count_stricter _ _ f _ i (ap (λ b. b && comes_before f f) (le-ltb _ h stays_f)) within
          (λ g n e. among g e) in search (arith, overtook_is)

    -- each that stays bounds by itself those that freeze behind it
    pub few_overtook_itself : (h f : ℕ) → In f waiting → h ≤ t f → overtook comes_before t h waiting f ≤ back f
    few_overtook_itself h f i le =
        let f_in = staying (t f) f i (omega arith) in
        let r = first_in f _ f_in in
        let m = r.0 in
        let at = stays t waiting k _ _ shift m r.1 in
        let later = at.1 in
        let few = few_overtook_first t waiting k _ _ shift m (staying _ m at.0 (omega arith))
        (λ y n. r.2 y (let w = stays t waiting k (t m) _ shift y n in staying _ y w.0 (omega arith))) in
        elim (cases_eq f m) [
          | inl e ↦ (let a = as_many h f m i at.0 le later (r.2 f f_in) in let b = ap back e in omega arith)
          | inr ne ↦ (omega (arith, more h f m i at.0 le later (r.2 f f_in) ne))
        ]
