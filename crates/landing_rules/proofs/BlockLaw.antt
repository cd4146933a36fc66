-- A plan block tells its plan.
use Rattle.std.proofs.Common.{◌≡◌, ℕ, ◌<◌, List, [], ◌∷◌, ◌++◌, Bool, true, false, Option, Some, None, refl, sym, ap}
use Rattle.std.proofs.Common.{◌∙◌, arith, append_assoc}
use Rattle.std.specs.Prelude.{◌^◌, map, codes, decimal}
use Rattle.std.proofs.lemmas.Fmt.{decimal_injective}
use Rattle.landing_rules.specs.declared.objective.Objective.{Objective}
use Rattle.landing_rules.specs.declared.objective.Objective.TheVariants.{Makespan, Delay}
use Rattle.landing_rules.specs.Text.{Bytes, ShownLanding, ShownPlan, objective_word, frozen_word, landing_words}
use Rattle.landing_rules.specs.Text.{block_lines, IsName, AreNamed, IsShowable, BlockLaw}
use Rattle.landing_rules.specs.shared.Lines.{IsWithout-append, first_or, rest_of, cut_same, AreLines, lines_same}
use Rattle.landing_rules.specs.shared.Lines.{decimal_without, name_without, all_without, objective_without}
use Rattle.landing_rules.specs.shared.Lines.{landing_line}

-- ---- one landing

frozen_same : (a b : Bool) → frozen_word a ≡ frozen_word b → a ≡ b
frozen_same a b e = grind arith

frozen_cut : (a : Bool) → (t : Bytes) × (frozen_word a ≡ 32 ∷ t)
frozen_cut true = (codes "frozen", refl)
frozen_cut false = (codes "waiting", refl)

landing_same : (f g : ShownLanding) → IsName f.callsign → IsName g.callsign → f.second < 2 ^ 64
    → g.second < 2 ^ 64 → landing_words f ≡ landing_words g → f ≡ g
landing_same f g p q m n e =
    let tails : f.callsign ++ codes " " ++ (decimal f.second ++ frozen_word f.frozen) ≡ g.callsign
    ++ codes " " ++ (decimal g.second ++ frozen_word g.frozen) =
    ap (λ (t : Bytes). rest_of (rest_of (rest_of (rest_of (rest_of t))))) e in
    let names = cut_same 32 f.callsign g.callsign (decimal f.second ++ frozen_word f.frozen) _
    (name_without 32 f.callsign (omega arith) p) (name_without 32 g.callsign (omega arith) q)
    (sym (append_assoc f.callsign (codes " ") _) ∙ tails ∙ append_assoc g.callsign (codes " ") _) in
    let a = frozen_cut f.frozen in
    let b = frozen_cut g.frozen in
    let cut : decimal f.second ++ 32 ∷ a.0 ≡ decimal g.second ++ 32 ∷ b.0 =
    ap (λ (t : Bytes). decimal f.second ++ t) (sym a.1) ∙ names.1 ∙ ap (λ (t : Bytes). decimal g.second ++ t) b.1 in
    let numbers = cut_same 32 _ _ a.0 b.0
    (decimal_without 32 f.second (omega arith) m) (decimal_without 32 g.second (omega arith) n) cut in
    let second = decimal_injective f.second g.second m n numbers.0 in
    let words : frozen_word f.frozen ≡ frozen_word g.frozen = a.1 ∙ ap (λ (t : Bytes). 32 ∷ t) numbers.1 ∙ sym b.1 in
    let frozen = frozen_same f.frozen g.frozen words in
    λ i. record { callsign = names.0 i; second = second i; frozen = frozen i }

-- ---- a block

abbrev line_or : List Bytes → Bytes
line_or [] = []
line_or (l ∷ ls) = l

landings_same : (ps qs : List ShownLanding) → AreNamed ps → AreNamed qs → map landing_words ps ≡ map landing_words qs
    → ps ≡ qs
landings_same [] [] p q e = refl
landings_same (f ∷ ps) (g ∷ qs) p q e =
    let head = landing_same f g p.0.0 q.0.0 p.0.1 q.0.1 (ap line_or e) in
    rw (head, landings_same ps qs p.1 q.1 (ap rest_of e)) refl
landings_same ps qs p q e = cc

value_same : (o : Objective) (m n : ℕ) → m < 2 ^ 64 → n < 2 ^ 64 → objective_word o ++ decimal m ≡ objective_word o
    ++ decimal n → m ≡ n
value_same Makespan m n p q e = decimal_injective m n p q (cc)
value_same Delay m n p q e = decimal_injective m n p q (cc)

value_no_none : (o : Objective) (t : Bytes) → codes "infeasible" ≡ objective_word o ++ t → ⊥
value_no_none Makespan t e = let k = ap (first_or 0) e in omega (arith, k)
value_no_none Delay t e = let k = ap (first_or 0) e in omega (arith, k)

block_same : (o : Objective) (p q : Option ShownPlan) → IsShowable p → IsShowable q → block_lines o p ≡ block_lines o q
    → p ≡ q
block_same o p q a b e = grind (arith, value_no_none, value_same, landings_same, rest_of)

-- ---- the lines of a block have no line feed

landing_lines : (fs : List ShownLanding) → AreNamed fs → AreLines (map landing_words fs)
landing_lines [] h = tt
landing_lines (f ∷ fs) h = (landing_line f h.0.0 h.0.1, landing_lines fs h.1)

block_are_lines : (o : Objective) (p : Option ShownPlan) → IsShowable p → AreLines (block_lines o p)
block_are_lines o None h = (all_without 10 (codes "infeasible") refl, tt)
block_are_lines o (Some p) h = (
  IsWithout-append 10 _ _ (objective_without o) (decimal_without 10 _ (omega arith) h.0),
  landing_lines _ h.1,
)

-- a block tells its plan
pub block_law : BlockLaw
block_law o p q a b e = block_same o p q a b (lines_same _ _ (block_are_lines o p a) (block_are_lines o q b) e)
