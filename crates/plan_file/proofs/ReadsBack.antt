-- What is printed of a plan reads back as the plan.
use Rattle.std.proofs.Common.{rules, ◌≡◌, ℕ, ◌+◌, ◌<◌, ◌≤◌, Bool, true, false, List, [], ◌∷◌, ◌++◌, length, map, Some}
use Rattle.std.proofs.Common.{None, Ok, Err, Result, refl, sym, ap, subst, ◌∙◌, arith, inl, append_assoc, append-nil}
use Rattle.std.proofs.lemmas.Grind.{common_steps}
use Rattle.std.specs.Prelude.{◌==◌, codes, decimal}
use Rattle.std.proofs.lemmas.Bool.{le-ltb}
use Rattle.std.proofs.lemmas.List.Elements.{All-append, All-cons}
use Rattle.cps_base.specs.Answers.{◌>>=◌}
use Rattle.cps_base.specs.Text.{is_callsign}
use Rattle.cps_base.specs.Limits.{greatest_value, most_flights}
use Rattle.landing_rules.specs.Rules.{last_second}
use Rattle.landing_rules.specs.declared.objective.Objective.{Objective}
use Rattle.landing_rules.specs.declared.objective.Objective.TheVariants.{Makespan, Delay}
use Rattle.landing_rules.specs.Text.{ShownLanding, ShownPlan, lines_text, head_words, landing_words, block_text}
use Rattle.texts.specs.Parts.{parts}
use Rattle.texts.specs.shared.Printed.{Lacks, cut, uncut, decimal_reads, decimal_lacks, lacks_by, callsign_lacks}
use Rattle.plan_file.specs.declared.plan.PlanFault.{PlanFault}
use Rattle.plan_file.specs.declared.plan.PlanFault.TheVariants as fault
use Rattle.plan_file.specs.declared.plan.PlanText.TheVariants as said
use Rattle.plan_file.specs.Lines.{head_in, head_by, landing_in, landing_by, landing_from}
use Rattle.plan_file.specs.Reading.{line_in, lines_in, plan_behind, plan_by, plan_of, plan_with}
use Rattle.plan_file.specs.Printed.{AreReadable, IsReadable}

abbrev Lines : Type 0
Lines = List (List ℕ)

abbrev AreLines : Lines → Type 0
AreLines [] = Unit {0}
AreLines (x ∷ xs) = Lacks 10 x × AreLines xs

-- a text of lines is cut into them, and nothing stands behind the last
parts_lines : (xs : Lines) → AreLines xs → parts 10 (lines_text xs) ≡ xs ++ [] ∷ []
parts_lines [] h = refl
parts_lines (x ∷ xs) h = grind (arith, append_assoc, cut, parts_lines xs h.1)

-- ---- the first line

number_lacks : (n mark : ℕ) → n ≤ greatest_value → mark < 48 → Lacks mark (decimal n)
number_lacks n mark h low = decimal_lacks n mark (omega arith) (inl low)

head_lacks : (o : Objective) (v : ℕ) → v ≤ greatest_value → Lacks 10 (head_words o v)
head_lacks o v h = grind (arith, All-append, lacks_by, number_lacks)

word_fields : (word : List ℕ) (v : ℕ) → Lacks 32 word → v ≤ greatest_value
    → parts 32 (word ++ 32 ∷ decimal v) ≡ word ∷ decimal v ∷ []
word_fields word v l h = grind (arith, cut, uncut, number_lacks)

pub head_reads : (o : Objective) (v : ℕ) → v ≤ greatest_value → head_in (head_words o v) ≡ Some (o, v)
unfolding head_in head_by
head_reads Makespan v h = ap head_by (word_fields (codes "makespan") v (lacks_by 32 (codes "makespan") refl) h)
    ∙ rw (decimal_reads v 0 greatest_value (omega arith) (omega arith) h) refl
head_reads Delay v h = ap head_by (word_fields (codes "delay") v (lacks_by 32 (codes "delay") refl) h)
    ∙ rw (decimal_reads v 0 greatest_value (omega arith) (omega arith) h) refl

-- ---- a landing

second_lacks : (t mark : ℕ) → t ≤ last_second → mark < 48 → Lacks mark (decimal t)
second_lacks t mark h low = decimal_lacks t mark (omega arith) (inl low)

abbrev mark_word : Bool → List ℕ
mark_word true = codes "frozen"
mark_word false = codes "waiting"

mark_lacks : (f : Bool) → Lacks 32 (mark_word f)
mark_lacks f = grind arith

mark_ends : (f : Bool) → Lacks 10 (32 ∷ mark_word f)
mark_ends f = grind arith

abbrev told : ShownLanding → List ℕ
told f = codes "land" ++ 32 ∷ (f.callsign ++ 32 ∷ (decimal f.second ++ 32 ∷ mark_word f.frozen))

same_words : (f : ShownLanding) → landing_words f ≡ told f
same_words f = grind (arith, append_assoc)

landing_lacks : (f : ShownLanding) → is_callsign f.callsign ≡ true → f.second ≤ last_second → Lacks 10 (landing_words f)
landing_lacks f c t =
    let test : ℕ → Type 0 = λ b. (b == 10) ≡ false in
    let behind : Lacks 10 (decimal f.second ++ 32 ∷ mark_word f.frozen) = All-append test (decimal f.second)
    (32 ∷ mark_word f.frozen) (second_lacks f.second 10 t (omega arith)) (mark_ends f.frozen) in
    let second : List ℕ = decimal f.second ++ 32 ∷ mark_word f.frozen in
    let words : List ℕ = f.callsign ++ 32 ∷ second in
    let name : Lacks 10 words = All-append test f.callsign (32 ∷ second) (callsign_lacks 10 f.callsign refl c)
    (All-cons test 32 second refl behind) in
    subst (λ (w : List ℕ). Lacks 10 w) (sym (same_words f))
    (All-append test (codes "land") (32 ∷ words) (lacks_by 10 (codes "land") refl) (All-cons test 32 words refl name))

landing_fields : (f : ShownLanding) → is_callsign f.callsign ≡ true → f.second ≤ last_second
    → parts 32 (told f) ≡ codes "land" ∷ f.callsign ∷ decimal f.second ∷ mark_word f.frozen ∷ []
landing_fields f c t = grind (arith, cut, lacks_by, callsign_lacks, second_lacks, uncut, mark_lacks)

from_parts : (f : ShownLanding) → is_callsign f.callsign ≡ true → f.second ≤ last_second
    → landing_from f.callsign (decimal f.second) (mark_word f.frozen) ≡ Some f
unfolding landing_from
from_parts f c t = grind (arith, decimal_reads)

pub landing_reads : (f : ShownLanding) → is_callsign f.callsign ≡ true → f.second ≤ last_second
    → landing_in (landing_words f) ≡ Some f
unfolding landing_in landing_by
landing_reads f c t = grind (arith, same_words, landing_fields, from_parts)

line_reads : (n : ℕ) (f : ShownLanding) → n ≤ most_flights + 1 → is_callsign f.callsign ≡ true → f.second ≤ last_second
    → line_in n (landing_words f) ≡ Ok f
unfolding line_in
line_reads n f few c t = search (le-ltb, landing_reads)

-- ---- all lines

abbrev lines_all : ℕ → List ShownLanding → Lines → Result (List ShownLanding) PlanFault
lines_all n before [] = Err (fault.Line 1)
lines_all n before (line ∷ rest) = lines_in n before line rest

more : (n : ℕ) (before : List ShownLanding) (f : ShownLanding) (line : List ℕ) (rest : Lines)
    → 0 < length rest → line_in n line ≡ Ok f → lines_in n before line rest ≡ lines_all (n + 1) (before ++ f ∷ []) rest
unfolding lines_in
more n before f line rest some e = grind arith

has_last : (xs : Lines) (x : List ℕ) → 0 < length (xs ++ x ∷ [])
has_last xs x = grind (arith, common_steps)

body_back : (n : ℕ) (before ls : List ShownLanding) → AreReadable ls → n + length ls ≤ 502
    → lines_all n before (map landing_words ls ++ [] ∷ []) ≡ Ok (before ++ ls)
unfolding lines_in
body_back n before [] h few = grind (arith, append-nil)
body_back n before (f ∷ ls) h few =
    more n before f (landing_words f) (map landing_words ls ++ [] ∷ []) (has_last (map landing_words ls) [])
    (line_reads n f (omega arith) h.0 h.1)
    ∙ body_back (n + 1) (before ++ f ∷ []) ls h.2 (omega arith)
    ∙ ap (λ (l : List ShownLanding). Ok l) (append_assoc before (f ∷ []) ls)

are_lines : (ls : List ShownLanding) → AreReadable ls → AreLines (map landing_words ls)
are_lines [] h = tt
are_lines (f ∷ ls) h = (landing_lacks f h.0 h.1, are_lines ls h.2)

-- the first line is not that of no plan
not_nothing : (o : Objective) (v : ℕ) (rest : Lines)
    → plan_by (head_words o v ∷ rest) ≡ plan_behind (head_in (head_words o v)) rest
unfolding plan_by
not_nothing o v rest = grind arith

with_lines : (o : Objective) (v : ℕ) (ls : List ShownLanding) → AreReadable ls → length ls ≤ most_flights
    → plan_behind (Some (o, v)) (map landing_words ls ++ [] ∷ []) ≡ plan_with (o, v) ls
with_lines o v [] h few =
    ap (λ (r : Result (List ShownLanding) PlanFault). r >>= plan_with (o, v)) (body_back 2 [] [] h (omega arith))
with_lines o v (f ∷ ls) h few =
    ap (λ (r : Result (List ShownLanding) PlanFault). r >>= plan_with (o, v)) (body_back 2 [] (f ∷ ls) h (omega arith))

pub plan_back : (o : Objective) (p : ShownPlan) → IsReadable p
    → plan_of (block_text o (Some p)) ≡ plan_with (o, p.value) p.landings
unfolding plan_of
plan_back o p h = search (rules, parts_lines, head_lacks, are_lines, not_nothing, head_reads, with_lines)

pub nothing_back : (o : Objective) → plan_of (block_text o None) ≡ Ok said.Nothing
unfolding plan_of plan_by
nothing_back o = grind arith
