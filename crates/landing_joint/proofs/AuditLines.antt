-- The lines of a block, their flights and their landings.
use Rattle.std.proofs.Common.{◌≡◌, ◌≢◌, ℕ, zero, suc, ◌+◌, ◌<◌, inl, inr, List, [], ◌∷◌, length, map, cond, Bool, true}
use Rattle.std.proofs.Common.{false, not, arith, refl, sym, ap, ap₂, ◌∙◌}
use Rattle.std.specs.Prelude.{option_map, find, AllPairs, Some}
use Rattle.std.specs.Str.{bytes_eq}
use Rattle.std.specs.List.{list_any, cons_option}
use Rattle.std.proofs.lemmas.Slice.Eq.{bytes_eq-Decides}
use Rattle.std.proofs.lemmas.Bool.{or_cases, or_left, or_right, lt-ltb, or_parts, or_from, false_from_ne_true}
use Rattle.std.proofs.lemmas.Bool.{false≢true, cases_Bool, cases_lt, le-ltb}
use Rattle.landing_rules.specs.declared.objective.Objective.{Objective}
use Rattle.landing_rules.specs.declared.objective.Objective.TheVariants.{Makespan, Delay}
use Rattle.landing_rules.specs.Flights.{Callsign, Active, Situation, Landing, landing, is_waiting}
use Rattle.landing_rules.specs.Events.{named}
use Rattle.landing_rules.specs.Text.{ShownLanding, shown_landing}
use Rattle.landing_rules.specs.shared.Counting.{Member}
use Rattle.landing_rules.specs.Audit.{Finding, Twice, Order, Mark, for_failing, has_line, twice_after, disordered_from}
use Rattle.landing_rules.specs.Audit.{disordered, lines_found, is_marked, landing_of, is_objective}
use Rattle.cps_theory.specs.RankLists.{Distinct, In}
use Rattle.landing_joint.specs.Numbered.{nobody, numbered}
use Rattle.landing_joint.proofs.AuditLists.{cons_nil, Each}
use Rattle.landing_joint.proofs.LandingOrder.{Strict}
use Rattle.landing_rules.specs.shared.Members.{found_in, in_map, none_any}

-- ---- names

pub find_first : (all : List Active) → AllPairs (λ a b. a.flight.callsign ≢ b.flight.callsign) all
    → (i : ℕ) → i < length all → find (named (numbered all i).flight.callsign) all ≡ Some (numbered all i)
find_first [] h i lt = absurd (omega arith)
find_first (a ∷ all) h zero lt = grind (arith, bytes_eq-Decides)
find_first (a ∷ all) h (suc i) lt =
    let c = (numbered all i).flight.callsign in
    let no' = false_from_ne_true _ (λ e. h 0 (suc i) nobody (omega arith) lt ((bytes_eq-Decides _ c).0 e)) in
    ap (λ b. cond b (Some a) (find (named c) all)) no'
    ∙ find_first all (λ k j d l m. h (suc k) (suc j) d (omega arith) (omega arith)) i (omega arith)

pub find_some : (c : Callsign) (all : List Active) (a : Active) → find (named c) all ≡ Some a
    → Member a all × (a.flight.callsign ≡ c)
find_some c all a e = let r = found_in _ all a e in (r.0, (bytes_eq-Decides _ c).0 r.1)

pub any_found : (c : Callsign) (all : List Active) → list_any (named c) all ≡ true
    → (a : Active) × (find (named c) all ≡ Some a)
any_found c [] e = absurd (false≢true e)
any_found c (x ∷ all) e = elim (cases_Bool (bytes_eq x.flight.callsign c)) [
  | inl q ↦ (x, rw q)
  | inr q ↦ (let w = any_found c all (rw q at e) in (w.0, rw q w.1))
]

pub found_any : (c : Callsign) (all : List Active) (a : Active) → find (named c) all ≡ Some a
    → list_any (named c) all ≡ true
found_any c all a e = elim (cases_Bool _) [
  | inl y ↦ y
  | inr n ↦ (let r = found_in _ all a e in absurd (false≢true (sym (none_any _ all a n r.0) ∙ r.1)))
]

pub line_member : (c : Callsign) (lines : List ShownLanding) → has_line lines c ≡ true
    → (l : ShownLanding) × Member l lines × (l.callsign ≡ c)
line_member c [] e = absurd (false≢true e)
line_member c (l ∷ lines) e = grind (arith, or_cases, bytes_eq-Decides, line_member c lines)

pub member_line : (l : ShownLanding) (lines : List ShownLanding) → Member l lines → has_line lines l.callsign ≡ true
member_line l [] m = absurd m
member_line l (x ∷ lines) m = grind (arith, or_left, bytes_eq-Decides, or_right, member_line l lines)

-- no callsign stands twice
pub twice_none : (seen lines : List ShownLanding) → twice_after seen lines ≡ []
    → ((l : ShownLanding) → Member l lines → has_line seen l.callsign ≡ false)
    × Each (λ l m. l.callsign ≢ m.callsign) lines
twice_none seen [] e = (λ l m. absurd m, tt)
twice_none seen (x ∷ lines) e = elim (cases_Bool (has_line seen x.callsign)) [
  | inl q ↦ absurd (cons_nil _ _ (rw q at e))
  | inr q ↦
      (let w = twice_none _ lines (rw q at e) in grind (arith, or_parts, false≢true, bytes_eq-Decides))
]

pub none_twice : (seen lines : List ShownLanding)
    → ((l : ShownLanding) → Member l lines → has_line seen l.callsign ≡ false)
    → Each (λ l m. l.callsign ≢ m.callsign) lines → twice_after seen lines ≡ []
none_twice seen [] h e = refl
none_twice seen (x ∷ lines) h e = ap (λ b. cond b (Twice x.callsign ∷ twice_after (x ∷ seen) lines)
    (twice_after (x ∷ seen) lines)) (h x (inl refl)) ∙ none_twice _ lines (λ l m. or_from _ _ (false_from_ne_true _
    (λ q. e.0 l m ((bytes_eq-Decides _ _).0 q))) (h l (inr m))) e.1

-- the second of a callsign's line
abbrev pub second_in : List ShownLanding → Callsign → ℕ
second_in [] c = 0
second_in (l ∷ lines) c = cond (bytes_eq l.callsign c) l.second (second_in lines c)

pub second_at : (lines : List ShownLanding) → Each (λ l m. l.callsign ≢ m.callsign) lines → (l : ShownLanding)
    → Member l lines → second_in lines l.callsign ≡ l.second
second_at [] e l m = absurd m
second_at (x ∷ lines) e l m = grind (arith, bytes_eq-Decides, false_from_ne_true, second_at lines)

-- ---- the order of lines

pub order_strict : (i t : ℕ) (fs : List Landing) → disordered_from i t (map shown_landing fs) ≡ []
    → ((g : Landing) → Member g fs → t < g.second) × Strict fs
order_strict i t [] e = (λ g m. absurd m, tt)
order_strict i t (f ∷ fs) e = elim (cases_lt t f.second) [
  | inl lt ↦ (let w = order_strict (i + 1) _ fs (rw (lt-ltb t _ lt) at e) in
      (λ g m. elim m [ inl s ↦ rw s lt | inr k ↦ (omega (arith, w.0 g k)) ], w))
  | inr le ↦ absurd (cons_nil _ _ (rw (le-ltb t _ le) at e))
]

pub strict_from : (i t : ℕ) (fs : List Landing) → ((g : Landing) → Member g fs → t < g.second)
    → Strict fs → disordered_from i t (map shown_landing fs) ≡ []
strict_from i t [] h e = refl
strict_from i t (f ∷ fs) h e = ap (λ b. cond b (disordered_from (i + 1) f.second (map shown_landing fs))
    (Order i ∷ disordered_from (i + 1) f.second (map shown_landing fs))) (lt-ltb t _ (h f (inl refl)))
    ∙ strict_from (i + 1) _ fs e.0 e.1

pub lines_strict : (fs : List Landing) → disordered (map shown_landing fs) ≡ [] → Strict fs
lines_strict [] e = tt
lines_strict (f ∷ fs) e = order_strict 2 _ fs e

pub strict_lines : (fs : List Landing) → Strict fs → disordered (map shown_landing fs) ≡ []
strict_lines [] e = refl
strict_lines (f ∷ fs) e = strict_from 2 _ fs e.0 e.1

-- ---- a block and its landings

-- each line of these landings finds its flight again
abbrev pub Found : Situation → Landing → Type 0
Found s x = (a : Active) × (find (named x.flight.callsign) s.active ≡ Some a) × (x ≡ landing a x.second)

-- the landings of the lines of a block
abbrev pub block_landings : List Active → List ShownLanding → List Landing
block_landings active lines = map landing_of (lines_found active lines)

pub lines_landings : (s : Situation) (fs : List Landing) → ((x : Landing) → Member x fs → Found s x)
    → block_landings s.active (map shown_landing fs) ≡ fs
lines_landings s [] h = refl
lines_landings s (x ∷ fs) h =
    let w = h x (inl refl) in grind (arith, lines_landings s fs)

pub mark_fits : (b : Bool) → cond (not b) (not b) b ≡ true
mark_fits b = grind arith

pub lines_marks : (s : Situation) (fs : List Landing) → ((x : Landing) → Member x fs → Found s x)
    → for_failing (λ x. is_marked x) (λ (x : ShownLanding × Active). Mark x.0.callsign)
    (lines_found s.active (map shown_landing fs)) ≡ []
lines_marks s [] h = refl
lines_marks s (x ∷ fs) h =
    let w = h x (inl refl) in grind (arith, mark_fits, lines_marks s fs)

-- lines that find their flights, with the right last words, are those of their landings
pub landings_lines : (s : Situation) (ls : List ShownLanding)
    → ((l : ShownLanding) → Member l ls → list_any (named l.callsign) s.active ≡ true)
    → for_failing (λ x. is_marked x) (λ (x : ShownLanding × Active). Mark x.0.callsign) (lines_found s.active ls) ≡ []
    → map shown_landing (block_landings s.active ls) ≡ ls
landings_lines s [] h e = refl
landings_lines s (l ∷ ls) h e =
    let test = λ (y : ShownLanding × Active). is_marked y in
    let made = λ (y : ShownLanding × Active). Mark _ in
    let w = any_found _ s.active (h l (inl refl)) in
    let e' =
    sym (ap (λ o. for_failing test made (cons_option (option_map (λ a. (l, a)) o) (lines_found s.active ls))) w.1)
    ∙ e in
    let t = marked l w.0 _ e' in
    ap (λ o. map shown_landing (map landing_of (cons_option (option_map (λ a. (l, a)) o) (lines_found s.active ls))))
    w.1 ∙ ap₂ (λ (y : ShownLanding) (k : List ShownLanding). y ∷ k)
    (ap₂ (λ (c : Callsign) (b : Bool). record l { callsign = c; frozen = b }) (find_some _ _ w.0 w.1).1 (sym t.0))
    (landings_lines s ls (λ k i. h k (inr i)) t.1)
  where
    marked : (l : ShownLanding) (a : Active) (rest : List Finding)
        → cond (is_marked (l, a)) rest (Mark l.callsign ∷ rest) ≡ [] → (l.frozen ≡ not (is_waiting a)) × (rest ≡ [])
    marked l a rest e = grind (arith, not, cons_nil)

pub each_map : (R : Landing → Landing → Type 0) (F : ℕ → Landing) (xs : List ℕ) → Distinct xs
    → ((i j : ℕ) → In i xs → In j xs → i ≢ j → R (F i) (F j)) → Each R (map F xs)
each_map R F [] d h = tt
each_map R F (x ∷ xs) d h = (
  λ y m. let w = in_map F xs y m in rw w.2 (h x w.0 (inl refl) (inr w.1) (λ e. d.0 (rw e w.1))),
  each_map R F xs d.1 (λ i j mi mj ne. h i j (inr mi) (inr mj) ne),
)

pub each_lines : (fs : List Landing) → Strict fs → ((x y : Landing) → Member x fs → Member y fs
    → x.flight.callsign ≡ y.flight.callsign → x ≡ y) → Each (λ l m. l.callsign ≢ m.callsign) (map shown_landing fs)
each_lines [] e h = tt
each_lines (f ∷ fs) e h = (
  λ l m q. let w = in_map _ fs l m in let s = h f w.0 (inl refl) (inr w.1)
      (cc) in let z = ap (λ (y : Landing). y.second) s in omega arith,
  each_lines fs e.1 (λ x y i j. h x y (inr i) (inr j)),
)

pub same_refl : (o : Objective) → is_objective o o ≡ true
same_refl Makespan = refl
same_refl Delay = refl

pub same_true : (o p : Objective) → is_objective o p ≡ true → o ≡ p
same_true Makespan Makespan e = refl
same_true Makespan Delay e = absurd (false≢true e)
same_true Delay Makespan e = absurd (false≢true e)
same_true Delay Delay e = refl

pub one_nil : (b : Bool) (x : Finding) → cond b [] (x ∷ []) ≡ [] → b ≡ true
one_nil b x e = grind (arith, cons_nil)
