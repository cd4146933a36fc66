-- The landing lines of a plan file are at most 500, and hold callsigns and seconds of the two days.
use Rattle.std.proofs.Common.{◌≡◌, ℕ, ◌+◌, ◌≤◌, inl, inr, List, [], ◌∷◌, ◌++◌, length, true, arith, Option, Some, None}
use Rattle.std.proofs.Common.{Result, Ok, Err, refl, ap, subst}
use Rattle.std.specs.Prelude.{All, bytes_eq, codes, nat_lt, option_and_then, option_map, ◌==◌}
use Rattle.std.specs.Result.{result_ok}
use Rattle.std.proofs.lemmas.Bool.{cases_Bool}
use Rattle.std.proofs.lemmas.Bool.Decides.{nat_tests}
use Rattle.std.proofs.lemmas.Option.{same_Some}
use Rattle.std.proofs.lemmas.List.{length-append}
use Rattle.std.proofs.lemmas.List.Elements.{All-nil, All-cons, All-append}
use Rattle.cps_base.specs.Answers.{◌>>=◌}
use Rattle.cps_base.specs.Text.{is_callsign}
use Rattle.cps_base.specs.Limits.{most_flights}
use Rattle.landing_rules.specs.Rules.{last_second}
use Rattle.landing_rules.specs.Text.{ShownLanding}
use Rattle.plan_file.specs.declared.block.Block.{Block}
use Rattle.plan_file.specs.declared.plan.PlanText.{PlanText}
use Rattle.plan_file.specs.declared.plan.PlanText.TheVariants as said
use Rattle.plan_file.specs.Lines.{landing_by, landing_from, landing_in, landing_with, mark_in, head_in}
use Rattle.plan_file.specs.Reading.{body_lines, line_in, lines_in, nothing_behind, or_fault, plan_behind, plan_by}
use Rattle.plan_file.specs.Reading.{plan_of, plan_with}
use Rattle.landing_rules.specs.declared.objective.Objective.{Objective}
use Rattle.texts.specs.Parts.{callsign_in, number_in, parts}
use Rattle.text_bounds.specs.shared.Numbers.{in_most}

pub record IsTold (l : ShownLanding) : Type 0 where
  pub callsign : is_callsign l.callsign ≡ true
  pub second : l.second ≤ last_second

bind_some : {A B : Type 0} (f : A → Option B) (o : Option A) (y : B) → option_and_then f o ≡ Some y
    → (x : A) × (o ≡ Some x) × (f x ≡ Some y)
bind_some f None y e = absurd (cc e)
bind_some f (Some x) y e = (x, refl, e)

map_some : {A B : Type 0} (f : A → B) (o : Option A) (y : B) → option_map f o ≡ Some y → (x : A) × (f x ≡ y)
map_some f None y e = absurd (cc e)
map_some f (Some x) y e = (x, same_Some (f x) y e)

bind_ok : {A B F : Type 0} (r : Result A F) (f : A → Result B F) (y : B) → (r >>= f) ≡ Ok y
    → (x : A) × (r ≡ Ok x) × (f x ≡ Ok y)
bind_ok (Ok x) f y e = (x, refl, e)
bind_ok (Err d) f y e = absurd (cc e)

named : (text c : List ℕ) → callsign_in text ≡ Some c → is_callsign c ≡ true
named text c e = elim (cases_Bool (is_callsign text)) [
  | inl here ↦ subst (λ (x : List ℕ). is_callsign x ≡ true) (same_Some text c (rw here at e)) here
  | inr other ↦ absurd (cc (rw other at e))
]

from_told : (callsign second mark : List ℕ) (l : ShownLanding) → landing_from callsign second mark ≡ Some l → IsTold l
unfolding landing_from
from_told callsign second mark l e =
    let c = bind_some _ (callsign_in callsign) l e in
    let t = bind_some _ (number_in second 0 last_second) l c.2 in
    let f = map_some (landing_with c.0 t.0) (mark_in mark) l t.2 in
    subst IsTold f.1 (record { callsign = named callsign c.0 c.1; second = in_most second 0 last_second t.0 t.1 })

by_told : (fields : List (List ℕ)) (l : ShownLanding) → landing_by fields ≡ Some l → IsTold l
unfolding landing_by
by_told [] l e = absurd (cc e)
by_told (a ∷ []) l e = absurd (cc e)
by_told (a ∷ b ∷ []) l e = absurd (cc e)
by_told (a ∷ b ∷ c ∷ []) l e = absurd (cc e)
by_told (a ∷ b ∷ c ∷ d ∷ []) l e = elim (cases_Bool (bytes_eq a (codes "land"))) [
  | inl here ↦ from_told b c d l (rw here at e)
  | inr other ↦ absurd (cc (rw other at e))
]
by_told (a ∷ b ∷ c ∷ d ∷ x ∷ more) l e = absurd (cc e)

line_told : (n : ℕ) (text : List ℕ) (l : ShownLanding) → line_in n text ≡ Ok l → IsTold l × (n ≤ most_flights + 1)
unfolding line_in landing_in
line_told n text l e = elim (cases_Bool (nat_lt (most_flights + 1) n)) [
  | inl many ↦ absurd (cc (rw many at e))
  | inr few ↦ (go (landing_by (parts 32 text)) (by_told (parts 32 text)) (rw few at e), grind (arith, nat_tests, few))
]
  where
    go : (o : Option ShownLanding) → ((x : ShownLanding) → o ≡ Some x → IsTold x) → or_fault n o ≡ Ok l → IsTold l
    go None h is = absurd (cc is)
    go (Some x) h is = subst IsTold (same_Some x l (ap result_ok is)) (h x refl)

-- so many, of these
abbrev pub AreLines : List ShownLanding → Type 0
AreLines ls = All IsTold ls × (length ls ≤ most_flights)

lines_told : (n : ℕ) (before : List ShownLanding) (text : List ℕ) (rest : List (List ℕ)) (ls : List ShownLanding)
    → AreLines before → n ≡ length before + 2 → lines_in n before text rest ≡ Ok ls → AreLines ls
unfolding lines_in
lines_told n before text [] ls all count e = elim (cases_Bool (length text == 0)) [
  | inl last ↦ subst AreLines (same_Some before ls (ap result_ok (rw last at e))) all
  | inr other ↦ absurd (cc (rw other at e))
]
lines_told n before text (next ∷ rest) ls all count e =
    let l = bind_ok (line_in n text) (λ l. lines_in (n + 1) (before ++ l ∷ []) next rest) ls e in
    let one = line_told n text l.0 l.1 in
    let fits = one.1 in
    let more = length-append before (l.0 ∷ []) in
    lines_told (n + 1) (before ++ l.0 ∷ []) next rest ls
    (All-append IsTold before (l.0 ∷ []) all.0 (All-cons IsTold l.0 [] one.0 (All-nil IsTold)), omega arith)
    (omega arith) l.2

body_told : (rest : List (List ℕ)) (ls : List ShownLanding) → body_lines rest ≡ Ok ls → AreLines ls
body_told [] ls e = absurd (cc e)
body_told (text ∷ rest) ls e = lines_told 2 [] text rest ls (All-nil IsTold, omega arith) (omega arith) e

-- of a plan, or of none
abbrev pub AreTold : PlanText → Type 0
AreTold said.Nothing = Unit {0}
AreTold (said.Block b) = AreLines b.lines

nothing_told : (rest : List (List ℕ)) (p : PlanText) → nothing_behind rest ≡ Ok p → AreTold p
nothing_told [] p e = absurd (cc e)
nothing_told (text ∷ []) p e = elim (cases_Bool (length text == 0)) [
  | inl last ↦ subst AreTold (same_Some said.Nothing p (ap result_ok (rw last at e))) tt
  | inr other ↦ absurd (cc (rw other at e))
]
nothing_told (text ∷ next ∷ rest) p e = absurd (cc e)

behind_told : (head : Option (Objective × ℕ)) (rest : List (List ℕ)) (p : PlanText) → plan_behind head rest ≡ Ok p
    → AreTold p
behind_told None rest p e = absurd (cc e)
behind_told (Some head) rest p e =
    let ls = bind_ok (body_lines rest) (plan_with head) p e in
    subst AreTold (same_Some _ p (ap result_ok ls.2)) (body_told rest ls.0 ls.1)

pub plan_told : (bytes : List ℕ) (p : PlanText) → plan_of bytes ≡ Ok p → AreTold p
unfolding plan_of plan_by
plan_told bytes p e = go (parts 10 bytes) e
  where
    go : (ls : List (List ℕ)) → plan_by ls ≡ Ok p → AreTold p
    go [] is = absurd (cc is)
    go (text ∷ rest) is = elim (cases_Bool (bytes_eq text (codes "infeasible"))) [
      | inl none ↦ nothing_told rest p (rw none at is)
      | inr some ↦ behind_told (head_in text) rest p (rw some at is)
    ]
