-- Callsigns that were seen, and lines that have one again.
use Rattle.std.proofs.Common.{◌≡◌, ℕ, ◌+◌, ◌<◌, Bool, true, false, cond, ◌||◌, List, [], ◌∷◌, ◌++◌, length, get_or}
use Rattle.std.proofs.Common.{map, drop, Some, refl, sym, ap, ap₂, subst, ◌∙◌}
use Rattle.std.specs.Prelude.{find, is_some}
use Rattle.std.specs.List.{list_any}
use Rattle.std.specs.Str.{bytes_eq}
use Rattle.std.proofs.lemmas.Cmp.{nat_list_eq_equiv}
use Rattle.std.proofs.lemmas.List.{drop_more}
use Rattle.std.proofs.lemmas.Slice.Eq.{bytes_eq-Decides}
use Rattle.indexmap.specs.IndexSet.{insert_key}
use Rattle.landing_rules.specs.Flights.{Active}
use Rattle.landing_rules.specs.Text.{ShownLanding}
use Rattle.landing_rules.specs.Audit.{Finding, Twice, has_line, twice_after}
use Rattle.plan_file.specs.Shown.{shown_of}
use Rattle.plan_file.specs.declared.landing.Landing.{Landing}
use Rattle.audit.specs.Findings.{repeated}
use Rattle.audit.specs.Seen.{has_name}
use Rattle.audit.specs.shared.Steps.{place_step}

abbrev Name : Type 0
Name = List ℕ

pub has-sym : (c : Name) (ks : List Name) → list_any (bytes_eq c) ks ≡ has_name ks c
has-sym c [] = refl
has-sym c (k ∷ ks) = ap₂ (λ (a b : Bool). a || b) (nat_list_eq_equiv.symm c k) (has-sym c ks)

or-swap : (a b r : Bool) → ((b || a) || r) ≡ (a || (b || r))
or-swap true true r = refl
or-swap true false r = refl
or-swap false true r = refl
or-swap false false r = refl

has-push : (ks : List Name) (k c : Name) → has_name (ks ++ k ∷ []) c ≡ (bytes_eq k c || has_name ks c)
has-push [] k c = refl
has-push (x ∷ ks) k c = ap (λ b. bytes_eq x c || b) (has-push ks k c) ∙ go (bytes_eq x c) (bytes_eq k c)
  where
    go : (a b : Bool) → (a || (b || has_name ks c)) ≡ (b || (a || has_name ks c))
    go true true = refl
    go true false = refl
    go false true = refl
    go false false = refl

-- one more callsign, or one that is there
pub has-insert : (ks : List Name) (k c : Name) → has_name (insert_key bytes_eq ks k) c ≡ (bytes_eq k c || has_name ks c)
has-insert ks k c = go (list_any (bytes_eq k) ks) refl
  where
    there : (b : Bool) → bytes_eq k c ≡ b → list_any (bytes_eq k) ks ≡ true → has_name ks c ≡ (b || has_name ks c)
    there true e h = let same : k ≡ c =
        (bytes_eq-Decides k c).0 e in subst (λ (d : Name). has_name ks d ≡ true) same (sym (has-sym k ks) ∙ h)
    there false e h = refl

    go : (b : Bool) → list_any (bytes_eq k) ks ≡ b
        → has_name (cond b ks (ks ++ k ∷ [])) c ≡ (bytes_eq k c || has_name ks c)
    go true h = there (bytes_eq k c) refl h ∙ ap (λ b. b || has_name ks c) refl
    go false h = has-push ks k c

-- ---- the lines above, and one more

pub twice_step : (lines : List Landing) (i : ℕ)
    (l : Landing) (above : List ShownLanding) (done more whole : List Finding) → i < length lines → l ≡ get_or lines i l
    → more ≡ repeated (has_line above l.callsign) l.callsign → done ++ twice_after above (map shown_of (drop i lines))
    ≡ whole → (done ++ more) ++ twice_after (shown_of l ∷ above) (map shown_of (drop (i + 1) lines)) ≡ whole
twice_step lines i l above done more whole lt same e h =
    let rest = twice_after (shown_of l ∷ above) (map shown_of (drop (i + 1) lines)) in
    place_step (λ ls. twice_after above (map shown_of ls))
    (λ ls. twice_after (shown_of l ∷ above) (map shown_of ls)) lines i l done more whole lt same
    (sym (ap (λ m. m ++ rest) e ∙ one (has_line above l.callsign))) h
  where
    one : (b : Bool) → repeated b l.callsign ++ twice_after (shown_of l ∷ above) (map shown_of (drop (i + 1) lines)) ≡
        cond b (Twice l.callsign ∷ twice_after (shown_of l ∷ above) (map shown_of (drop (i + 1) lines)))
        (twice_after (shown_of l ∷ above) (map shown_of (drop (i + 1) lines)))
    one true = refl
    one false = refl

pub seen_step : (lines : List Landing) (i : ℕ) (l : Landing) (above : List ShownLanding) (c : Name) (whole : Bool) →
    i < length lines → l ≡ get_or lines i l → (has_line above c || has_line (map shown_of (drop i lines)) c) ≡ whole →
    (has_line (shown_of l ∷ above) c || has_line (map shown_of (drop (i + 1) lines)) c) ≡ whole
seen_step lines i l above c whole lt same h =
    let rest = map shown_of (drop (i + 1) lines) in
    let here : drop i lines ≡ l ∷ drop (i + 1) lines =
    drop_more lines i l lt ∙ ap (λ y. y ∷ drop (i + 1) lines) (sym same) in
    or-swap (has_line above c) (bytes_eq l.callsign c) (has_line rest c)
    ∙ ap (λ ls. has_line above c || has_line (map shown_of ls) c) (sym here) ∙ h

-- ---- active flights

pub some-find : (p : Active → Bool) (xs : List Active) → is_some (find p xs) ≡ list_any p xs
some-find p [] = refl
some-find p (x ∷ xs) = go (p x) (some-find p xs)
  where
    go : (b : Bool) → is_some (find p xs) ≡ list_any p xs → is_some (cond b (Some x) (find p xs)) ≡ (b || list_any p xs)
    go true ih = refl
    go false ih = ih
