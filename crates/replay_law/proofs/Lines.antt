-- Lines that do not begin an answer, with a text behind them that is over or begins one: both texts tell where the
-- lines end.
use Rattle.std.proofs.Common.{arith, ◌≡◌, ◌≢◌, List, [], ◌∷◌, ◌++◌, refl, sym, ap, ◌∙◌, append_assoc}
use Rattle.std.specs.Prelude.{⊤}
use Rattle.landing_rules.specs.Text.{Bytes, line, lines_text}
use Rattle.landing_rules.specs.shared.Lines.{IsWithout, first_or, rest_of, cut_same}

-- the same text in front goes
pub cancel : (a x y : Bytes) → a ++ x ≡ a ++ y → x ≡ y
cancel [] x y e = e
cancel (b ∷ a) x y e = cancel a x y (ap rest_of e)

-- lines of a plan: each one line, and none begins with the letter of "event"
abbrev pub ArePlanLines : List Bytes → Type 0
ArePlanLines [] = ⊤
ArePlanLines (l ∷ ls) = (IsWithout 10 l × (first_or 10 l ≢ 101)) × ArePlanLines ls

-- the text is over, or begins with that letter
abbrev pub EndsPlan : Bytes → Type 0
EndsPlan u = first_or 101 u ≡ 101

line_first : (l x u : Bytes) → (line l ++ x) ++ u ≡ l ++ 10 ∷ (x ++ u)
line_first l x u = grind (arith, append_assoc)

pub lines_same : (ls ms : List Bytes) (u v : Bytes) → ArePlanLines ls → ArePlanLines ms → EndsPlan u
    → EndsPlan v → lines_text ls ++ u ≡ lines_text ms ++ v → (ls ≡ ms) × (u ≡ v)
lines_same [] [] u v p q s t e = (refl, e)
lines_same [] (m ∷ ms) u v p q s t e = grind arith
lines_same (l ∷ ls) [] u v p q s t e = grind arith
lines_same (l ∷ ls) (m ∷ ms) u v p q s t e =
    let both = cut_same 10 l m (lines_text ls ++ u) (lines_text ms ++ v) p.0.0 q.0.0
    (sym (line_first l (lines_text ls) u) ∙ e ∙ line_first m (lines_text ms) v) in
    let more = lines_same ls ms u v p.1 q.1 s t both.1 in
    (rw (both.0, more.0) refl, more.1)
