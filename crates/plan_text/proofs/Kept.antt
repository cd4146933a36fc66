-- Landing lines, and where each ends.
use Rattle.std.proofs.Common.{◌≡◌, ℕ, zero, suc, ◌+◌, ◌<◌, ◌≤◌, List, [], ◌∷◌, ◌++◌, length, get_or, map, take}
use Rattle.std.proofs.Common.{drop, sym, ap, ◌∙◌, arith}
use Rattle.std.proofs.lemmas.Grind.{common_steps}
use Rattle.std.proofs.lemmas.List.{append-nil, length-append, map-append, take-map}
use Rattle.std.proofs.Math.Seq.{take-append_seam}
use Rattle.landing_rules.specs.Text.{ShownLanding, landing_words, line}
use Rattle.plan_text.specs.Kept.{EndAt, landing_of}
use Rattle.plan_text.specs.declared.kept_text.Line.{Line}
use Rattle.plan_text.proofs.Landings.{landing_lines, lines_split}

abbrev pub of_lines : List Line → List ℕ
of_lines ls = landing_lines (map landing_of ls)

pub ends_first : (n : ℕ) (ls : List Line) (k : ℕ) → EndAt n ls → EndAt n (take k ls)
ends_first n ls zero h = tt
ends_first n [] (suc k) h = tt
ends_first n (l ∷ ls) (suc k) h = (h.0, ends_first l.end ls k h.1)

pub end_at : (n : ℕ) (ls : List Line) (k : ℕ) (d : Line) → EndAt n ls → k < length ls
    → (get_or ls k d).end ≡ n + length (of_lines (take (suc k) ls))
end_at n [] k d h lt = absurd (omega arith)
end_at n (l ∷ ls) zero d h lt = grind (arith, append-nil)
end_at n (l ∷ ls) (suc k) d h lt = grind (arith, length-append, end_at l.end ls k d h.1 (omega arith))

pub lines_more : (ls : List ShownLanding) (l : ShownLanding) → landing_lines (ls ++ l ∷ []) ≡ landing_lines ls
    ++ line (landing_words l)
lines_more ls l = grind (arith, common_steps)

pub of_lines_more : (ls : List Line) (l : Line) → of_lines (ls ++ l ∷ []) ≡ of_lines ls
    ++ line (landing_words (landing_of l))
of_lines_more ls l = grind (arith, map-append, lines_more)

pub ends_more : (n : ℕ) (ls : List Line) (l : Line) → EndAt n ls
    → l.end ≡ n + length (of_lines ls ++ line (landing_words (landing_of l))) → EndAt n (ls ++ l ∷ [])
ends_more n [] l h e = (e, tt)
ends_more n (x ∷ xs) l h e =
    let w = line (landing_words (landing_of l)) in
    let v = line (landing_words (landing_of x)) in
    let here = h.0 in
    let a = length-append (v ++ of_lines xs) w in
    let b = length-append v (of_lines xs) in
    let c = length-append (of_lines xs) w in
    (h.0, ends_more x.end xs l h.1 (omega arith))

-- the lines of the first landings come first
pub of_first : (ls : List Line) (k : ℕ) → of_lines (take k ls)
    ++ landing_lines (drop k (map landing_of ls)) ≡ of_lines ls
of_first ls k = ap (λ t. landing_lines t ++ landing_lines (drop k (map landing_of ls))) (sym (take-map landing_of k ls))
    ∙ lines_split (map landing_of ls) k

pub first_lines : (ls : List Line) (k : ℕ) → take (length (of_lines (take k ls))) (of_lines ls) ≡ of_lines (take k ls)
first_lines ls k = ap (take (length (of_lines (take k ls)))) (sym (of_first ls k))
    ∙ take-append_seam (of_lines (take k ls)) (landing_lines (drop k (map landing_of ls)))

pub first_short : (ls : List Line) (k : ℕ) → length (of_lines (take k ls)) ≤ length (of_lines ls)
first_short ls k = let a = ap (length {A = ℕ}) (of_first ls k) in grind (arith, common_steps)

-- ---- the bytes behind the first h

take_none : (n : ℕ) → take {A = ℕ} n [] ≡ []
take_none n = grind arith

pub drop_first : (h e : ℕ) (t : List ℕ) → drop h (take (h + e) t) ≡ take e (drop h t)
drop_first zero e t = grind arith
drop_first (suc h) e [] = grind (arith, take_none)
drop_first (suc h) e (x ∷ xs) = ap (λ n. drop (suc h) (take n (x ∷ xs))) (let same : suc h + e ≡ suc (h + e) =
    omega arith in same) ∙ drop_first h e xs

pub take_first : (h e : ℕ) (t : List ℕ) → take h (take (h + e) t) ≡ take h t
take_first h e t = grind (arith, common_steps)

pub drop_grown : (h : ℕ) (t more : List ℕ) → h ≤ length t → drop h (t ++ more) ≡ drop h t ++ more
drop_grown h t more le = grind (arith, common_steps)

pub length_behind : (h : ℕ) (t : List ℕ) → h ≤ length t → h + length (drop h t) ≡ length t
length_behind h t le = grind (arith, common_steps)

pub drop_seam : (h t : List ℕ) → drop (length h) (h ++ t) ≡ t
drop_seam h t = grind (arith, common_steps)
