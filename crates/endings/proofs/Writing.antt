-- Several puts in a row.
use Rattle.std.proofs.Common.{rules}
use Rattle.std.proofs.Common.{◌≡◌, refl, ℕ, ◌+◌, ◌<◌, ◌≤◌, List, [], ◌∷◌, ◌++◌, Ok, Err, Result, IsErr, ap}
use Rattle.std.proofs.Common.{sym, subst, ◌∙◌, append_assoc, append-nil, take, drop, length}
use Rattle.std.proofs.Common.{take-append-drop, length-append}
use Rattle.std.specs.Prelude.{codes, get_or}
use Rattle.std.proofs.lemmas.List.{take_more}
use Rattle.cps_outside.specs.SinkState.{SinkState, Grows, LeavesRoom, Writes}
use Rattle.texts.specs.declared.words.Word.{Word}
use Rattle.texts.specs.Words.{word_text, words_of}
use Rattle.endings.specs.Lines.{Says, spaced, line_text}

-- this was written, with no failure
pub record Written (old new : SinkState) (text : List ℕ) : Type 0 where
  pub tells : new.tells ≡ old.tells
  pub sure : new.sure ≡ old.sure
  pub faults : old.faults ≤ new.faults
  pub grew : Grows old new text
  pub left : LeavesRoom old new text

-- a put more
pub then_put : {T E : Type 0} (old mid new : SinkState) (x y : List ℕ) (r : Result T E) (u : T) → r ≡ Ok u
    → Written old mid x → Writes mid new y r → Written old new (x ++ y)
then_put old mid new x y r u is a b = search (rules, append_assoc, length-append)

-- a put that failed ends it
pub then_fails : {T E V F : Type 0} (old mid new : SinkState) (x y rest : List ℕ) (r : Result T E) (e : E)
    (s : Result V F) → r ≡ Err e → IsErr s → Written old mid x → Writes mid new y r → Writes old new (x ++ (y ++ rest)) s
then_fails old mid new x y rest r e (Ok v) is wrong a b = cc
then_fails old mid new x y rest r e (Err f) is wrong a b = search (rules, length-append, append_assoc)

-- one text behind another
pub then_writes : {T E V F : Type 0} (old mid new : SinkState) (x y : List ℕ) (r : Result T E) (u : T) (s : Result V F)
    → r ≡ Ok u → Writes old mid x r → Writes mid new y s → Writes old new (x ++ y) s
then_writes old mid new x y r u (Ok v) is a b = search (rules, append_assoc, length-append)
then_writes old mid new x y r u (Err f) is a b = search (rules, append_assoc, length-append)

-- a text that failed ends it
pub cut_short : {T E V F : Type 0} (old new : SinkState) (x rest : List ℕ) (r : Result T E) (e : E) (s : Result V F)
    → r ≡ Err e → IsErr s → Writes old new x r → Writes old new (x ++ rest) s
cut_short old new x rest r e (Ok v) is wrong a = cc
cut_short old new x rest r e (Err f) is wrong a = search (rules, length-append, append_assoc)

-- ---- the words of a slice

spaced-append : (a b : List (List ℕ)) → spaced (a ++ b) ≡ spaced a ++ spaced b
spaced-append [] b = refl
spaced-append (x ∷ a) b = ap (λ t. (32 ∷ x) ++ t) (spaced-append a b) ∙ sym (append_assoc (32 ∷ x) (spaced a) (spaced b))

-- the text of words
abbrev pub text_of : List Word → List ℕ
text_of words = spaced (words_of words)

text-append : (a b : List Word) → text_of (a ++ b) ≡ text_of a ++ text_of b
text-append [] b = refl
text-append (w ∷ a) b = spaced-append (word_text w) (words_of (a ++ b)) ∙ ap (λ t. spaced (word_text w) ++ t) (text-append a b)
    ∙ sym (append_assoc (spaced (word_text w)) (text_of a) (text_of b))
    ∙ ap (λ t. t ++ text_of b) (sym (spaced-append (word_text w) (words_of a)))

pub next_word : (words : List Word) (i : ℕ) (d : Word) → i < length words →
    text_of (take (i + 1) words) ≡ text_of (take i words) ++ spaced (word_text (get_or words i d))
next_word words i d lt = ap text_of (take_more words i d lt) ∙ text-append (take i words) (get_or words i d ∷ [])
    ∙ ap (λ t. text_of (take i words) ++ spaced t) (append-nil (word_text (get_or words i d)))

-- a word more
pub word_more : {T E : Type 0} (old mid new : SinkState) (words : List Word) (i : ℕ) (d : Word) (r : Result T E) (u : T)
    → r ≡ Ok u → i < length words → Written old mid (text_of (take i words))
    → Writes mid new (spaced (word_text (get_or words i d))) r → Written old new (text_of (take (i + 1) words))
word_more old mid new words i d r u is lt a b = rw (next_word words i d lt) (then_put old mid new _ _ r u is a b)

pub all_words : (words : List Word) (i : ℕ) (d : Word) → i < length words →
    text_of words ≡ text_of (take i words) ++ (spaced (word_text (get_or words i d)) ++ text_of (drop (i + 1) words))
all_words words i d lt = ap text_of (sym (take-append-drop (i + 1) words))
    ∙ text-append (take (i + 1) words) (drop (i + 1) words)
    ∙ ap (λ t. t ++ text_of (drop (i + 1) words)) (next_word words i d lt)
    ∙ append_assoc (text_of (take i words)) (spaced (word_text (get_or words i d))) (text_of (drop (i + 1) words))

-- the pieces of a line
pub line_pieces : (w : Word) (words : List Word) → codes "cps:" ++ (spaced (word_text w) ++ (text_of words ++ codes "\n"))
    ≡ line_text (words_of (w ∷ words))
line_pieces w words = ap (λ t. codes "cps:" ++ t) (sym (append_assoc (spaced (word_text w)) (text_of words) (codes "\n"))
    ∙ ap (λ t. t ++ codes "\n") (sym (spaced-append (word_text w) (words_of words))))

-- the same text under another name
pub says : {T E : Type 0} (old new : SinkState) (x y : List ℕ) (r : Result T E) → x ≡ y → Writes old new x r
    → Writes old new y r
says old new x y r is w = let P : List ℕ → Type 0 = λ l. Writes old new l r in subst P is w

-- what the put of an ending's line says
pub said : {T E : Type 0} (old new : SinkState) (x : List ℕ) (r : Result T E) → Writes old new x r → Says old new x
said old new x r w = search rules
