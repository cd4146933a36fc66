-- The words of a line that says what is wrong.
use Rattle.std.specs.Prelude.{ℕ, List, [], ◌∷◌, ◌++◌, codes, decimal}
use Rattle.cps_base.specs.declared.number.NumberFault.{NumberFault}
use Rattle.cps_base.specs.declared.number.NumberFault.TheVariants as number
use Rattle.texts.specs.declared.words.Word.{Word}
use Rattle.texts.specs.declared.words.Word.TheVariants.{Absent, Text, Number, Place}

-- the text of a word, if there is one
abbrev pub word_text : Word → List (List ℕ)
word_text Absent = []
word_text (Text text) = text.now ∷ []
word_text (Number n) = decimal n ∷ []
word_text (Place n) = (decimal n ++ codes ":") ∷ []

-- the texts of words
abbrev pub words_of : List Word → List (List ℕ)
words_of [] = []
words_of (word ∷ rest) = word_text word ++ words_of rest

abbrev pub number_word : NumberFault → List ℕ
number_word number.NotNumber = codes "not-number"
number_word number.Below = codes "below"
number_word number.Above = codes "above"

-- the record of a number, and what is wrong with it
abbrev pub record_words : ℕ → List (List ℕ) → List (List ℕ)
record_words number cause = codes "record" ∷ (decimal number ++ codes ":") ∷ cause
