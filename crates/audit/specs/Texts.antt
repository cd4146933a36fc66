-- What is printed of each finding.
use Rattle.std.specs.Prelude.{List, [], ◌++◌, codes, decimal, map}
use Rattle.landing_rules.specs.Text.{Bytes, lines_text}
use Rattle.landing_rules.specs.Audit.{Finding, Missing, Unknown, Twice, Order, Mark, Closed, Separation, Precedence}
use Rattle.landing_rules.specs.Audit.{Moved, Early, Shift, OtherObjective, Value}

-- two texts, a blank between them
abbrev pub spaced : Bytes → Bytes → Bytes
spaced first second = first ++ codes " " ++ second

-- the word of a finding, with a blank where more stands behind it
abbrev pub word_of : Finding → Bytes
word_of (Missing c) = codes "missing "
word_of (Unknown c) = codes "unknown "
word_of (Twice c) = codes "twice "
word_of (Order i) = codes "order "
word_of (Mark c) = codes "mark "
word_of (Closed c t) = codes "closed "
word_of (Separation c d) = codes "separation "
word_of (Precedence c d) = codes "precedence "
word_of (Moved c t) = codes "moved "
word_of (Early c) = codes "early "
word_of (Shift c p r) = codes "shift "
word_of OtherObjective = codes "objective"
word_of (Value v) = codes "value "

-- what stands behind the word
abbrev pub detail_of : Finding → Bytes
detail_of (Missing c) = c
detail_of (Unknown c) = c
detail_of (Twice c) = c
detail_of (Order i) = decimal i
detail_of (Mark c) = c
detail_of (Closed c t) = spaced c (decimal t)
detail_of (Separation c d) = spaced c d
detail_of (Precedence c d) = spaced c d
detail_of (Moved c t) = spaced c (decimal t)
detail_of (Early c) = c
detail_of (Shift c p r) = spaced c (spaced (decimal p) (decimal r))
detail_of OtherObjective = []
detail_of (Value v) = decimal v

abbrev pub finding_words : Finding → Bytes
finding_words f = word_of f ++ detail_of f

-- a line for each
abbrev pub findings_text : List Finding → Bytes
findings_text found = lines_text (map finding_words found)
