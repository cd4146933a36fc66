-- A text that is kept with the landing lines that it ends with.
use Rattle.std.specs.Prelude.{◌≡◌, ℕ, ◌+◌, ◌≤◌, List, [], ◌∷◌, ◌++◌, length, map, take, drop, ⊤}
use Rattle.landing_rules.specs.Text.{Bytes, ShownLanding, landing_words, line, lines_text}
use Rattle.plan_file.specs.Shown.{shown_of}
use Rattle.plan_text.specs.declared.kept_text.KeptText.TheInside.{Inside}
use Rattle.plan_text.specs.declared.kept_text.Line.{Line}

-- what stands before the lines, and the landings
pub record Written : Type 0 where
  pub head : Bytes
  pub landings : List ShownLanding

-- the head, and a line for each landing
abbrev pub written_text : Written → Bytes
written_text w = w.head ++ lines_text (map landing_words w.landings)

abbrev pub landing_of : Line → ShownLanding
landing_of l = shown_of l.landing

-- each line ends where it says, where the first one begins at n
abbrev pub EndAt : ℕ → List Line → Type 0
EndAt n [] = ⊤
EndAt n (l ∷ ls) = (l.end ≡ n + length (line (landing_words (landing_of l)))) × EndAt l.end ls

abbrev pub written : Inside → Written
written t = record { head = take t.head t.text.items; landings = map landing_of t.lines.items }

-- behind the head stand the lines of the landings
pub record AreLinesOf (t : Inside) : Type 0 where
  pub head : t.head ≤ length t.text.items
  pub lines : drop t.head t.text.items ≡ lines_text (map landing_words (map landing_of t.lines.items))
  pub ends : EndAt 0 t.lines.items
