-- What is proved command by command: it has as many files as its words name, with its numbers in their ranges; no files
-- are both taken and refused; its texts have at most so many bytes.
use Rattle.std.proofs.Common.{◌≡◌, ℕ, ◌≤◌, List, [], ◌∷◌, length, Bool, true, false, Option, Some, None, Result, Ok}
use Rattle.std.proofs.Common.{Err, refl, subst, arith}
use Rattle.std.specs.Prelude.{◌&&◌, ◌==◌, if◌then◌else◌}
use Rattle.std.specs.Result.{result_ok}
use Rattle.std.proofs.lemmas.Option.{same_Some}
use Rattle.cps_base.specs.Limits.{greatest_k, greatest_word, most_waiting}
use Rattle.cps_base.specs.Number.{number_within}
use Rattle.cps_base.specs.declared.number.NumberFault.{NumberFault}
use Rattle.text_bounds.specs.shared.Numbers.{within}
use Rattle.endings.specs.declared.ending.Answer.{Answer}
use Rattle.endings.specs.declared.ending.FilesFault.{FilesFault}
use Rattle.endings.specs.declared.ending.FilesFault.TheVariants as fault
use Rattle.endings.specs.shared.Files.{two_taken, three_taken}
use Rattle.planning_commands.specs.TextLengths.{EffortTextIsBoundedLaw, PlanTextIsBoundedLaw, ReplayTextIsBoundedLaw}
use Rattle.planning_commands.specs.TextLengths.{TrialTextIsBoundedLaw}
use Rattle.certificate_commands.specs.TextLaws.{CertifyIsBoundedLaw, CheckIsBoundedLaw}
use Rattle.inquiry_commands.specs.First.{FirstIsBoundedLaw}
use Rattle.inquiry_commands.specs.WhatIf.{WhatIfIsBoundedLaw}
use Rattle.inquiry_commands.specs.Audit.{AuditIsBoundedLaw}
use Rattle.cps_top.specs.declared.commands.Command.{Command}
use Rattle.cps_top.specs.declared.commands.Command.TheVariants.{Plan, Replay, Certify, Check, Effort, Trial, First}
use Rattle.cps_top.specs.declared.commands.Command.TheVariants.{WhatIf, Audit}
use Rattle.cps_top.specs.Commands.{Admits, IsCommandInRange, Refuses, Stands, TextsAreBoundedLaw, command_of}
use Rattle.cps_top.specs.Commands.{file_count, names_of, number_of, trial_by, trial_of}

-- ---- words

-- the words name as many files as the command has, and its numbers are in their ranges
abbrev pub Fits : Command → List (List ℕ) → Type 0
Fits c words = (length (names_of c words) ≡ file_count c) × IsCommandInRange c

number_in_range : (word : List ℕ) (least most n : ℕ) → number_of word least most ≡ Some n → (least ≤ n) × (n ≤ most)
number_in_range word least most n e = go (number_within word least most) (λ m h. within word least most m h) e
  where
    go : (r : Result ℕ NumberFault) → ((m : ℕ) → r ≡ Ok m → (least ≤ m) × (m ≤ most)) → result_ok r ≡ Some n
        → (least ≤ n) × (n ≤ most)
    go (Ok m) h is = subst (λ (x : ℕ). (least ≤ x) × (x ≤ most)) (same_Some m n is) (h m refl)
    go (Err d) h is = absurd (cc is)

numbers_fit : (a b d : Option ℕ) (c : Command) (words : List (List ℕ))
    → ((n : ℕ) → b ≡ Some n → (1 ≤ n) × (n ≤ most_waiting)) → ((k : ℕ) → d ≡ Some k → (0 ≤ k) × (k ≤ greatest_k))
    → trial_by a b d ≡ Some c → Fits c words
numbers_fit (Some s) (Some n) (Some k) c words few near e = subst (λ (x : Command). Fits x words)
    (same_Some (Trial s n k) c e) (refl, ((few n refl).0, (few n refl).1, (near k refl).1))
numbers_fit a b d c words few near e = absurd (cc e)

trial_fits : (rest : List (List ℕ)) (c : Command) (words : List (List ℕ)) → trial_of rest ≡ Some c → Fits c words
trial_fits (s ∷ n ∷ k ∷ []) c words e = numbers_fit (number_of s 0 greatest_word) (number_of n 1 most_waiting)
    (number_of k 0 greatest_k) c words (λ m is. number_in_range n 1 most_waiting m is)
    (λ m is. number_in_range k 0 greatest_k m is) e
trial_fits rest c words e = absurd (cc e)

as_many : (a : Bool) (n m : ℕ) → (a && (n == m)) ≡ true → n ≡ m
as_many true n m e = grind (arith, e)
as_many false n m e = cc

module _ (word : List ℕ) (rest : List (List ℕ)) (c : Command) where
  -- the command of this first word and so many files, or a later one
  filed : (same : Bool) (files : ℕ) (x : Command) (later : Option Command)
      → (length rest ≡ files → Fits x (word ∷ rest)) → (later ≡ Some c → Fits c (word ∷ rest))
      → (if same && (length rest == files) then Some x else later) ≡ Some c → Fits c (word ∷ rest)
  filed same files x later here others e = go (same && (length rest == files)) (as_many same (length rest) files) e
    where
      go : (b : Bool) → (b ≡ true → length rest ≡ files) → (if b then Some x else later) ≡ Some c → Fits c (word ∷ rest)
      go true count is = subst (λ (y : Command). Fits y (word ∷ rest)) (same_Some x c is) (here (count refl))
      go false count is = others is

  last : (b : Bool) → (if b then trial_of rest else None) ≡ Some c → Fits c (word ∷ rest)
  last true e = trial_fits rest c (word ∷ rest) e
  last false e = absurd (cc e)

  named_fits : command_of (word ∷ rest) ≡ Some c → Fits c (word ∷ rest)
  named_fits =
      filed _ 2 Plan _ (λ n. (n, tt)) (filed _ 3 Replay _ (λ n. (n, tt)) (filed _ 2 Certify _ (λ n. (n, tt))
      (filed _ 3 Check _ (λ n. (n, tt)) (filed _ 3 Effort _ (λ n. (n, tt)) (filed _ 2 First _ (λ n. (n, tt))
      (filed _ 3 WhatIf _ (λ n. (n, tt)) (filed _ 3 Audit _ (λ n. (n, tt)) (last _))))))))

pub fits : (words : List (List ℕ)) (c : Command) → command_of words ≡ Some c → Fits c words
fits [] c e = absurd (cc e)
fits (word ∷ rest) c e = named_fits word rest c e

-- ---- refusals

-- no files are both taken and refused
pub excludes : (command : Command) (contents : List (List ℕ)) (text : List ℕ) (answer : Answer) (refusal : FilesFault)
    → Admits command contents text answer → Refuses command contents refusal → ⊥
excludes Plan (a ∷ f ∷ []) text answer refusal admits refuses =
    two_taken a f _ admits refusal admits.holds.opened.taken refuses
excludes First (a ∷ f ∷ []) text answer refusal admits refuses =
    two_taken a f _ admits refusal admits.holds.opened.taken refuses
excludes Certify (a ∷ f ∷ []) text answer refusal admits refuses =
    two_taken a f _ admits refusal admits.holds.certified.judged.taken refuses
excludes Replay (a ∷ f ∷ e ∷ []) text answer refusal admits refuses =
    three_taken _ a f e _ admits.begun fault.Events refusal admits.begun.holds.taken refuses
excludes Effort (a ∷ f ∷ e ∷ []) text answer refusal admits refuses =
    three_taken _ a f e _ admits.begun fault.Events refusal admits.begun.holds.taken refuses
excludes Check (a ∷ f ∷ c ∷ []) text answer refusal admits refuses =
    three_taken _ a f c _ admits.judges fault.Certificate refusal admits.judges.holds.taken refuses
excludes WhatIf (a ∷ f ∷ t ∷ []) text answer refusal admits refuses =
    three_taken _ a f t _ admits fault.Trials refusal admits.holds.0.taken refuses
excludes Audit (a ∷ f ∷ p ∷ []) text answer refusal admits refuses =
    three_taken _ a f p _ admits fault.Plan refusal admits.holds.taken refuses
excludes command contents text answer refusal admits refuses = absurd refuses

-- nor are they refused where a put was begun
pub excludes_begun : (command : Command) (contents : List (List ℕ)) (puts : ℕ) (text : List ℕ) (refusal : FilesFault) →
    Stands command contents puts text → Refuses command contents refusal → ⊥
excludes_begun Replay (a ∷ f ∷ e ∷ []) puts text refusal stands refuses =
    three_taken _ a f e _ stands.begun fault.Events refusal stands.begun.holds.taken refuses
excludes_begun Effort (a ∷ f ∷ e ∷ []) puts text refusal stands refuses =
    three_taken _ a f e _ stands.begun fault.Events refusal stands.begun.holds.taken refuses
excludes_begun command contents puts text refusal stands refuses =
    excludes command contents text stands.1.0 refusal stands.1.1 refuses

-- ---- lengths

pub bounded : PlanTextIsBoundedLaw → ReplayTextIsBoundedLaw → CertifyIsBoundedLaw → CheckIsBoundedLaw
    → EffortTextIsBoundedLaw → TrialTextIsBoundedLaw → FirstIsBoundedLaw → WhatIfIsBoundedLaw → AuditIsBoundedLaw
    → TextsAreBoundedLaw
bounded plan replay certify check effort trial first what_if audit = go
  where
    go : TextsAreBoundedLaw
    go Replay (a ∷ f ∷ e ∷ []) puts text range may = replay a f e puts text may
    go Effort (a ∷ f ∷ e ∷ []) puts text range may = effort a f e puts text may
    go Plan (a ∷ f ∷ []) puts text range (one, (answer, may)) = plan a f text answer may
    go Certify (a ∷ f ∷ []) puts text range (one, (answer, may)) = certify a f text answer may
    go Check (a ∷ f ∷ c ∷ []) puts text range (one, (answer, may)) = check a f c text answer may
    go First (a ∷ f ∷ []) puts text range (one, (answer, may)) = first a f text answer may
    go WhatIf (a ∷ f ∷ t ∷ []) puts text range (one, (answer, may)) = what_if a f t text answer may
    go Audit (a ∷ f ∷ p ∷ []) puts text range (one, (answer, may)) = audit a f p text answer may
    go (Trial s n k) [] puts text range (one, (answer, may)) =
        trial s n k text answer (omega (arith, range.1)) (omega (arith, range.2)) may
    go command contents puts text range may = absurd may.1.1
