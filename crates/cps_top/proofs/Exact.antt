-- When status 3 and status 6 come.
use Rattle.std.proofs.Common.{◌≡◌, refl, inl, inr, ℕ, zero, suc, ◌+◌, ◌-◌, ◌<◌, ◌≤◌, List, [], ◌∷◌, ◌++◌, length, take}
use Rattle.std.proofs.Common.{drop, Some, IsTrue, ap, sym, ◌∙◌, arith, length-append, take-append-drop}
use Rattle.std.proofs.lemmas.Bool.{cases_lt}
use Rattle.std.proofs.lemmas.List.{take-append-le}
use Rattle.cps_base.specs.Limits.{most_bytes}
use Rattle.endings.specs.declared.ending.Ending.{Ending}
use Rattle.endings.specs.declared.ending.Ending.TheVariants.{Answered, Misused, Refused, NotLoaded, NotWritten, TooLong}
use Rattle.endings.specs.declared.ending.Ending.TheVariants.{NoMemory}
use Rattle.cps_top.specs.Commands.{files_of}
use Rattle.cps_outside.specs.FolderState.{FolderState}
use Rattle.endings.specs.Loads.{FailsAt, FailsWithin}
use Rattle.endings.specs.Lines.{status_of}
use Rattle.endings.specs.Outside.{Outside}
use Rattle.cps_top.specs.Outcome.{Ends, Serves}
use Rattle.cps_top.specs.Statuses.{IsExact}
use Rattle.cps_top.proofs.ByCommand.{excludes, excludes_begun}
use Rattle.cps_top.proofs.Complete.{serves, none_too_long, part_within, within_fits}

-- the start of a list goes past its first part
take_past : (xs ys : List (List ℕ)) (n : ℕ) → length xs ≤ n → (rest : List (List ℕ)) × (take n (xs ++ ys) ≡ xs ++ rest)
take_past [] ys n le = (take n ys, refl)
take_past (x ∷ xs) ys zero le = absurd (omega arith)
take_past (x ∷ xs) ys (suc n) le = let r = take_past xs ys n (omega arith) in (r.0, ap (λ l. x ∷ l) r.1)

-- what was asked for up to a place
asked_before : (before after names : List (List ℕ)) (name : List ℕ) (place : ℕ) → place ≤ length before + 1 →
    names ≡ (before ++ name ∷ []) ++ after → take place (before ++ name ∷ []) ≡ take place names
asked_before before after names name place le split =
    sym (ap (take place) split ∙ take-append-le place (before ++ name ∷ []) after (grind (arith, length-append)))

-- a load that failed is that of the first file that is too long, or of an earlier one
fails_within : (old new : FolderState) (names before after : List (List ℕ)) (name bytes : List ℕ) (place : ℕ)
    → IsTrue old.tells → names ≡ (before ++ name ∷ []) ++ after → old.content name ≡ Some bytes
    → most_bytes < length bytes → FailsAt old new names place → FailsWithin old new (before ++ name ∷ [])
fails_within old new names before after name bytes place tells split content longer fails = record {
  cause = fails.cause;
  asked = λ told. elim (cases_lt (length before + 1) place) [
    | inl late ↦ absurd (
        let past = take_past (before ++ name ∷ []) after (place - 1) (grind (arith, length-append)) in
        let fits = within_fits bytes (old.content name) content (part_within old.content (take (place - 1) names)
        fails.stops.contents before past.0 name (fails.stops.earlier told) fails.stops.bounded
        (ap (take (place - 1)) split ∙ past.1)) in
        omega (arith, fits, longer))
    | inr early ↦ (
      take place (before ++ name ∷ []),
      drop place (before ++ name ∷ []),
      take-append-drop place (before ++ name ∷ []),
      fails.stops.asked told ∙ ap (λ q. old.asked ++ q)
          (sym (asked_before before after names name place (omega arith) split)),
    )
  ];
}

module _ (words : List (List ℕ)) (old new : Outside) (status : ℕ) where
  -- a command whose files were loaded has none that is too long
  none_longer : (ending : Ending) (before after : List (List ℕ)) (name bytes : List ℕ) → IsTrue old.folder.tells
      → files_of words ≡ (before ++ name ∷ []) ++ after → old.folder.content name ≡ Some bytes
      → most_bytes < length bytes → Serves words old new ending → ⊥
  none_longer ending before after name bytes tells split content longer s =
      let fits = within_fits bytes (old.folder.content name) content (part_within old.folder.content (files_of words)
      s.contents before after name (s.loads.told tells) s.loads.bounded split) in
      omega (arith, fits, longer)

  pub exact : (ending : Ending) → status ≡ status_of ending → Ends words old new ending → IsExact words old new status
  exact (Answered answer) is ends = record {
    refused = λ command contents refusal there refuses.
        let prints = serves words old new command contents there (Answered answer) ends in
        absurd (excludes command contents prints.text answer refusal prints.admitted refuses);
    too_long = λ command before after name bytes named tells split content longer.
        absurd (none_longer (Answered answer) before after name bytes tells split content longer ends);
  }
  exact Misused is ends = record {
    refused = λ command contents refusal there refuses. let named = there.named in let unnamed = ends.0 in cc;
    too_long = λ command before after name bytes named tells split content longer. let unnamed = ends.0 in cc;
  }
  exact (Refused cause) is ends = record {
    refused = λ command contents refusal there refuses. inl is;
    too_long = λ command before after name bytes named tells split content longer.
        absurd (none_longer (Refused cause) before after name bytes tells split content longer ends);
  }
  exact (NotLoaded place) is ends = record {
    refused = λ command contents refusal there refuses. inr (inr (is, ends.loads.cause));
    too_long = λ command before after name bytes named tells split content longer. inr (inr (
      is,
      fails_within old.folder new.folder
          (files_of words) before after name bytes place tells split content longer ends.loads,
    ));
  }
  exact NotWritten is ends = record {
    refused = λ command contents refusal there refuses.
        let prints = serves words old new command contents there NotWritten ends in
        absurd (excludes_begun command contents (prints.puts + 1) (prints.whole ++ prints.last) refusal prints.begun
        refuses);
    too_long = λ command before after name bytes named tells split content longer.
        absurd (none_longer NotWritten before after name bytes tells split content longer ends);
  }
  exact (TooLong place) is ends = record {
    refused = λ command contents refusal there refuses.
        absurd (none_too_long words old new command contents there place ends.loads);
    too_long = λ command before after name bytes named tells split content longer. inl is;
  }
  exact NoMemory is ends = record {
    refused = λ command contents refusal there refuses. inr (inl is);
    too_long = λ command before after name bytes named tells split content longer. inr (inl is);
  }
