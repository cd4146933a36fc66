-- Each status by its ending.
use Rattle.std.proofs.Common.{◌≡◌, ◌≢◌, ◌≤◌, ◌+◌, ◌⊎◌, inl, inr, ℕ, List, [], ap, sym, subst, append-nil, take, drop}
use Rattle.std.proofs.Common.{take-append-drop, arith}
use Rattle.endings.specs.declared.ending.Answer.{Answer}
use Rattle.endings.specs.declared.ending.Answer.TheVariants.{Scheduled}
use Rattle.endings.specs.declared.ending.Ending.{Ending}
use Rattle.endings.specs.declared.ending.Ending.TheVariants.{Answered, Misused, Refused, NotLoaded, NotWritten, TooLong}
use Rattle.endings.specs.declared.ending.Ending.TheVariants.{NoMemory}
use Rattle.endings.specs.Lines.{answer_status, status_of}
use Rattle.endings.specs.Outside.{Outside}
use Rattle.cps_top.specs.Outcome.{Ends, Serves}
use Rattle.cps_top.specs.Commands.{files_of}
use Rattle.endings.specs.Loads.{AsksForSome, StopsAt}
use Rattle.cps_outside.specs.FolderState.{FolderState}
use Rattle.cps_top.specs.Statuses.{Asks}

stops_some : (old new : FolderState) (names : List (List ℕ)) (place : ℕ) → StopsAt old new names place
    → AsksForSome old new names
stops_some old new names place s =
    λ told. (take place names, drop place names, take-append-drop place names, s.asked told)

-- a command that ran ends with none of these: no command, a load that failed, a file that is too long
abbrev IsOfRun : ℕ → Type 0
IsOfRun status = (status ≢ 2) × (status ≢ 4) × (status ≢ 6)

answers : (answer : Answer) → IsOfRun (answer_status answer)
answers Scheduled = (λ e. omega arith, λ e. omega arith, λ e. omega arith)
answers answer = (λ e. omega arith, λ e. omega arith, λ e. omega arith)

-- the even statuses above 0 say that not all files need have been asked for
not_all : (half status : ℕ) → 1 ≤ half → status ≡ half + half → (status ≡ 0) ⊎ (status ≡ 1)
    ⊎ (status ≡ 3) ⊎ (status ≡ 5) ⊎ (status ≡ 7) → ⊥
not_all half status some even told = elim told [
  | inl a ↦ omega arith
  | inr (inl a) ↦ omega arith
  | inr (inr (inl a)) ↦ omega arith
  | inr (inr (inr (inl a))) ↦ omega arith
  | inr (inr (inr (inr a))) ↦ omega arith
]

module _ (words : List (List ℕ)) (old new : Outside) (status : ℕ) where
  ran : (ending : Ending) → IsOfRun status → Serves words old new ending → Asks words old new status
  ran ending other s = record {
    none = λ e. absurd (other.0 e);
    some = λ named told. (files_of words, [], append-nil (files_of words), s.loads.asked told);
    all = λ e told. s.loads.asked told;
    failed = λ e. absurd (other.1 e);
    too_long = λ e. absurd (other.2 e);
  }

  pub asks : (ending : Ending) → status ≡ status_of ending → Ends words old new ending → Asks words old new status
  asks (Answered answer) is ends = ran (Answered answer) (subst IsOfRun (sym is) (answers answer)) ends
  asks Misused is ends = record {
    none = λ e. ap (λ o. o.folder) ends.1;
    some = λ named. absurd (named ends.0);
    all = λ e told. absurd (not_all 1 status (omega arith) is e);
    failed = λ e. absurd (omega arith);
    too_long = λ e. absurd (omega arith);
  }
  asks (Refused refusal) is ends = ran (Refused refusal) (λ e. omega arith, λ e. omega arith, λ e. omega arith) ends
  asks (NotLoaded place) is ends = record {
    none = λ e. absurd (omega arith);
    some = λ named. stops_some old.folder new.folder (files_of words) place ends.loads.stops;
    all = λ e told. absurd (not_all 2 status (omega arith) is e);
    failed = λ e. (place, ends.loads);
    too_long = λ e. absurd (omega arith);
  }
  asks NotWritten is ends = ran NotWritten (λ e. omega arith, λ e. omega arith, λ e. omega arith) ends
  asks (TooLong place) is ends = record {
    none = λ e. absurd (omega arith);
    some = λ named. stops_some old.folder new.folder (files_of words) place ends.loads.stops;
    all = λ e told. absurd (not_all 3 status (omega arith) is e);
    failed = λ e. absurd (omega arith);
    too_long = λ e. (place, ends.loads);
  }
  asks NoMemory is (inl ends) = record {
    none = λ e. absurd (omega arith);
    some = λ named. ends.loads;
    all = λ e told. absurd (not_all 4 status (omega arith) is e);
    failed = λ e. absurd (omega arith);
    too_long = λ e. absurd (omega arith);
  }
  asks NoMemory is (inr ends) = ran NoMemory (λ e. omega arith, λ e. omega arith, λ e. omega arith) ends
