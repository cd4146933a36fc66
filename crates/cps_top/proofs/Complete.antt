-- Over good files and with no fault the text is written whole; a folder that is sure has no fault over them.
use Rattle.std.proofs.Common.{◌≡◌, ◌≢◌, inl, inr, ℕ, ◌-◌, ◌≤◌, List, [], ◌∷◌, ◌++◌, length, take, drop, map, Some, None}
use Rattle.std.proofs.Common.{Option, IsTrue, ap, sym, ◌∙◌, subst, arith, take-append-drop}
use Rattle.std.specs.List.{AllByRecursion}
use Rattle.std.proofs.lemmas.Option.{same_Some}
use Rattle.cps_base.specs.Limits.{most_bytes}
use Rattle.cps_outside.specs.FolderState.{FolderState}
use Rattle.cps_top.specs.declared.commands.Command.{Command}
use Rattle.endings.specs.declared.ending.FilesFault.{FilesFault}
use Rattle.endings.specs.declared.ending.Ending.{Ending}
use Rattle.endings.specs.declared.ending.Ending.TheVariants.{Answered, Misused, Refused, NotLoaded, NotWritten, TooLong}
use Rattle.endings.specs.declared.ending.Ending.TheVariants.{NoMemory}
use Rattle.cps_top.specs.Commands.{files_of, Refuses}
use Rattle.endings.specs.Loads.{Loads, FailsAt, IsTooLongAt}
use Rattle.endings.specs.Lines.{status_of}
use Rattle.endings.specs.Outside.{Outside}
use Rattle.cps_top.specs.Outcome.{Ends, Serves, Follows}
use Rattle.cps_top.specs.Statuses.{AreThere, IsComplete, Completes}

contents_same : (xs ys : List (List ℕ)) → map Some xs ≡ map Some ys → xs ≡ ys
contents_same [] [] e = cc
contents_same [] (y ∷ ys) e = cc
contents_same (x ∷ xs) [] e = cc
contents_same (x ∷ xs) (y ∷ ys) e = let rest = contents_same xs ys (cc) in cc

-- what was loaded is what is there, also of no file
loaded_same : (old new : FolderState) (ns held contents : List (List ℕ))
    → (ns ≢ [] → IsTrue old.tells) → map old.content ns ≡ map Some contents → Loads old new ns held → held ≡ contents
loaded_same old new [] [] contents tells told loads = contents_same [] contents told
loaded_same old new [] (c ∷ held) contents tells told loads = absurd (omega (arith, loads.count))
loaded_same old new (n ∷ ns) held contents tells told loads =
    contents_same held contents (sym (loads.told (tells (λ e. absurd (cc e)))) ∙ told)

-- a content that is there and at most the limit
pub Within : Option (List ℕ) → Type 0
Within (Some bytes) = length bytes ≤ most_bytes
Within None = ⊥

all_within : (cs : List (List ℕ)) → AllByRecursion (λ b. length b ≤ most_bytes) cs → AllByRecursion Within (map Some cs)
unfolding Within
all_within [] all = tt
all_within (c ∷ cs) all = (all.0, all_within cs all.1)

all_named : (f : List ℕ → Option (List ℕ)) (ns : List (List ℕ)) → AllByRecursion Within (map f ns)
    → AllByRecursion (λ n. Within (f n)) ns
all_named f [] all = tt
all_named f (n ∷ ns) all = (all.0, all_named f ns all.1)

all_at : (P : List ℕ → Type 0) (before : List (List ℕ)) (name : List ℕ) (after : List (List ℕ)) →
    AllByRecursion P ((before ++ name ∷ []) ++ after) → P name
all_at P [] name after all = all.0
all_at P (n ∷ before) name after all = all_at P before name after all.1

pub within_fits : (bytes : List ℕ) (content : Option (List ℕ)) → content ≡ Some bytes → Within content
    → length bytes ≤ most_bytes
unfolding Within
within_fits bytes content e within = subst Within e within

-- a file among those that are there is within the limit
pub part_within : (content : List ℕ → Option (List ℕ)) (names cs before after : List (List ℕ)) (name : List ℕ)
    → map content names ≡ map Some cs → AllByRecursion (λ b. length b ≤ most_bytes) cs
    → names ≡ (before ++ name ∷ []) ++ after → Within (content name)
part_within content names cs before after name told bounded split =
    all_at (λ n. Within (content n)) before name after (subst (AllByRecursion (λ n. Within (content n))) split
    (all_named content names (subst (AllByRecursion Within) (sym told) (all_within cs bounded))))

-- so is that of the name at a place
named_within : (content : List ℕ → Option (List ℕ)) (ns cs : List (List ℕ)) (place : ℕ) (name : List ℕ)
    → map content ns ≡ map Some cs → AllByRecursion (λ b. length b ≤ most_bytes) cs
    → take place ns ≡ take (place - 1) ns ++ name ∷ [] → Within (content name)
named_within content ns cs place name told bounded step = part_within content ns cs (take (place - 1) ns)
    (drop place ns) name told bounded (sym (ap (λ q. q ++ drop place ns) (sym step) ∙ take-append-drop place ns))

-- a load that stopped was of some file
some_names : (ns : List (List ℕ)) (place : ℕ) → 1 ≤ place → place ≤ length ns → ns ≢ []
some_names [] place first inside = absurd (omega arith)
some_names (n ∷ ns) place first inside = λ e. absurd (cc e)

absent_not_within : (content : Option (List ℕ)) → content ≡ None → Within content → ⊥
unfolding Within
absent_not_within content e within = subst Within e within

-- a command and the contents of its files, which are there
module _ (words : List (List ℕ)) (old new : Outside) (command : Command) (contents : List (List ℕ))
    (there : AreThere words old command contents) where
  -- the command ran over them
  pub serves : (ending : Ending) → Serves words old new ending → Follows command contents old.out new.out ending
  serves ending s = subst (λ q. Follows command q old.out new.out ending)
      (loaded_same old.folder new.folder (files_of words) s.contents contents there.tells there.told s.loads)
      (subst (λ q. Follows q s.contents old.out new.out ending)
      (same_Some s.command command (sym s.named ∙ there.named)) s.follows)

  -- none is too long
  pub none_too_long : (place : ℕ) → IsTooLongAt old.folder new.folder (files_of words) place → ⊥
  none_too_long place long =
      let t = long.told (there.tells (some_names (files_of words) place long.stops.first long.stops.inside)) in
      let fits = within_fits t.1 (old.folder.content t.0) t.3
      (named_within old.folder.content (files_of words) contents place t.0 there.told there.bounded t.2) in
      omega (arith, fits, t.4)

  -- no load from a folder that is sure failed
  pub none_fails : (place : ℕ) → IsTrue old.folder.sure → FailsAt old.folder new.folder (files_of words) place → ⊥
  none_fails place sure fails =
      let t =
      fails.absent (there.tells (some_names (files_of words) place fails.stops.first fails.stops.inside)) sure in
      absent_not_within (old.folder.content t.0) t.2
      (named_within old.folder.content (files_of words) contents place t.0 there.told there.bounded t.1)

  -- a run in which no load and no put failed
  pub complete_unless : (status : ℕ) (ending : Ending) → status ≡ status_of ending → Ends words old new ending
      → ((refusal : FilesFault) → Refuses command contents refusal → ⊥)
      → ((place : ℕ) → FailsAt old.folder new.folder (files_of words) place → ⊥)
      → (Follows command contents old.out new.out NotWritten → ⊥) → IsComplete command contents old new status
  complete_unless status (Answered answer) is ends taken load put = inr (answer, is, serves (Answered answer) ends)
  complete_unless status Misused is ends taken load put = let named = there.named in let unnamed = ends.0 in cc
  complete_unless status (Refused refusal) is ends taken load put =
      absurd (taken refusal (serves (Refused refusal) ends).0)
  complete_unless status (NotLoaded place) is ends taken load put = absurd (load place ends.loads)
  complete_unless status NotWritten is ends taken load put = absurd (put (serves NotWritten ends))
  complete_unless status (TooLong place) is ends taken load put = absurd (none_too_long place ends.loads)
  complete_unless status NoMemory is ends taken load put = inl is

pub completes : (words : List (List ℕ)) (old new : Outside) (status : ℕ) (ending : Ending) →
    status ≡ status_of ending → Ends words old new ending → Completes words old new status
completes words old new status ending is ends = record {
  complete = λ command contents there taken calm_folder calm_out.
      complete_unless words old new command contents there status ending is ends taken
      (λ place fails. calm_folder fails.cause) (λ unwritten. calm_out unwritten.written.failed);
}
