-- A text that was written into an empty sink is what the sink holds.
use Rattle.std.proofs.Common.{◌≡◌, ◌⊎◌, ◌≤◌, refl, inl, inr, ℕ, List, [], length, ap, subst, sym, ◌∙◌, arith}
use Rattle.std.specs.Prelude.{String, Vec}
use Rattle.std.specs.declared.alloc.Global.{Global}
use Rattle.cps_outside.specs.FolderState.{FolderState}
use Rattle.cps_outside.specs.MemoryFolder.{fresh_folder}
use Rattle.cps_outside.specs.MemorySink.{fresh_sink}
use Rattle.cps_outside.specs.Causes.{Rose}
use Rattle.cps_outside.specs.SinkState.{SinkState, Grows, LacksRoom}
use Rattle.cps_top.specs.declared.commands.Command.{Command}
use Rattle.cps_top.specs.Commands.{Admits}
use Rattle.endings.specs.Outside.{Outside}
use Rattle.cps_top.specs.Statuses.{IsSure, IsComplete}
use Rattle.endings.specs.declared.ending.Answer.{Answer}
use Rattle.endings.specs.Lines.{Says, answer_status, line_of}
use Rattle.cps_top.specs.Outcome.{RunsTo}
use Rattle.worked_runs.specs.Given.{given, Answers, SaysLine}

printed : (command : Command) (contents : List (List ℕ)) (files : List (String Global × Vec ℕ Global))
    (room status : ℕ) (new : Outside) →
    IsComplete command contents (given files room) new status →
    (status ≡ 8) ⊎ ((answer : Answer) × (status ≡ answer_status answer)
    × Admits command contents new.out.written answer)
printed command contents files room status new (inl short) = inl short
printed command contents files room status new (inr p) =
    inr (
      p.0,
      p.1,
      subst (λ (text : List ℕ). Admits command contents text p.0) (sym (p.2.written.grew refl))
          p.2.admitted,
    )

answers : (words : List (List ℕ)) (files : List (String Global × Vec ℕ Global)) (room status : ℕ) (new : Outside) →
    IsSure words (given files room) new status → Answers words files room status new.out.written
answers words files room status new sure = record {
  complete = λ command contents there taken enough. printed command contents files room status new
      (sure.complete command contents there refl taken refl enough);
  held = λ command contents there taken each.
      printed command contents files room status new (sure.held command contents there refl taken refl each);
  refused = λ command contents refusal there refuses. sure.refused command contents refusal there refl refuses;
}

-- the same of a folder and a sink that were made with nothing listed to fail
pub answers_of_fresh : (words : List (List ℕ)) (files : List (String Global × Vec ℕ Global))
    (loads : List ℕ) (puts : List (ℕ × ℕ)) (room status : ℕ)
    (folder : FolderState) (out : SinkState) (new : Outside) → folder ≡ fresh_folder files loads
    → loads ≡ [] → out ≡ fresh_sink room puts → puts ≡ [] →
    IsSure words (record { folder = folder; out = out }) new status → Answers words files room status new.out.written
answers_of_fresh words files loads puts room status folder out new folder_is no_loads out_is no_puts sure =
    let from : IsSure words (record { folder = fresh_folder files []; out = out }) new status =
    subst (λ (f : FolderState). IsSure words (record { folder = f; out = out }) new status)
    (folder_is ∙ ap (fresh_folder files) no_loads) sure in
    answers words files room status new
    (subst (λ (o : SinkState). IsSure words (record { folder = fresh_folder files []; out = o }) new status)
    (out_is ∙ ap (fresh_sink room) no_puts) from)

-- ---- the line

written : (new : SinkState) (room : ℕ) (line : List ℕ) → length line ≤ room
    → (Grows (fresh_sink room []) new line ⊎ (Rose 0 new.faults × LacksRoom (fresh_sink room []) line)) →
    new.written ≡ line
written new room line enough (inl grew) = grew refl
written new room line enough (inr (failed, lacked)) = let short = lacked refl in absurd (omega (arith, enough, short))

-- into a sink that was made with nothing listed to fail
pub says_line : (words : List (List ℕ)) (old new : Outside) (puts : List (ℕ × ℕ)) (room status : ℕ)
    (from to : SinkState) → from ≡ fresh_sink room puts → puts ≡ [] →
    RunsTo words old new from to status → SaysLine room status to.written
says_line words old new puts room status from to is none run = record {
  ending = run.ending;
  status_is = run.status_is;
  line = λ enough.
      let said : Says (fresh_sink room []) to (line_of run.ending) =
      subst (λ (x : SinkState). Says x to (line_of run.ending)) (is ∙ ap (fresh_sink room) none) run.says in
      written to room (line_of run.ending) enough said.whole;
}
